-- What a table of the first offsets of the lines stands for: the lengths of the lines, in a text of so
-- many characters. A line reaches from its first offset to that of the next line, the last one to the end.
use Rattle.std.specs.Prelude.{◌≡◌, ℕ, ◌-◌, ◌<◌, ◌≤◌, List, [], ◌∷◌, length, slice_index}

abbrev pub lengths_between : List ℕ → ℕ → List ℕ
lengths_between [] count = []
lengths_between (start ∷ []) count = (count - start) ∷ []
lengths_between (start ∷ next ∷ more) count = (next - start) ∷ lengths_between (next ∷ more) count

-- no line begins before the one above it, and none behind the end of the text
abbrev pub RiseTo : List ℕ → ℕ → Type 0
RiseTo [] count = Unit {0}
RiseTo (start ∷ []) count = start ≤ count
RiseTo (start ∷ next ∷ more) count = (start ≤ next) × RiseTo (next ∷ more) count

-- the table is that of some text of so many characters, which has at most 4 MiB and so fewer line ends
pub record AreStarts (starts : List ℕ) (count : ℕ) : Type 0 where
  pub some : 0 < length starts
  pub first : slice_index starts 0 ≡ 0
  pub rise : RiseTo starts count
  pub few : length starts ≤ 4_194_305
  pub short : count ≤ 4_194_304
