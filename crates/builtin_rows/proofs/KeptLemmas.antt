-- What is kept of the names tells what the table says of them.
use Rattle.std.proofs.Common.{◌≡◌, ◌==◌, ◌+◌, ◌&&◌, ℕ, Bool, true, false, cond, List, [], ◌∷◌, ◌++◌, map, refl, sym, ap, ◌∙◌, zero, suc, Option, Some}
use Rattle.std.specs.Prelude.{option_map, find, slice_get, bytes_eq, unwrap_or, if◌then◌else◌}
use Rattle.std.specs.List.{position_from}
use Rattle.type_terms.specs.declared.atom.Atom.{Atom}
use Rattle.builtin_rows.specs.declared.held.Held.{Held}
use Rattle.builtin_rows.specs.declared.held.Member.{Member}
use Rattle.builtin_rows.specs.declared.table.Owner.{Owner}
use Rattle.py_base.specs.LanguageNames.{language_names}
use Rattle.type_terms.specs.declared.rows.Row.{Row}
use Rattle.builtin_rows.specs.Held.{asked, held_from, members_of, number_among, type_among}
use Rattle.builtin_rows.specs.Kept.{flat}
use Rattle.builtin_rows.specs.Rows.{by_text, name_number, entry_type, builtin_named, module_named, row_number, is_call, row_of, row_at, no_row}
use Rattle.builtin_rows.specs.Table.{RowLine, ModuleLine, rows, entries}

-- what is kept for each text, asked at a place, is what the text at that place has
pub kept_at : {X : Type 0} (f : List ℕ → Option X) (names : List (List ℕ)) (k : ℕ) → by_text f (slice_get names k) ≡ flat (slice_get (map f names) k)
kept_at f [] k = refl
kept_at f (text ∷ names) zero = refl
kept_at f (text ∷ names) (suc k) = kept_at f names k

pub kept_asked : {X Y : Type 0} (f : List ℕ → X) (p : X → Option Y) (q : List ℕ → Option Y) (same : (text : List ℕ) → p (f text) ≡ q text) (names : List (List ℕ)) (k : ℕ)
    → asked p (slice_get (map f names) k) ≡ by_text q (slice_get names k)
kept_asked f p q same [] k = refl
kept_asked f p q same (text ∷ names) zero = same text
kept_asked f p q same (text ∷ names) (suc k) = kept_asked f p q same names k

abbrev held_if : Bool → Owner → ℕ → List Held
held_if b owner n = if b then record { owner = owner; number = n } ∷ [] else []

pub number_is : (p : Owner → Bool) (text : List ℕ) (n : ℕ) (lines : List RowLine)
    → number_among p (held_from text n lines) ≡ position_from (λ line. bytes_eq text line.name && p line.owner) n lines
number_is p text n [] = refl
number_is p text n (line ∷ lines) = step (bytes_eq text line.name) (p line.owner) refl (number_is p text (n + 1) lines)
  where
    step : (b o : Bool) → p line.owner ≡ o → number_among p (held_from text (n + 1) lines) ≡ position_from (λ line. bytes_eq text line.name && p line.owner) (n + 1) lines
        → number_among p (held_if b line.owner n ++ held_from text (n + 1) lines) ≡ cond (b && p line.owner) (Some n) (position_from (λ line. bytes_eq text line.name && p line.owner) (n + 1) lines)
    step false o e rest = rest
    step true true e rest = rw e refl
    step true false e rest = rw e rest

abbrev member_if : Bool → ModuleLine → List Member
member_if b line = if b then record { owner = name_number line.owner; ty = entry_type line } ∷ [] else []

abbrev is_member : ℕ → List ℕ → ModuleLine → Bool
is_member owner text line = bytes_eq text line.name && (name_number line.owner == owner)

pub member_is : (owner : ℕ) (text : List ℕ) (lines : List ModuleLine)
    → type_among owner (members_of text lines) ≡ option_map entry_type (find (λ line. bytes_eq text line.name && (name_number line.owner == owner)) lines)
member_is owner text [] = refl
member_is owner text (line ∷ lines) = step (bytes_eq text line.name) (name_number line.owner == owner) refl (member_is owner text lines)
  where
    step : (b o : Bool) → (name_number line.owner == owner) ≡ o → type_among owner (members_of text lines) ≡ option_map entry_type (find (is_member owner text) lines)
        → type_among owner (member_if b line ++ members_of text lines) ≡ option_map entry_type (cond (b && (name_number line.owner == owner)) (Some line) (find (is_member owner text) lines))
    step false o e rest = rest
    step true true e rest = rw e refl
    step true false e rest = rw e rest

-- the kept lists answer as the table
pub name_kept : (types : List (Option (List Atom))) (k : ℕ) → types ≡ map builtin_named language_names → flat (slice_get types k) ≡ by_text builtin_named (slice_get language_names k)
name_kept types k e = ap (λ (l : List (Option (List Atom))). flat (slice_get l k)) e ∙ sym (kept_at builtin_named language_names k)

pub rows_kept : (owns : Owner → Bool) (held : List (List Held)) (k : ℕ) → held ≡ map (λ text. held_from text 0 rows) language_names
    → asked (number_among owns) (slice_get held k) ≡ by_text (row_number owns) (slice_get language_names k)
rows_kept owns held k e =
    ap (λ (l : List (List Held)). asked (number_among owns) (slice_get l k)) e ∙
    kept_asked (λ text. held_from text 0 rows) (number_among owns) (row_number owns) (λ text. number_is owns text 0 rows) language_names k

pub call_kept : (held : List (List Held)) (k : ℕ) → held ≡ map (λ text. held_from text 0 rows) language_names
    → asked (number_among is_call) (slice_get held k) ≡ by_text (row_number is_call) (slice_get language_names k)
call_kept held k e = rows_kept is_call held k e

module_is : (owner : ℕ) (text : List ℕ) → type_among owner (members_of text entries) ≡ module_named owner text
unfolding module_named
module_is owner text = member_is owner text entries

pub module_kept : (owner : ℕ) (members : List (List Member)) (k : ℕ) → members ≡ map (λ text. members_of text entries) language_names
    → asked (type_among owner) (slice_get members k) ≡ by_text (module_named owner) (slice_get language_names k)
module_kept owner members k e =
    ap (λ (l : List (List Member)). asked (type_among owner) (slice_get l k)) e ∙
    kept_asked (λ text. members_of text entries) (type_among owner) (module_named owner) (module_is owner) language_names k

pub row_kept : (lines : List Row) (n : ℕ) (found : Option Row) (line : Row) → lines ≡ map row_of rows → found ≡ slice_get lines n → line ≡ unwrap_or found no_row → line ≡ row_at n
unfolding row_at
row_kept lines n found line e at is = is ∙ ap (λ (o : Option Row). unwrap_or o no_row) (at ∙ ap (λ (l : List Row). slice_get l n) e)
