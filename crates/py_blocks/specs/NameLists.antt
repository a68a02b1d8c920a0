-- What a set of names has, each looked up by its bytes (for contracts of inner functions; Python 3.12 language reference, 2.3, "Identifiers
-- and keywords").
use Rattle.std.specs.Prelude.{ℕ, Bool, List}
use Rattle.std.specs.BTreeSet.{BTreeSet, contains_by}
use Rattle.std.specs.Cmp.Lexicographic.{slice_cmp}
use Rattle.std.specs.Ordering.{nat_cmp}
use denote.Ref.{Bor}

abbrev pub has_text : BTreeSet (Bor (List ℕ)) → List ℕ → Bool
has_text set n = contains_by (λ name. slice_cmp nat_cmp n name.now) set
