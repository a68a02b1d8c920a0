-- Lists that lie one behind the other in one list (how this project stores them; nothing in a standard speaks of it).
use Rattle.std.specs.Prelude.{ℕ, ◌≡◌, ◌≤◌, List, Some, slice_get, slice_range, map}
use Rattle.point_graph.specs.declared.runs.Run.{Run}

-- the list that lies at a run
abbrev pub part : {A : Type 0} → List A → Run → List A
part xs r = slice_range xs r.from r.to

abbrev pub parts : {A : Type 0} → List A → List Run → List (List A)
parts xs runs = map (part xs) runs

-- the runs lie within so many elements
abbrev pub AreRuns : ℕ → List Run → Type 0
AreRuns count runs = (j : ℕ) (r : Run) → slice_get runs j ≡ Some r → (r.from ≤ r.to) × (r.to ≤ count)
