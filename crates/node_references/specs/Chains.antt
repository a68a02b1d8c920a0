-- How the names of references stand in one list (for proofs alone: no caller sees where they stand).
use Rattle.std.specs.Prelude.{ℕ, ◌≡◌, ◌-◌, ◌≤◌, List, [], ◌∷◌, ◌++◌, map, take, drop}
use Rattle.py_base.specs.declared.ids.NameId.{NameId}
use Rattle.node_references.specs.Reference.{Reference, reference}
use Rattle.node_references.specs.declared.reference_list.Chain.{Chain}

-- the names of a run
abbrev pub between : ℕ → ℕ → List NameId → List NameId
between from to names = take (to - from) (drop from names)

-- the references that chains stand for
abbrev pub stored : List NameId → Chain → Reference
stored names chain = reference chain.root (between chain.from chain.to names)

abbrev pub references_of : List NameId → List Chain → List Reference
references_of names chains = map (stored names) chains

-- each run ends among the first so many names
abbrev pub AreRuns : ℕ → List Chain → Type 0
AreRuns count [] = Unit {0}
AreRuns count (chain ∷ more) = (chain.from ≤ chain.to) × (chain.to ≤ count) × AreRuns count more

-- names may have come at the end
abbrev pub IsLonger : List NameId → List NameId → Type 0
IsLonger old new = (more : List NameId) × (new ≡ old ++ more)
