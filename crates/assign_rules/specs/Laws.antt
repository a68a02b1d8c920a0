-- What follows of acceptance, whatever the types of the keys are. Acceptance falls with more members in the source and rises with more in the target; it is
-- not monotone in the types of keys, since the slots of list, set and dict are compared in both directions.
use Rattle.std.specs.Prelude.{List, [], ◌∷◌, Contains}
use Rattle.type_terms.specs.declared.atom.Atom.{Atom}
use Rattle.assign_rules.specs.Members.{Table}
use Rattle.assign_rules.specs.Accepts.{Test, Accepts}

abbrev pub IsPart : List Atom → List Atom → Type 0
IsPart some all = (a : Atom) → Contains some a → Contains all a

-- each type is accepted by itself
abbrev pub Reflexive : Table → Test → Type 0
Reflexive t test = (type : List Atom) → Accepts t test type type

-- what is accepted is accepted by a type with more members, and what has fewer members is accepted too
abbrev pub Monotone : Table → Test → Type 0
Monotone t test = (low source target high : List Atom) → IsPart low source → Accepts t test source target → IsPart target high → Accepts t test low high

-- a type is accepted where each of its members is accepted alone
abbrev pub EachAlone : Table → Test → Type 0
EachAlone t test = (source target : List Atom) → ((a : Atom) → Contains source a → Accepts t test (a ∷ []) target) → Accepts t test source target
