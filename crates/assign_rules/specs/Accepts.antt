-- Whether a source is accepted by a target: whether some finite set of questions has this one, and each question of the set holds if those of the set do. So a pair that
-- is met again inside itself counts as accepted: of all the sets of questions that support themselves the greatest is meant (Python typing specification,
-- "Assignability", read coinductively, since the types of displays may hold themselves).
use Rattle.std.specs.Prelude.{◌≡◌, ◌⊎◌, ◌↔◌, ◌||◌, Bool, true, List, filter_map, All, Contains}
use Rattle.std.specs.List.{list_any, Any}
use Rattle.py_base.specs.declared.ids.ClassId.{ClassId}
use Rattle.py_base.specs.declared.key.Key.{Key}
use Rattle.type_terms.specs.declared.atom.Atom.{Atom}
use Rattle.type_terms.specs.declared.atom.Atom.TheVariants as atom
use Rattle.assign_rules.specs.declared.question.Question.{Question}
use Rattle.assign_rules.specs.declared.question.Question.TheVariants.{Accepted, Same}
use Rattle.assign_rules.specs.Members.{Table, is_instance}
use Rattle.assign_rules.specs.Goes.{goes, like, passes, takes_all, is_unknown}

-- a test by which an instance goes to a class besides
abbrev pub Test : Type 1
Test = Atom → ClassId → Type 0

abbrev pub no_test : Test
no_test low high = ⊥

-- the same answers, whatever the types of the keys are
abbrev pub SameTest : ((Key → List Atom) → Test) → ((Key → List Atom) → Test) → Type 0
SameTest one other = (types : Key → List Atom) (low : Atom) (high : ClassId) → one types low high ↔ other types low high

-- the ways in which a member goes to some of these
abbrev pub ways : Table → Atom → List Atom → List (List Question)
ways t low target = filter_map (goes t low) target

abbrev pub like_ways : Table → Atom → List Atom → List (List Question)
like_ways t one others = filter_map (like t one) others

-- the questions of one of the ways are all in the set
abbrev pub HasWay : List Question → List (List Question) → Type 0
HasWay set ways = Any (λ way. All (Contains set) way) ways

pub record ByTest (test : Test) (low : Atom) (target : List Atom) : Type 0 where
  pub instance : is_instance low ≡ true
  pub high : ClassId
  pub there : Contains target (atom.Inst high)
  pub holds : test low high

-- a member passes by itself, or goes to one of the target's
abbrev pub IsTaken : Table → Test → List Question → List Atom → Atom → Type 0
IsTaken t test set target low = (passes t.classes low ≡ true) ⊎ HasWay set (ways t low target) ⊎ ByTest test low target

abbrev pub has_unknown : List Atom → Bool
has_unknown type = list_any is_unknown type

-- each member of either has its like in the other
abbrev pub HaveLikes : Table → List Question → List Atom → List Atom → Type 0
HaveLikes t set xs ys = All (λ x. HasWay set (like_ways t x ys)) xs × All (λ y. HasWay set (like_ways t y xs)) ys

-- a question holds if those of the set do
abbrev pub Holds : Table → Test → List Question → Question → Type 0
Holds t test set (Accepted source target) = (list_any takes_all target ≡ true) ⊎ All (IsTaken t test set target) source
Holds t test set (Same xs ys) = ((has_unknown xs || has_unknown ys) ≡ true) ⊎ HaveLikes t set xs ys

abbrev pub SupportsItself : Table → Test → List Question → Type 0
SupportsItself t test set = All (Holds t test set) set

pub record Accepts (t : Table) (test : Test) (source target : List Atom) : Type 0 where
  pub set : List Question
  pub asked : Contains set (Accepted source target)
  pub supported : SupportsItself t test set
