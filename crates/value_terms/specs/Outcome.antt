-- What a rule says of an operation: the type that it gives, and whether it is a fault. It is one where the
-- second term has a member, whatever that is.
use Rattle.std.specs.Prelude.{List, [], ◌∷◌, ◌++◌}
use Rattle.value_terms.specs.Term.{Term, join, each, mapped, never, Assignment, reads}

pub record Outcome (K A : Type 0) : Type 0 where
  pub gives : Term K A
  pub fails : Term K A

module _ {K A : Type 0} where
  -- without a fault
  abbrev pub gives : Term K A → Outcome K A
  gives x = record { gives = x; fails = never }

  -- what either says: a fault of one of them is a fault of both
  abbrev pub either : Outcome K A → Outcome K A → Outcome K A
  either one other = record { gives = join one.gives other.gives; fails = join one.fails other.fails }

  abbrev pub nothing : Outcome K A
  nothing = gives never

  abbrev pub any_of : List (Outcome K A) → Outcome K A
  any_of [] = nothing
  any_of (o ∷ os) = either o (any_of os)

  -- what a rule says for each member of a term
  abbrev pub for_each : Term K A → (A → Outcome K A) → Outcome K A
  for_each x rule = record { gives = each x (λ a. (rule a).gives); fails = each x (λ a. (rule a).fails) }

  -- a rule for each member of what another operation gives
  abbrev pub and_then : Outcome K A → (A → Outcome K A) → Outcome K A
  and_then first rule = either (record { gives = never; fails = first.fails }) (for_each first.gives rule)

  -- the keys that it names
  abbrev pub named : Outcome K A → Assignment K A → List K
  named o s = reads o.gives s ++ reads o.fails s

  -- its type as one term, which asks for what the fault depends on too and gives nothing for it
  abbrev pub type_term : Outcome K A → Term K A
  type_term o = join o.gives (mapped o.fails (λ a. []))
