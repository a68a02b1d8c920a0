-- What an operation comes to, where its arguments and the keys have types (Python typing specification, "Union types"): its type, whether it is a fault, and the keys that it asks.
use Rattle.std.specs.Prelude.{Bool, List, length}
use Rattle.py_base.specs.declared.ids.NodeId.{NodeId}
use Rattle.py_base.specs.declared.key.Key.{Key}
use Rattle.type_terms.specs.Types.{type_of}
use Rattle.type_terms.specs.declared.atom.Atom.{Atom}
use Rattle.value_terms.specs.Asks.{with_arguments}
use Rattle.value_terms.specs.Outcome.{named}
use Rattle.value_terms.specs.Term.{Assignment, eval}
use Rattle.value_terms.specs.Told.{has_some}
use Rattle.op_rules.specs.Results.{CallSite}
use Rattle.op_rules.specs.World.{Rule}

abbrev pub given_type : List (List Atom) → Rule → Assignment Key Atom → List Atom
given_type args rule s = type_of (eval (with_arguments args rule).gives s)

abbrev pub is_fault : List (List Atom) → Rule → Assignment Key Atom → Bool
is_fault args rule s = has_some (eval (with_arguments args rule).fails s)

abbrev pub keys_named : List (List Atom) → Rule → Assignment Key Atom → List Key
keys_named args rule s = named (with_arguments args rule) s

-- a call at a node with these arguments
abbrev pub call_at : NodeId → List (List Atom) → CallSite
call_at node args = record { count = length args; node = node }
