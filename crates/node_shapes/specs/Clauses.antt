-- The clauses of compound statements (Python 3.12 language reference, section 8): each is a header and its body, the statements in the
-- header's line or the block behind it.
use Rattle.std.specs.Prelude.{ℕ, suc, Bool, true, false, List, [], ◌∷◌, Option, None, Some, length, filter_map, slice_get, if◌then◌else◌}
use Rattle.std.specs.List.{range_with_len}
use Rattle.py_base.specs.declared.ids.NodeId.{NodeId}
use Rattle.py_base.specs.declared.node.Node.{Node}
use Rattle.py_base.specs.declared.node.NodeKind.{NodeKind}
use Rattle.py_base.specs.declared.node.NodeKind.TheVariants as kinds
use Rattle.py_base.specs.Nodes.{kind_at, parts_at}
use Rattle.node_shapes.specs.Parts.{part_of, head, last_or, but_last, without_comma}
use Rattle.node_shapes.specs.Kinds.{is_async, is_compound}
use Rattle.node_shapes.specs.declared.clauses.Clause.{Clause}
use Rattle.node_shapes.specs.declared.clauses.Header.{Header}
use Rattle.node_shapes.specs.declared.clauses.Header.TheVariants as headers
use Rattle.node_shapes.specs.declared.clauses.DefHeader.{DefHeader}
use Rattle.node_shapes.specs.declared.clauses.ClassHeader.{ClassHeader}
use Rattle.node_shapes.specs.declared.clauses.WithEntry.{WithEntry}

-- decorators, blocks and faulty lines among the parts of a statement are no headers
abbrev pub is_header : NodeKind → Bool
is_header kinds.Decorator = false
is_header kinds.Block = false
is_header kinds.Fault = false
is_header kind = true

abbrev pub behind_async : List Node → NodeId → NodeKind → List NodeId → NodeId
behind_async nodes n kinds.Async (header ∷ []) = header
behind_async nodes n kind parts = n

-- whether statements stand in the header's line
abbrev pub is_filled : NodeKind → List NodeId → Bool
is_filled kinds.Suite (p ∷ more) = true
is_filled kind parts = false

abbrev pub body_of : List Node → NodeId → Option NodeId → NodeId
body_of nodes suite None = suite
body_of nodes suite (Some behind) = if is_filled (kind_at nodes suite) (parts_at nodes suite) then suite else behind

abbrev pub clause_of : List Node → Bool → NodeId → Option NodeId → Clause
clause_of nodes asynchronous header behind =
    record { header = header; asynchronous = asynchronous; body = body_of nodes (last_or header (parts_at nodes header)) behind }

abbrev pub clause_by : List Node → NodeId → Option NodeId → Option Clause
clause_by nodes p behind =
    if is_header (kind_at nodes p)
    then Some (clause_of nodes (is_async (kind_at nodes p)) (behind_async nodes p (kind_at nodes p) (parts_at nodes p)) behind) else None

abbrev pub clause_from : List Node → Option NodeId → Option NodeId → Option Clause
clause_from nodes None behind = None
clause_from nodes (Some p) behind = clause_by nodes p behind

-- THE CLAUSE OF A COMPOUND STATEMENT or a case whose header is its i-th part
abbrev pub clause : List Node → NodeId → ℕ → Option Clause
clause nodes n i =
    if is_compound (kind_at nodes n) then clause_from nodes (slice_get (parts_at nodes n) i) (slice_get (parts_at nodes n) (suc i)) else None

-- ALL ITS CLAUSES, in the order of the text; decorators, blocks and error lines among its parts are none
abbrev pub clauses : List Node → NodeId → List Clause
clauses nodes n = filter_map (clause nodes n) (range_with_len 0 (length (parts_at nodes n)))

-- what stands before the suite of a header
abbrev pub except_by : Bool → List NodeId → Header
except_by starred (suite ∷ []) = headers.Except (record { starred = starred; class = None; name = None })
except_by starred (class ∷ suite ∷ []) = headers.Except (record { starred = starred; class = Some class; name = None })
except_by starred (class ∷ name ∷ suite ∷ []) = headers.Except (record { starred = starred; class = Some class; name = Some name })
except_by starred parts = headers.NoHeader

abbrev pub is_types : NodeKind → Bool
is_types kinds.TypeParameters = true
is_types _ = false

abbrev pub is_parameters : NodeKind → Bool
is_parameters kinds.Parameters = true
is_parameters _ = false

abbrev pub is_arguments : NodeKind → Bool
is_arguments kinds.Arguments = true
is_arguments _ = false

abbrev pub is_result : NodeKind → Bool
is_result kinds.Result = true
is_result _ = false

abbrev pub within : List Node → Option NodeId → Option NodeId
within nodes None = None
within nodes (Some p) = head (parts_at nodes p)

abbrev pub def_header : List Node → NodeId → NodeId → DefHeader
def_header nodes n name = record {
  name = name;
  types = part_of nodes is_types n;
  parameters = part_of nodes is_parameters n;
  result = within nodes (part_of nodes is_result n);
}

abbrev pub class_header : List Node → NodeId → NodeId → ClassHeader
class_header nodes n name = record {
  name = name;
  types = part_of nodes is_types n;
  arguments = part_of nodes is_arguments n;
}

abbrev pub header_by : List Node → NodeId → NodeKind → List NodeId → Header
header_by nodes n kinds.If (test ∷ suite ∷ []) = headers.If test
header_by nodes n kinds.Elif (test ∷ suite ∷ []) = headers.Elif test
header_by nodes n kinds.Else (suite ∷ []) = headers.Else
header_by nodes n kinds.While (test ∷ suite ∷ []) = headers.While test
header_by nodes n kinds.For (targets ∷ iterable ∷ suite ∷ []) = headers.For targets iterable
header_by nodes n kinds.Try (suite ∷ []) = headers.Try
header_by nodes n kinds.Except parts = except_by false parts
header_by nodes n kinds.ExceptStar parts = except_by true parts
header_by nodes n kinds.Finally (suite ∷ []) = headers.Finally
header_by nodes n kinds.With (item ∷ suite ∷ more) = headers.With
header_by nodes n kinds.Def (name ∷ more) = headers.Def (def_header nodes n name)
header_by nodes n kinds.Class (name ∷ more) = headers.Class (class_header nodes n name)
header_by nodes n kinds.Match (subject ∷ more) = headers.Match subject
header_by nodes n kinds.Case (pattern ∷ suite ∷ []) = headers.Case pattern None
header_by nodes n kinds.Case (pattern ∷ guard ∷ suite ∷ []) = headers.Case pattern (Some guard)
header_by nodes n kind parts = headers.NoHeader

-- WHAT A HEADER SAYS
abbrev pub header : List Node → NodeId → Header
header nodes n = header_by nodes n (kind_at nodes n) (parts_at nodes n)

abbrev pub with_entry_in : NodeId → NodeKind → List NodeId → WithEntry
with_entry_in n kinds.WithItem (value ∷ target ∷ []) = record { value = value; target = Some target }
with_entry_in n kind parts = record { value = n; target = None }

-- WHAT AN ITEM OF `with` IS
abbrev pub with_entry : List Node → NodeId → WithEntry
with_entry nodes n = with_entry_in n (kind_at nodes n) (parts_at nodes n)

abbrev pub with_parts : NodeKind → List NodeId → List NodeId
with_parts kinds.With parts = but_last parts
with_parts kind parts = []

-- THE ITEMS OF A `with` HEADER, in the order of the text
abbrev pub with_items : List Node → NodeId → List NodeId
with_items nodes n = without_comma nodes (with_parts (kind_at nodes n) (parts_at nodes n))
