-- The clauses of a compound statement, each a header and its body, and which parts of a node run (Python 3.12 language reference,
-- section 8: the body of a header is the simple statements in its line, or the block behind it).
use Rattle.std.specs.Prelude.{Bool, true, false, List, [], ◌∷◌, ◌++◌, Option, None, Some, filter, if◌then◌else◌, not}
use Rattle.py_base.specs.declared.ids.NodeId.{NodeId}
use Rattle.py_base.specs.declared.node.Node.{Node}
use Rattle.py_base.specs.declared.node.NodeKind.{NodeKind}
use Rattle.py_base.specs.declared.node.NodeKind.TheVariants as kinds
use Rattle.py_base.specs.Nodes.{kind_at, parts_at}
use Rattle.flow_forms.specs.declared.clauses.Clause.{Clause}

-- what stands among parts and doesn't run: commas, operators and colons, marks among parameters, annotations of results, what an
-- import names as its source, and the suite of a header, which is read with its header
abbrev pub is_silent : NodeKind → Bool
is_silent kinds.LastComma = true
is_silent kinds.Link = true
is_silent kinds.Colon = true
is_silent kinds.Slash = true
is_silent kinds.BareStar = true
is_silent kinds.Result = true
is_silent kinds.Suite = true
is_silent kind = false

abbrev pub runs : List Node → NodeId → Bool
runs nodes n = not (is_silent (kind_at nodes n))

-- the parts that run
abbrev pub running : List Node → List NodeId → List NodeId
running nodes parts = filter (runs nodes) parts

abbrev pub first_or : NodeId → List NodeId → NodeId
first_or here [] = here
first_or here (p ∷ more) = p

abbrev pub second_or : NodeId → List NodeId → NodeId
second_or here (p ∷ q ∷ more) = q
second_or here parts = here

abbrev pub last_or : NodeId → List NodeId → NodeId
last_or here [] = here
last_or here (p ∷ more) = last_or p more

-- `async` stands before its header
abbrev pub header_of : List Node → NodeId → NodeKind → NodeId
header_of nodes n kinds.Async = first_or n (parts_at nodes n)
header_of nodes n kind = n

-- whether a suite has statements
abbrev pub is_filled : NodeKind → List NodeId → Bool
is_filled kinds.Suite (p ∷ more) = true
is_filled kind parts = false

-- the body of a header whose last part is this one: the statements in its line, or what stands behind it
abbrev pub body_of : List Node → NodeId → Option NodeId → NodeId
body_of nodes last None = last
body_of nodes last (Some behind) = if is_filled (kind_at nodes last) (parts_at nodes last) then last else behind

abbrev pub clause_of : List Node → NodeId → Option NodeId → Clause
clause_of nodes header behind = record {
  header = header;
  kind = kind_at nodes header;
  parts = running nodes (parts_at nodes header);
  body = body_of nodes (last_or header (parts_at nodes header)) behind;
}

-- decorators, blocks and error lines between clauses are no headers
abbrev pub is_header : NodeKind → Bool
is_header kinds.Decorator = false
is_header kinds.Block = false
is_header kinds.Fault = false
is_header kind = true

abbrev pub clause_at : List Node → NodeId → Option NodeId → List Clause
clause_at nodes part behind =
    if is_header (kind_at nodes part) then clause_of nodes (header_of nodes part (kind_at nodes part)) behind ∷ [] else []

-- THE CLAUSES of a statement with these parts, in order
abbrev pub clauses_from : List Node → NodeId → List NodeId → List Clause
clauses_from nodes part [] = clause_at nodes part None
clauses_from nodes part (next ∷ more) = clause_at nodes part (Some next) ++ clauses_from nodes next more

abbrev pub clauses_of : List Node → List NodeId → List Clause
clauses_of nodes [] = []
clauses_of nodes (part ∷ more) = clauses_from nodes part more
