-- The rows of expressions: which edges an expression has of its own, by which exits it is left, and how its parts run (Python 3.12
-- language reference, sections 6.2 to 6.16).
use Rattle.std.specs.Prelude.{ℕ, List, [], ◌∷◌, ◌++◌, Option, None, Some}
use Rattle.py_base.specs.declared.ids.NodeId.{NodeId}
use Rattle.flow_rows.specs.declared.point.Point.{Point}
use Rattle.flow_rows.specs.declared.edge.Edge.{Edge}
use Rattle.flow_rows.specs.declared.edge.EdgeKind.{EdgeKind}
use Rattle.flow_rows.specs.declared.edge.EdgeKind.TheVariants.{Plain, Handler}
use Rattle.flow_rows.specs.declared.edge.EdgeKind.TheVariants as kinds
use Rattle.flow_rows.specs.declared.choices.Operation.{Operation}
use Rattle.flow_rows.specs.declared.choices.Operation.TheVariants as operations
use Rattle.flow_rows.specs.declared.route.Channel.{Channel}
use Rattle.flow_rows.specs.declared.route.Channel.TheVariants.{Yes, No}
use Rattle.flow_rows.specs.declared.route.Channel.TheVariants as channels
use Rattle.flow_rows.specs.declared.route.Dest.{Dest}
use Rattle.flow_rows.specs.declared.route.Dest.TheVariants.{To, Up}
use Rattle.flow_rows.specs.declared.route.Route.TheVariants.{Through}
use Rattle.flow_rows.specs.declared.route.Mode.{Mode}
use Rattle.flow_rows.specs.declared.route.Mode.TheVariants.{Value, Condition, Body}
use Rattle.flow_rows.specs.declared.route.Kid.{Kid}
use Rattle.flow_rows.specs.declared.route.Row.{Row}
use Rattle.flow_rows.specs.declared.form.Choice.{Choice}
use Rattle.flow_rows.specs.declared.form.Function.{Function}
use Rattle.flow_rows.specs.declared.form.ComprehensionClause.{ComprehensionClause}
use Rattle.flow_rows.specs.declared.form.ComprehensionClause.TheVariants as clauses
use Rattle.flow_rows.specs.Points.{own, again, start, edge}
use Rattle.flow_rows.specs.Routes.{exit}
use Rattle.flow_rows.specs.declared.ends.Ends.{Ends}
use Rattle.flow_rows.specs.Ends.{first_of, last_of}
use Rattle.flow_rows.specs.Paths.{path, path_end, chain, chain_to, plain_kid, test_kid, kids_by, finish, empty}

-- the parts in order, then the node itself
abbrev pub steps_row : List Ends → NodeId → List NodeId → ℕ → Mode → Row
steps_row t n parts c m = record { arrows = chain_to t c parts (own n c) Plain; exits = finish n c m; kids = kids_by c Through parts }

-- the parts in order
abbrev pub sequence_row : List Ends → List NodeId → ℕ → Row
sequence_row t parts c = record { arrows = chain t c parts; exits = []; kids = kids_by c Through parts }

-- the callee and the arguments in order, then the call; the handlers around are entered from the point before it
abbrev pub call_row : List Ends → NodeId → NodeId → List NodeId → ℕ → Mode → Row
call_row t n callee arguments c m = record {
  arrows = path t c (last_of t callee c) Plain arguments ++ edge (path_end t c (last_of t callee c) arguments) (own n c) (kinds.Call n) ∷ [];
  exits = finish n c m ++ exit channels.Raise (path_end t c (last_of t callee c) arguments) Handler ∷ [];
  kids = plain_kid c callee ∷ kids_by c Through arguments;
}

-- where an operation leads that is true or false: as a condition out by that exit, as a value to its own point
abbrev pub outcome : NodeId → ℕ → Mode → Channel → Dest
outcome n c Condition channel = Up channel
outcome n c Value channel = To (own n c)
outcome n c Body channel = To (own n c)

-- the parts of an operation: `and` goes on to b at the true exit of a, `or` at the false exit, and `not` swaps the exits
abbrev pub operation_kids : List Ends → NodeId → Operation → ℕ → Mode → List Kid
operation_kids t n (operations.And a b) c m =
    test_kid c a (To (first_of t b c)) (outcome n c m No) ∷ test_kid c b (outcome n c m Yes) (outcome n c m No) ∷ []
operation_kids t n (operations.Or a b) c m =
    test_kid c a (outcome n c m Yes) (To (first_of t b c)) ∷ test_kid c b (outcome n c m Yes) (outcome n c m No) ∷ []
operation_kids t n (operations.Not a) c m = test_kid c a (outcome n c m No) (outcome n c m Yes) ∷ []

abbrev pub operation_row : List Ends → NodeId → Operation → ℕ → Mode → Row
operation_row t n operation c m = record { arrows = []; exits = []; kids = operation_kids t n operation c m }

-- brackets are seen through; as a value they have a point
abbrev pub group_row : List Ends → NodeId → NodeId → ℕ → Mode → Row
group_row t n a c Value = record { arrows = edge (last_of t a c) (own n c) Plain ∷ []; exits = []; kids = plain_kid c a ∷ [] }
group_row t n a c Condition = record { arrows = []; exits = []; kids = test_kid c a (Up Yes) (Up No) ∷ [] }
group_row t n a c Body = empty

-- the test first, though it is written second
abbrev pub choice_row : List Ends → NodeId → Choice → ℕ → Mode → Row
choice_row t n choice c Value = record {
  arrows = edge (last_of t choice.value c) (own n c) Plain ∷ edge (last_of t choice.other c) (own n c) Plain ∷ [];
  exits = [];
  kids = test_kid c choice.test (To (first_of t choice.value c)) (To (first_of t choice.other c))
      ∷ plain_kid c choice.value ∷ plain_kid c choice.other ∷ [];
}
choice_row t n choice c Condition = record {
  arrows = [];
  exits = [];
  kids = test_kid c choice.test (To (first_of t choice.value c)) (To (first_of t choice.other c))
      ∷ test_kid c choice.value (Up Yes) (Up No) ∷ test_kid c choice.other (Up Yes) (Up No) ∷ [];
}
choice_row t n choice c Body = empty

-- an edge from a point, where there is one
abbrev pub entered : Option Point → Point → List Edge
entered None to = []
entered (Some from) to = edge from to Plain ∷ []

-- The clauses of a comprehension, each entered from the point before it, within the loop around; `for` evaluates its iterable, and its
-- label goes on to the target and to the loop around; `if` goes on from its true exit, and its false exit goes to the loop around.
-- The element is evaluated in the innermost loop.
abbrev pub loop_arrows : List Ends → ℕ → NodeId → Option Point → Point → List ComprehensionClause → List Edge
loop_arrows t c element from around [] = entered from (first_of t element c) ++ edge (last_of t element c) around Plain ∷ []
loop_arrows t c element from around (clauses.For k targets iterable ∷ more) =
    entered from (first_of t iterable c)
    ++ edge (last_of t iterable c) (again k c) Plain ∷ edge (again k c) (first_of t targets c) Plain ∷ edge (again k c) around Plain
    ∷ loop_arrows t c element (Some (last_of t targets c)) (again k c) more
loop_arrows t c element from around (clauses.If k test ∷ more) =
    entered from (first_of t test c) ++ loop_arrows t c element (Some (own k c)) around more

abbrev pub loop_kids : ℕ → NodeId → Point → List ComprehensionClause → List Kid
loop_kids c element around [] = plain_kid c element ∷ []
loop_kids c element around (clauses.For k targets iterable ∷ more) = plain_kid c iterable ∷ plain_kid c targets ∷ loop_kids c element (again k c) more
loop_kids c element around (clauses.If k test ∷ more) = test_kid c test (To (own k c)) (To around) ∷ loop_kids c element around more

-- the outermost loop ends at the form's own point
abbrev pub comprehension_row : List Ends → NodeId → NodeId → List ComprehensionClause → ℕ → Mode → Row
comprehension_row t n element clauses c m = record {
  arrows = loop_arrows t c element None (own n c) clauses;
  exits = finish n c m;
  kids = loop_kids c element (own n c) clauses;
}

-- a def or a lambda where it stands: what runs there in order, then the node itself; the edge to its start stands between two graphs,
-- and is no row's
abbrev pub function_row : List Ends → NodeId → Function → ℕ → Mode → Row
function_row t n function c m = record {
  arrows = chain_to t c function.before (own n c) Plain;
  exits = finish n c m;
  kids = kids_by c Through function.before;
}

-- a graph: from its start through what runs in it; no exit leads out of it
abbrev pub body_row : List Ends → NodeId → List NodeId → Row
body_row t n run = record { arrows = path t 0 (start n) Plain run; exits = []; kids = kids_by 0 Through run }
