-- Where the edges of each form leave from, and both ends of an edge.
use Rattle.std.proofs.Common.{◌≡◌, ℕ, ◌<◌, Bool, true, false, cond, nat_lt, List, [], ◌∷◌, ◌++◌, Option, None, Some, slice_get, map, refl, subst, ◌⊎◌, inl, inr}
use Rattle.py_base.specs.declared.ids.NodeId.{NodeId}
use Rattle.flow_rows.specs.declared.point.Point.{Point}
use Rattle.flow_rows.specs.declared.edge.Edge.{Edge}
use Rattle.flow_rows.specs.declared.edge.EdgeKind.{EdgeKind}
use Rattle.flow_rows.specs.declared.edge.EdgeKind.TheVariants.{Plain, Handler}
use Rattle.flow_rows.specs.declared.edge.EdgeKind.TheVariants as kinds
use Rattle.flow_rows.specs.declared.route.Channel.{Channel}
use Rattle.flow_rows.specs.declared.route.Channel.TheVariants as channels
use Rattle.flow_rows.specs.declared.route.Exit.{Exit}
use Rattle.flow_rows.specs.declared.route.Mode.{Mode}
use Rattle.flow_rows.specs.declared.route.Mode.TheVariants.{Value, Condition, Body}
use Rattle.flow_rows.specs.declared.form.Form.{Form}
use Rattle.flow_rows.specs.declared.form.Form.TheVariants as forms
use Rattle.flow_rows.specs.declared.form.Branch.{Branch}
use Rattle.flow_rows.specs.declared.form.Choice.{Choice}
use Rattle.flow_rows.specs.declared.form.Handler.{Handler as HandlerClause}
use Rattle.flow_rows.specs.declared.form.ComprehensionClause.{ComprehensionClause}
use Rattle.flow_rows.specs.declared.form.ComprehensionClause.TheVariants as clauses
use Rattle.flow_rows.specs.declared.ends.Ends.{Ends}
use Rattle.flow_rows.specs.Points.{edge, own, again, behind, fail, handlers, start, checked, normal}
use Rattle.flow_rows.specs.Ends.{first_of, last_of}
use Rattle.flow_rows.specs.Routes.{arrows_to, exit}
use Rattle.flow_rows.specs.Paths.{path, path_end, chain, chain_to, finish, empty, listed_part}
use Rattle.flow_rows.specs.Expressions.{entered, loop_arrows, group_row, choice_row}
use Rattle.flow_rows.specs.Statements.{jump_kind, message_arrows, arrow_behind, onward, handler_arrows, start_arrows, start_exits, cleanup_arrows, guarded}
use Rattle.flow_rows.specs.Rows.{row, graph_row}
use Rattle.flow_rows.specs.Flow.{Has, row_of, row_at, Leaves, of_own, of_part, Flows, by_own, by_part, by_exit, IsEdge}
use Rattle.flow_rows.specs.Laws.{LeavesOwn}

abbrev pub AllLeave : List Edge → Type 0
AllLeave [] = Unit {0}
AllLeave (e ∷ es) = LeavesOwn e.kind e.from × AllLeave es

abbrev pub ExitsLeave : List Exit → Type 0
ExitsLeave [] = Unit {0}
ExitsLeave (x ∷ xs) = LeavesOwn x.kind x.from × ExitsLeave xs

joined : (xs ys : List Edge) → AllLeave xs → AllLeave ys → AllLeave (xs ++ ys)
joined [] ys h k = k
joined (x ∷ xs) ys h k = (h.0, joined xs ys h.1 k)

exits_joined : (xs ys : List Exit) → ExitsLeave xs → ExitsLeave ys → ExitsLeave (xs ++ ys)
exits_joined [] ys h k = k
exits_joined (x ∷ xs) ys h k = (h.0, exits_joined xs ys h.1 k)

one_leaves : (xs : List Edge) (e : Edge) → AllLeave xs → Has xs e → LeavesOwn e.kind e.from
one_leaves [] e h w = absurd w
one_leaves (x ∷ xs) e h (inl same) = subst (λ (y : Edge). LeavesOwn y.kind y.from) same h.0
one_leaves (x ∷ xs) e h (inr w) = one_leaves xs e h.1 w

exit_leaves : (xs : List Exit) (x : Exit) → ExitsLeave xs → Has xs x → LeavesOwn x.kind x.from
exit_leaves [] x h w = absurd w
exit_leaves (y ∷ xs) x h (inl same) = subst (λ (z : Exit). LeavesOwn z.kind z.from) same h.0
exit_leaves (y ∷ xs) x h (inr w) = exit_leaves xs x h.1 w

-- ---- the lists of which rows are made

path_leaves : (t : List Ends) (c : ℕ) (from : Point) (kind : EdgeKind) (parts : List NodeId) → LeavesOwn kind from → AllLeave (path t c from kind parts)
path_leaves t c from kind [] h = tt
path_leaves t c from kind (p ∷ more) h = (h, path_leaves t c (last_of t p c) Plain more tt)

chain_leaves : (t : List Ends) (c : ℕ) (parts : List NodeId) → AllLeave (chain t c parts)
chain_leaves t c [] = tt
chain_leaves t c (p ∷ more) = path_leaves t c (last_of t p c) Plain more tt

chain_to_leaves : (t : List Ends) (c : ℕ) (parts : List NodeId) (to : Point) → AllLeave (chain_to t c parts to Plain)
chain_to_leaves t c [] to = tt
chain_to_leaves t c (p ∷ more) to = joined (path t c (last_of t p c) Plain more) _ (path_leaves t c (last_of t p c) Plain more tt) (tt, tt)

to_leave : (from : Point) (ps : List Point) → AllLeave (arrows_to from Plain ps)
to_leave from [] = tt
to_leave from (p ∷ ps) = (tt, to_leave from ps)

ends_leave : {A : Type 0} (from : A → Point) (to : Point) (xs : List A) → AllLeave (map (λ (x : A). edge (from x) to Plain) xs)
ends_leave from to [] = tt
ends_leave from to (x ∷ xs) = (tt, ends_leave from to xs)

entered_leaves : (from : Option Point) (to : Point) → AllLeave (entered from to)
entered_leaves None to = tt
entered_leaves (Some from) to = (tt, tt)

loops_leave : (t : List Ends) (c : ℕ) (element : NodeId) (from : Option Point) (around : Point) (cs : List ComprehensionClause) → AllLeave (loop_arrows t c element from around cs)
loops_leave t c element from around [] = joined (entered from (first_of t element c)) _ (entered_leaves from (first_of t element c)) (tt, tt)
loops_leave t c element from around (clauses.For k targets iterable ∷ more) =
    joined (entered from (first_of t iterable c)) _ (entered_leaves from (first_of t iterable c))
    (tt, (tt, (tt, loops_leave t c element (Some (last_of t targets c)) (again k c) more)))
loops_leave t c element from around (clauses.If k test ∷ more) =
    joined (entered from (first_of t test c)) _ (entered_leaves from (first_of t test c)) (loops_leave t c element (Some (own k c)) around more)

message_leaves : (t : List Ends) (n : NodeId) (message : Option NodeId) (c : ℕ) → AllLeave (message_arrows t n message c)
message_leaves t n None c = tt
message_leaves t n (Some p) c = (tt, tt)

behind_leaves : (t : List Ends) (c : ℕ) (part : Option NodeId) (to : Point) → AllLeave (arrow_behind t c part to)
behind_leaves t c None to = tt
behind_leaves t c (Some p) to = (tt, tt)

starts_leave : (t : List Ends) (n : NodeId) (c : ℕ) (hs : List HandlerClause) → AllLeave (start_arrows t n c hs)
starts_leave t n c [] = tt
starts_leave t n c (h ∷ more) = (tt, tt)

start_exits_leave : (n : NodeId) (c : ℕ) (hs : List HandlerClause) → ExitsLeave (start_exits n c hs)
start_exits_leave n c [] = (tt, tt)
start_exits_leave n c (h ∷ more) = tt

cleanup_leaves : (t : List Ends) (n : NodeId) (c : ℕ) (cleanup : Option NodeId) → AllLeave (cleanup_arrows t n c cleanup)
cleanup_leaves t n c None = tt
cleanup_leaves t n c (Some p) = (tt, (tt, tt))

handlers_leave : (t : List Ends) (n : NodeId) (c : ℕ) (ends : List Point) (hs : List HandlerClause) → AllLeave (handler_arrows t n c ends hs)
handlers_leave t n c ends [] = tt
handlers_leave t n c ends (h ∷ more) =
    joined (path t c (handlers n c) Plain h.steps ++ edge (path_end t c (handlers n c) h.steps) (behind h.header c) Plain ∷ arrows_to (behind h.header c) Plain ends)
    (handler_arrows t n c ends more)
    (joined (path t c (handlers n c) Plain h.steps) (edge (path_end t c (handlers n c) h.steps) (behind h.header c) Plain ∷ arrows_to (behind h.header c) Plain ends)
    (path_leaves t c (handlers n c) Plain h.steps tt) (tt, to_leave (behind h.header c) ends))
    (handlers_leave t n c ends more)

finish_leaves : (n : NodeId) (c : ℕ) (m : Mode) → ExitsLeave (finish n c m)
finish_leaves n c Value = tt
finish_leaves n c Condition = ((refl, refl), ((refl, refl), tt))
finish_leaves n c Body = tt

-- ---- rows

group_leaves : (t : List Ends) (n a : NodeId) (c : ℕ) (m : Mode) → AllLeave (group_row t n a c m).arrows × ExitsLeave (group_row t n a c m).exits
group_leaves t n a c Value = ((tt, tt), tt)
group_leaves t n a c Condition = (tt, tt)
group_leaves t n a c Body = (tt, tt)

choice_leaves : (t : List Ends) (n : NodeId) (choice : Choice) (c : ℕ) (m : Mode) → AllLeave (choice_row t n choice c m).arrows × ExitsLeave (choice_row t n choice c m).exits
choice_leaves t n choice c Value = ((tt, (tt, tt)), tt)
choice_leaves t n choice c Condition = (tt, tt)
choice_leaves t n choice c Body = (tt, tt)

jump_leaves : (channel : Channel) (a : Point) → LeavesOwn (jump_kind channel) a
jump_leaves channels.Yes a = tt
jump_leaves channels.No a = tt
jump_leaves channels.Break a = tt
jump_leaves channels.Continue a = tt
jump_leaves channels.Return a = tt
jump_leaves channels.Raise a = tt

row_leaves : (t : List Ends) (n : NodeId) (form : Form) (c : ℕ) (m : Mode) → AllLeave (row t n form c m).arrows × ExitsLeave (row t n form c m).exits
row_leaves t n forms.Silent c m = (tt, tt)
row_leaves t n (forms.Steps parts) c m = (chain_to_leaves t c parts (own n c), finish_leaves n c m)
row_leaves t n (forms.Sequence parts) c m = (chain_leaves t c parts, tt)
row_leaves t n (forms.Call callee arguments) c m = (
  joined (path t c (last_of t callee c) Plain arguments) _ (path_leaves t c (last_of t callee c) Plain arguments tt) (tt, tt),
  exits_joined (finish n c m) _ (finish_leaves n c m) (tt, tt),
)
row_leaves t n (forms.And a b) c m = (tt, tt)
row_leaves t n (forms.Or a b) c m = (tt, tt)
row_leaves t n (forms.Not a) c m = (tt, tt)
row_leaves t n (forms.Group a) c m = group_leaves t n a c m
row_leaves t n (forms.Conditional choice) c m = choice_leaves t n choice c m
row_leaves t n (forms.Comprehension element cs) c m = (loops_leave t c element None (own n c) cs, finish_leaves n c m)
row_leaves t n (forms.Function function) c m = (chain_to_leaves t c function.before (own n c), finish_leaves n c m)
row_leaves t n (forms.Jump channel parts) c m = (chain_to_leaves t c parts (own n c), (jump_leaves channel (own n c), tt))
row_leaves t n (forms.Assert test message) c m = (message_leaves t n message c, (tt, tt))
row_leaves t n (forms.Branches branch more) c m = (ends_leave (λ (b : Branch). last_of t b.body c) (behind n c) (branch ∷ more), tt)
row_leaves t n (forms.While loop) c m = ((tt, (tt, behind_leaves t c loop.otherwise (behind n c))), tt)
row_leaves t n (forms.For loop) c m = ((tt, (tt, (tt, (tt, (tt, behind_leaves t c loop.otherwise (behind n c)))))), tt)
row_leaves t n (forms.Try form) c m = (
  (let parts : List NodeId = form.body ∷ listed_part form.otherwise in
      joined _ (handler_arrows t n c (onward t n c form.cleanup) form.handlers)
      (joined _ (arrows_to (path_end t c (own n c) parts) Plain (onward t n c form.cleanup))
      (joined _ (path t c (own n c) Plain parts)
      (joined (start_arrows t n c form.handlers) (cleanup_arrows t n c form.cleanup) (starts_leave t n c form.handlers) (cleanup_leaves t n c form.cleanup))
      (path_leaves t c (own n c) Plain parts tt))
      (to_leave (path_end t c (own n c) parts) (onward t n c form.cleanup)))
      (handlers_leave t n c (onward t n c form.cleanup) form.handlers)),
  start_exits_leave n c form.handlers,
)
row_leaves t n (forms.Match form) c m = ((tt, (tt, ends_leave (λ (k : NodeId). last_of t k c) (behind n c) form.cases)), tt)
row_leaves t n (forms.Case form) c m = (
  joined (chain_to t c form.values (own n c) Plain) _ (chain_to_leaves t c form.values (own n c))
      (path_leaves t c (own n c) (kinds.Case n) _ (refl, refl)),
  ((refl, refl), tt),
)
row_leaves t n (forms.Module statements) c m = (tt, tt)

graph_leaves : (t : List Ends) (n : NodeId) (form : Form) → AllLeave (graph_row t n form).arrows × ExitsLeave (graph_row t n form).exits
graph_leaves t n (forms.Function function) = (path_leaves t 0 (start n) Plain function.run tt, tt)
graph_leaves t n (forms.Module statements) = (path_leaves t 0 (start n) Plain statements tt, tt)
graph_leaves t n forms.Silent = (tt, tt)
graph_leaves t n (forms.Steps parts) = (tt, tt)
graph_leaves t n (forms.Sequence parts) = (tt, tt)
graph_leaves t n (forms.Call a b) = (tt, tt)
graph_leaves t n (forms.And a b) = (tt, tt)
graph_leaves t n (forms.Or a b) = (tt, tt)
graph_leaves t n (forms.Not a) = (tt, tt)
graph_leaves t n (forms.Group a) = (tt, tt)
graph_leaves t n (forms.Conditional choice) = (tt, tt)
graph_leaves t n (forms.Comprehension a b) = (tt, tt)
graph_leaves t n (forms.Jump channel parts) = (tt, tt)
graph_leaves t n (forms.Assert test message) = (tt, tt)
graph_leaves t n (forms.Branches branch more) = (tt, tt)
graph_leaves t n (forms.While loop) = (tt, tt)
graph_leaves t n (forms.For loop) = (tt, tt)
graph_leaves t n (forms.Try form) = (tt, tt)
graph_leaves t n (forms.Match form) = (tt, tt)
graph_leaves t n (forms.Case form) = (tt, tt)

of_leaves : (t : List Ends) (form : Option Form) (n : NodeId) (c : ℕ) (m : Mode) → AllLeave (row_of t form n c m).arrows × ExitsLeave (row_of t form n c m).exits
of_leaves t None n c m = (tt, tt)
of_leaves t (Some form) n c Value = row_leaves t n form c Value
of_leaves t (Some form) n c Condition = row_leaves t n form c Condition
of_leaves t (Some form) n c Body = graph_leaves t n form

at_leaves : (fs : List Form) (t : List Ends) (n : NodeId) (c : ℕ) (m : Mode) → AllLeave (row_at fs t n c m).arrows × ExitsLeave (row_at fs t n c m).exits
at_leaves fs t n c m = go (nat_lt c 16)
  where
    go : (b : Bool) → AllLeave (cond b (row_of t (slice_get fs n.0) n c m) empty).arrows × ExitsLeave (cond b (row_of t (slice_get fs n.0) n c m) empty).exits
    go true = of_leaves t (slice_get fs n.0) n c m
    go false = (tt, tt)

-- ---- exits and edges

pub leaves_own : (fs : List Form) (t : List Ends) (n : NodeId) (c : ℕ) (m : Mode) (channel : Channel) (a : Point) (kind : EdgeKind)
    → Leaves fs t n c m channel a kind → LeavesOwn kind a
leaves_own fs t n c m channel a kind (of_own h) = exit_leaves _ (exit channel a kind) (at_leaves fs t n c m).1 h
leaves_own fs t n c m channel a kind (of_part kid inner h lt l u) = leaves_own fs t kid.node kid.copy kid.mode inner a kind l

pub flows_own : (fs : List Form) (t : List Ends) (n : NodeId) (c : ℕ) (m : Mode) (a b : Point) (kind : EdgeKind)
    → Flows fs t n c m a b kind → LeavesOwn kind a
flows_own fs t n c m a b kind (by_own h) = one_leaves _ (edge a b kind) (at_leaves fs t n c m).0 h
flows_own fs t n c m a b kind (by_part kid h lt f) = flows_own fs t kid.node kid.copy kid.mode a b kind f
flows_own fs t n c m a b kind (by_exit kid inner h lt l w) = leaves_own fs t kid.node kid.copy kid.mode inner a kind l

pub edge_own : (fs : List Form) (t : List Ends) (e : Edge) → IsEdge fs t e → LeavesOwn e.kind e.from
edge_own fs t e (inl h) = flows_own fs t h.0 0 Body e.from e.to e.kind h.2
edge_own fs t e (inr h) = subst (λ (x : Edge). LeavesOwn x.kind x.from) h.3 tt
