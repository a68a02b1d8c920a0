-- The rows of statements (Python 3.12 language reference, sections 7.3, 7.6 to 7.10 and 8.1 to 8.7).
use Rattle.std.specs.Prelude.{ℕ, List, [], ◌∷◌, ◌++◌, map, Option, None, Some}
use Rattle.py_base.specs.declared.ids.NodeId.{NodeId}
use Rattle.flow_rows.specs.declared.point.Point.{Point}
use Rattle.flow_rows.specs.declared.edge.Edge.{Edge}
use Rattle.flow_rows.specs.declared.edge.EdgeKind.{EdgeKind}
use Rattle.flow_rows.specs.declared.edge.EdgeKind.TheVariants as kinds
use Rattle.flow_rows.specs.declared.edge.EdgeKind.TheVariants.{Plain, NotCase}
use Rattle.flow_rows.specs.declared.route.Channel.{Channel}
use Rattle.flow_rows.specs.declared.route.Channel.TheVariants as channels
use Rattle.flow_rows.specs.declared.route.Channel.TheVariants.{Yes, No}
use Rattle.flow_rows.specs.declared.route.Exit.{Exit}
use Rattle.flow_rows.specs.declared.route.Dest.TheVariants.{To, Up}
use Rattle.flow_rows.specs.declared.route.Route.{Route}
use Rattle.flow_rows.specs.declared.route.Route.TheVariants as routes
use Rattle.flow_rows.specs.declared.route.Route.TheVariants.{Through, Test, Watched}
use Rattle.flow_rows.specs.declared.route.Mode.TheVariants.{Value}
use Rattle.flow_rows.specs.declared.route.Kid.{Kid}
use Rattle.flow_rows.specs.declared.route.Row.{Row}
use Rattle.flow_rows.specs.declared.form.Branch.{Branch}
use Rattle.flow_rows.specs.declared.form.WhileForm.{WhileForm}
use Rattle.flow_rows.specs.declared.form.ForForm.{ForForm}
use Rattle.flow_rows.specs.declared.form.Handler.{Handler}
use Rattle.flow_rows.specs.declared.form.TryForm.{TryForm}
use Rattle.flow_rows.specs.declared.form.MatchForm.{MatchForm}
use Rattle.flow_rows.specs.declared.form.CaseForm.{CaseForm}
use Rattle.flow_rows.specs.Points.{own, again, behind, fail, handlers, checked, normal, edge}
use Rattle.flow_rows.specs.Routes.{exit, arrows_to}
use Rattle.flow_rows.specs.declared.ends.Ends.{Ends}
use Rattle.flow_rows.specs.Ends.{first_of, last_of}
use Rattle.flow_rows.specs.Paths.{path, path_end, chain_to, kid, plain_kid, test_kid, kids_by, listed_part, first_or}

-- `raise` enters handlers, the others go to their place
abbrev pub jump_kind : Channel → EdgeKind
jump_kind channels.Raise = kinds.Handler
jump_kind channel = Plain

-- a statement that leaves by a channel, after what it evaluates
abbrev pub jump_row : List Ends → NodeId → Channel → List NodeId → ℕ → Row
jump_row t n channel parts c = record {
  arrows = chain_to t c parts (own n c) Plain;
  exits = exit channel (own n c) (jump_kind channel) ∷ [];
  kids = kids_by c Through parts;
}

-- from the last point of the message to where the assertion fails
abbrev pub message_arrows : List Ends → NodeId → Option NodeId → ℕ → List Edge
message_arrows t n None c = []
message_arrows t n (Some message) c = edge (last_of t message c) (fail n c) Plain ∷ []

-- the true exit goes on, the false exit goes to the message and then to where the assertion fails
abbrev pub assert_row : List Ends → NodeId → NodeId → Option NodeId → ℕ → Row
assert_row t n test message c = record {
  arrows = message_arrows t n message c;
  exits = exit channels.Raise (fail n c) kinds.Handler ∷ [];
  kids = test_kid c test (To (own n c)) (To (first_or t c (fail n c) message)) ∷ kids_by c Through (listed_part message);
}

-- where a branch begins
abbrev pub branch_first : List Ends → ℕ → Option NodeId → NodeId → Point
branch_first t c None body = first_of t body c
branch_first t c (Some test) body = first_of t test c

abbrev pub next_branch : List Ends → ℕ → Point → List Branch → Point
next_branch t c end [] = end
next_branch t c end (b ∷ more) = branch_first t c b.test b.body

abbrev pub test_kids : List Ends → ℕ → Option NodeId → NodeId → Point → List Kid
test_kids t c None body next = []
test_kids t c (Some test) body next = test_kid c test (To (first_of t body c)) (To next) ∷ []

-- the true exit of a test goes to its body, the false exit to the next branch, or behind the statement
abbrev pub branch_kids : List Ends → ℕ → Point → Branch → List Branch → List Kid
branch_kids t c end b [] = test_kids t c b.test b.body end ++ plain_kid c b.body ∷ []
branch_kids t c end b (next ∷ more) =
    test_kids t c b.test b.body (branch_first t c next.test next.body) ++ plain_kid c b.body ∷ branch_kids t c end next more

abbrev pub branches_row : List Ends → NodeId → Branch → List Branch → ℕ → Row
branches_row t n branch more c = record {
  arrows = map (λ b. edge (last_of t b.body c) (behind n c) Plain) (branch ∷ more);
  exits = [];
  kids = branch_kids t c (behind n c) branch more;
}

-- from the end of a part that may be missing to a point
abbrev pub arrow_behind : List Ends → ℕ → Option NodeId → Point → List Edge
arrow_behind t c None to = []
arrow_behind t c (Some p) to = edge (last_of t p c) to Plain ∷ []

-- the label, the test, the body and back; the false exit goes to `else`, or behind the statement
abbrev pub while_row : List Ends → NodeId → WhileForm → ℕ → Row
while_row t n loop c = record {
  arrows = edge (again n c) (first_of t loop.test c) Plain ∷ edge (last_of t loop.body c) (again n c) Plain
      ∷ arrow_behind t c loop.otherwise (behind n c);
  exits = [];
  kids = test_kid c loop.test (To (first_of t loop.body c)) (To (first_or t c (behind n c) loop.otherwise))
      ∷ kid loop.body c Value (routes.Body (again n c) (behind n c)) ∷ kids_by c Through (listed_part loop.otherwise);
}

-- the iterable, the label, the targets, the body and back; from the label to `else`, or behind the statement
abbrev pub for_row : List Ends → NodeId → ForForm → ℕ → Row
for_row t n loop c = record {
  arrows = edge (last_of t loop.iterable c) (again n c) Plain ∷ edge (again n c) (first_of t loop.targets c) Plain
      ∷ edge (last_of t loop.targets c) (first_of t loop.body c) Plain ∷ edge (last_of t loop.body c) (again n c) Plain
      ∷ edge (again n c) (first_or t c (behind n c) loop.otherwise) Plain ∷ arrow_behind t c loop.otherwise (behind n c);
  exits = [];
  kids = plain_kid c loop.iterable ∷ plain_kid c loop.targets
      ∷ kid loop.body c Value (routes.Body (again n c) (behind n c)) ∷ kids_by c Through (listed_part loop.otherwise);
}

-- where the normal ends of a `try` statement go on: behind it, or to both copies of its `finally` block
abbrev pub onward : List Ends → NodeId → ℕ → Option NodeId → List Point
onward t n c None = behind n c ∷ []
onward t n c (Some cleanup) = first_of t cleanup (checked c) ∷ first_of t cleanup (normal c) ∷ []

-- each handler: from the label its class, its name and its body, and then the label behind it, where the name is unbound
abbrev pub handler_arrows : List Ends → NodeId → ℕ → List Point → List Handler → List Edge
handler_arrows t n c ends [] = []
handler_arrows t n c ends (h ∷ more) =
    path t c (handlers n c) Plain h.steps
    ++ edge (path_end t c (handlers n c) h.steps) (behind h.header c) Plain ∷ arrows_to (behind h.header c) Plain ends
    ++ handler_arrows t n c ends more

-- whatever leaves handlers and `else` enters the checked copy of the `finally` block, if there is one
abbrev pub watch : List Ends → ℕ → Option NodeId → Route
watch t c None = Through
watch t c (Some cleanup) = Watched (first_of t cleanup (checked c))

abbrev pub handler_kids : List Ends → ℕ → Option NodeId → List Handler → List Kid
handler_kids t c cleanup [] = []
handler_kids t c cleanup (h ∷ more) = kids_by c (watch t c cleanup) h.steps ++ handler_kids t c cleanup more

-- what the body raises is caught where there are handlers
abbrev pub body_route : List Ends → NodeId → ℕ → List Handler → Option NodeId → Route
body_route t n c [] cleanup = watch t c cleanup
body_route t n c (h ∷ more) None = routes.Caught (handlers n c)
body_route t n c (h ∷ more) (Some cleanup) = routes.CaughtWatched (handlers n c) (first_of t cleanup (checked c))

-- the start of the statement is an entry too: of its handlers, and of the checked copy
abbrev pub start_arrows : List Ends → NodeId → ℕ → List Handler → List Edge
start_arrows t n c [] = []
start_arrows t n c (h ∷ more) = edge (own n c) (handlers n c) kinds.Handler ∷ []

-- without handlers, of those of the next `try` around
abbrev pub start_exits : NodeId → ℕ → List Handler → List Exit
start_exits n c [] = exit channels.Raise (own n c) kinds.Handler ∷ []
start_exits n c (h ∷ more) = []

-- the `finally` block: the start of the statement enters the checked copy, and behind the normal copy the statement is done
abbrev pub cleanup_arrows : List Ends → NodeId → ℕ → Option NodeId → List Edge
cleanup_arrows t n c None = []
cleanup_arrows t n c (Some cleanup) =
    edge (own n c) (first_of t cleanup (checked c)) kinds.Handler ∷ edge (last_of t cleanup (normal c)) (behind n c) Plain ∷ []

abbrev pub cleanup_kids : ℕ → Option NodeId → List Kid
cleanup_kids c None = []
cleanup_kids c (Some cleanup) = plain_kid (checked c) cleanup ∷ plain_kid (normal c) cleanup ∷ []

-- the body, `else` behind it, handlers, and the `finally` block in two copies
abbrev pub try_row : List Ends → NodeId → TryForm → ℕ → Row
try_row t n form c = record {
  arrows = start_arrows t n c form.handlers ++ cleanup_arrows t n c form.cleanup
      ++ path t c (own n c) Plain (form.body ∷ listed_part form.otherwise)
      ++ arrows_to (path_end t c (own n c) (form.body ∷ listed_part form.otherwise)) Plain (onward t n c form.cleanup)
      ++ handler_arrows t n c (onward t n c form.cleanup) form.handlers;
  exits = start_exits n c form.handlers;
  kids = kid form.body c Value (body_route t n c form.handlers form.cleanup)
      ∷ kids_by c (watch t c form.cleanup) (listed_part form.otherwise)
      ++ handler_kids t c form.cleanup form.handlers ++ cleanup_kids c form.cleanup;
}

-- the first point of the next case, or behind the statement
abbrev pub next_case : List Ends → ℕ → Point → List NodeId → Point
next_case t c end [] = end
next_case t c end (k ∷ more) = first_of t k c

-- a case that leaves the subject goes to the next case
abbrev pub case_kids : List Ends → ℕ → Point → List NodeId → List Kid
case_kids t c end [] = []
case_kids t c end (k ∷ more) = kid k c Value (Test (Up Yes) (To (next_case t c end more))) ∷ case_kids t c end more

-- The subject, which is bound to a hidden reference at the statement's own point, and the cases in order. A text without faults has a
-- case in each `match`; where there is none, the subject runs all the same, and the statement goes on behind it.
abbrev pub match_row : List Ends → NodeId → MatchForm → ℕ → Row
match_row t n form c = record {
  arrows = edge (last_of t form.subject c) (own n c) Plain ∷ edge (own n c) (next_case t c (behind n c) form.cases) Plain
      ∷ map (λ k. edge (last_of t k c) (behind n c) Plain) form.cases;
  exits = [];
  kids = plain_kid c form.subject ∷ case_kids t c (behind n c) form.cases;
}

-- what comes behind the captures of a case: its guard, or its body
abbrev pub guarded : NodeId → Option NodeId → NodeId
guarded body None = body
guarded body (Some guard) = guard

abbrev pub guard_kids : List Ends → ℕ → NodeId → Option NodeId → List Kid
guard_kids t c body None = []
guard_kids t c body (Some guard) = test_kid c guard (To (first_of t body c)) (Up No) ∷ []

-- the values of the pattern, then the case's own point; the positive exit goes on to captures and guard, and the negative exit joins
-- the false exit of the guard
abbrev pub case_row : List Ends → NodeId → CaseForm → ℕ → Row
case_row t n form c = record {
  arrows = chain_to t c form.values (own n c) Plain ++ path t c (own n c) (kinds.Case n) (form.captures ++ guarded form.body form.guard ∷ []);
  exits = exit No (own n c) (NotCase n) ∷ [];
  kids = kids_by c Through form.values ++ kids_by c Through form.captures ++ guard_kids t c form.body form.guard ++ plain_kid c form.body ∷ [];
}
