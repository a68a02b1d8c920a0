-- What stands in the slots of a value that a call builds: `sorted`, `list(..)`, `enumerate`, `dict.items` and the like (Python library reference, "Built-in
-- Functions"). A slot is that of the call's own value or of the tuples that this gives.
use Rattle.std.specs.Prelude.{Bool, None, Option, Some, false, if◌then◌else◌, true, ℕ, ◌&&◌, ◌==◌}
use Rattle.py_base.specs.Builtins.{id_of}
use Rattle.py_base.specs.declared.ids.ClassId.{ClassId}
use Rattle.py_base.specs.declared.ids.InnerTuple.{InnerTuple}
use Rattle.py_base.specs.declared.ids.NodeId.{NodeId}
use Rattle.py_base.specs.declared.ids.SiteId.{SiteId}
use Rattle.type_terms.specs.declared.atom.Atom.{Atom, out-Atom}
use Rattle.type_terms.specs.declared.atom.Atom.TheOpen.{Atom-F}
use Rattle.type_terms.specs.declared.rows.RowResult.{RowResult}
use Rattle.value_terms.specs.Term.{each, join, never}
use Rattle.op_rules.specs.Calls.{called}
use Rattle.op_rules.specs.Instances.{instance}
use Rattle.op_rules.specs.Iterations.{iteration}
use Rattle.op_rules.specs.Results.{CallSite, argument, iterated_argument, site_at, without_arguments}
use Rattle.op_rules.specs.Slots.{slot}
use Rattle.op_rules.specs.World.{Value, World, unknown}
use Rattle.py_base.specs.declared.builtin.Builtin.TheVariants as builtin
use Rattle.type_terms.specs.declared.rows.RowResult.TheVariants as form
use Rattle.py_base.specs.declared.ids.InnerTuple.TheVariants as tuples

-- which value of the call is meant

abbrev pub is_outer : InnerTuple → Bool
is_outer tuples.None = true
is_outer _ = false

abbrev pub is_own : SiteId → ClassId → Bool
is_own site class = is_outer site.inner && site.class.0 == class.0

abbrev pub is_pair : InnerTuple → Bool
is_pair tuples.Pair = true
is_pair _ = false

abbrev pub is_zip : InnerTuple → Bool
is_zip (tuples.Zip count) = true
is_zip _ = false

abbrev pub only : Bool → Value → Value
only true x = x
only false x = never

abbrev pub own_iterable : SiteId → Value → Value
own_iterable site x = only (is_own site (id_of builtin.Iterable)) x

-- an Iterable of tuples, whose entries these are
abbrev pub iterable_of : CallSite → SiteId → InnerTuple → Bool → Value → Value
iterable_of call site inner meant entry = join (own_iterable site (site_at call.node (id_of builtin.Tuple) inner)) (only meant entry)

-- `enumerate`: int and the iteration
abbrev pub numbered_entry : (Atom → Value) → CallSite → ℕ → Value
numbered_entry iterates call place = if place == 0 then instance builtin.Int else iterated_argument iterates call.count 0

-- `zip`: the iterations; with a starred argument it iterates Unknown
abbrev pub zipped : (Atom → Value) → Bool → CallSite → SiteId → ℕ → Value
zipped iterates starred call site place =
    if starred then own_iterable site unknown
    else iterable_of call site (tuples.Zip call.count) (is_zip site.inner) (iterated_argument iterates call.count place)

-- `map`: what calls of the first argument give, and what these build in their turn
unfoldable pub row_builds : (Atom → Value) → (Atom → Value) → (Atom → Value) → World → Bool → RowResult → Atom → CallSite → SiteId → ℕ → Value
row_builds iterates calls builds w starred (form.Iterated class from) receiver call site place = only (is_own site class) (iterated_argument iterates call.count from)
row_builds iterates calls builds w starred (form.Unfilled class) receiver call site place = only (is_own site class) unknown
row_builds iterates calls builds w starred form.Mapped receiver call site place =
    join (own_iterable site (each (argument call.count 0) calls)) (each (argument call.count 0) builds)
row_builds iterates calls builds w starred form.Numbered receiver call site place =
    iterable_of call site tuples.Pair (is_pair site.inner) (numbered_entry iterates call place)
row_builds iterates calls builds w starred form.Zipped receiver call site place = zipped iterates starred call site place
row_builds iterates calls builds w starred (form.IterableOfSlot from) receiver call site place = own_iterable site (slot w receiver from)
row_builds iterates calls builds w starred form.IterableOfEntries receiver call site place =
    iterable_of call site tuples.Pair (is_pair site.inner) (slot w receiver place)
row_builds iterates calls builds w starred _ receiver call site place = never

-- the row by which a member is called, and its receiver
abbrev pub level_row : World → Atom-F Atom → Option ℕ
level_row w (Atom-F.BuiltFunc row) = Some row
level_row w (Atom-F.BuiltMethod row receiver) = Some row
level_row w (Atom-F.Class class) = w.builtins.class_call class
level_row w _ = None

abbrev pub level_receiver : Atom → Atom-F Atom → Atom
level_receiver a (Atom-F.BuiltMethod row receiver) = receiver
level_receiver a _ = a

abbrev pub builds_by : (Atom → Value) → (Atom → Value) → (Atom → Value) → World → Bool → Atom → CallSite → SiteId → ℕ → Option ℕ → Value
builds_by iterates calls builds w starred a call site place (Some row) =
    row_builds iterates calls builds w starred (w.builtins.row row).result (level_receiver a (out-Atom a)) call site place
builds_by iterates calls builds w starred a call site place None = never

-- a call of the first argument of `map`, whose own arguments aren't there
abbrev pub bare_call : World → NodeId → Atom → Value
bare_call w node a = (called w a (without_arguments node)).gives

abbrev pub nothing_built : Atom → Value
nothing_built a = never

abbrev pub bare_built : World → NodeId → SiteId → ℕ → Atom → Value
bare_built w node site place a =
    builds_by (iteration w) (bare_call w node) nothing_built w false a (without_arguments node) site place (level_row w (out-Atom a))

-- what the call of a member puts into a slot of a value made at its node; one of its arguments may be starred
unfoldable pub built : World → Atom → Bool → CallSite → SiteId → ℕ → Value
built w a starred call site place =
    builds_by (iteration w) (bare_call w call.node) (bare_built w call.node site place) w starred a call site place (level_row w (out-Atom a))
