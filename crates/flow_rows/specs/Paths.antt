-- Parts in order: an edge leads from the last point of each to the first point of the next (Python 3.12 language reference, section
-- 6.16: expressions are evaluated from left to right).
use Rattle.std.specs.Prelude.{ℕ, List, [], ◌∷◌, ◌++◌, map, Option, None, Some}
use Rattle.py_base.specs.declared.ids.NodeId.{NodeId}
use Rattle.flow_rows.specs.declared.point.Point.{Point}
use Rattle.flow_rows.specs.declared.edge.Edge.{Edge}
use Rattle.flow_rows.specs.declared.edge.EdgeKind.{EdgeKind}
use Rattle.flow_rows.specs.declared.edge.EdgeKind.TheVariants.{Plain, True, False}
use Rattle.flow_rows.specs.declared.route.Channel.TheVariants.{Yes, No}
use Rattle.flow_rows.specs.declared.route.Exit.{Exit}
use Rattle.flow_rows.specs.declared.route.Dest.{Dest}
use Rattle.flow_rows.specs.declared.route.Route.{Route}
use Rattle.flow_rows.specs.declared.route.Route.TheVariants.{Through, Test}
use Rattle.flow_rows.specs.declared.route.Mode.{Mode}
use Rattle.flow_rows.specs.declared.route.Mode.TheVariants.{Value, Condition, Body}
use Rattle.flow_rows.specs.declared.route.Kid.{Kid}
use Rattle.flow_rows.specs.declared.route.Row.{Row}
use Rattle.flow_rows.specs.Points.{own, edge}
use Rattle.flow_rows.specs.Routes.{exit}
use Rattle.flow_rows.specs.declared.ends.Ends.{Ends}
use Rattle.flow_rows.specs.Ends.{first_of, last_of}

-- from a point by an edge of a kind through all parts
abbrev pub path : List Ends → ℕ → Point → EdgeKind → List NodeId → List Edge
path t c from kind [] = []
path t c from kind (p ∷ more) = edge from (first_of t p c) kind ∷ path t c (last_of t p c) Plain more

abbrev pub path_end : List Ends → ℕ → Point → List NodeId → Point
path_end t c from [] = from
path_end t c from (p ∷ more) = path_end t c (last_of t p c) more

-- through all parts
abbrev pub chain : List Ends → ℕ → List NodeId → List Edge
chain t c [] = []
chain t c (p ∷ more) = path t c (last_of t p c) Plain more

-- through all parts and then to a point by an edge of a kind
abbrev pub chain_to : List Ends → ℕ → List NodeId → Point → EdgeKind → List Edge
chain_to t c [] to kind = []
chain_to t c (p ∷ more) to kind = path t c (last_of t p c) Plain more ++ edge (path_end t c (last_of t p c) more) to kind ∷ []

abbrev pub kid : NodeId → ℕ → Mode → Route → Kid
kid n c mode route = record { node = n; copy = c; mode = mode; route = route }

abbrev pub plain_kid : ℕ → NodeId → Kid
plain_kid c n = kid n c Value Through

abbrev pub test_kid : ℕ → NodeId → Dest → Dest → Kid
test_kid c n true_to false_to = kid n c Condition (Test true_to false_to)

-- parts that run for their values under one route
abbrev pub kids_by : ℕ → Route → List NodeId → List Kid
kids_by c route parts = map (λ p. kid p c Value route) parts

abbrev pub empty : Row
empty = record { arrows = []; exits = []; kids = [] }

-- what has no exits of its own has, as a condition, two at its own point
abbrev pub finish : NodeId → ℕ → Mode → List Exit
finish n c Value = []
finish n c Condition = exit Yes (own n c) (True n) ∷ exit No (own n c) (False n) ∷ []
finish n c Body = []

-- one more part, where there is one
abbrev pub listed_part : Option NodeId → List NodeId
listed_part None = []
listed_part (Some p) = p ∷ []

-- the first point of a part that may be missing, and where it is a given point
abbrev pub first_or : List Ends → ℕ → Point → Option NodeId → Point
first_or t c here None = here
first_or t c here (Some p) = first_of t p c
