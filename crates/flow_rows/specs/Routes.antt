-- Where the exits of a part lead: a loop takes `break` and `continue`, handlers take what raises, and a `finally` block is entered by
-- whatever leaves (Python 3.12 language reference, sections 7.6, 7.8 to 7.10 and 8.2 to 8.4).
use Rattle.std.specs.Prelude.{List, [], ◌∷◌, ◌++◌}
use Rattle.flow_rows.specs.declared.point.Point.{Point}
use Rattle.flow_rows.specs.declared.edge.Edge.{Edge}
use Rattle.flow_rows.specs.declared.edge.EdgeKind.{EdgeKind}
use Rattle.flow_rows.specs.declared.route.Channel.{Channel}
use Rattle.flow_rows.specs.declared.route.Channel.TheVariants.{Yes, No, Break, Continue, Return, Raise}
use Rattle.flow_rows.specs.declared.route.Exit.{Exit}
use Rattle.flow_rows.specs.declared.route.Dest.{Dest}
use Rattle.flow_rows.specs.declared.route.Dest.TheVariants.{To, Up}
use Rattle.flow_rows.specs.declared.route.Route.{Route}
use Rattle.flow_rows.specs.declared.route.Route.TheVariants.{Through, Test, Body, Caught, Watched, CaughtWatched}
use Rattle.flow_rows.specs.declared.route.Leads.{Leads}
use Rattle.flow_rows.specs.declared.route.Leads.TheVariants.{One, Two}
use Rattle.flow_rows.specs.Points.{edge}

-- where the exits on a channel lead by a route
abbrev pub leads : Route → Channel → List Dest
leads (Test true_to false_to) Yes = true_to ∷ []
leads (Test true_to false_to) No = false_to ∷ []
leads (Body again behind) Continue = To again ∷ []
leads (Body again behind) Break = To behind ∷ []
leads (Caught handlers) Raise = To handlers ∷ []
leads (Watched cleanup) Break = To cleanup ∷ Up Break ∷ []
leads (Watched cleanup) Continue = To cleanup ∷ Up Continue ∷ []
leads (Watched cleanup) Return = To cleanup ∷ Up Return ∷ []
leads (Watched cleanup) Raise = To cleanup ∷ Up Raise ∷ []
leads (CaughtWatched handlers cleanup) Raise = To handlers ∷ To cleanup ∷ []
leads (CaughtWatched handlers cleanup) Break = To cleanup ∷ Up Break ∷ []
leads (CaughtWatched handlers cleanup) Continue = To cleanup ∷ Up Continue ∷ []
leads (CaughtWatched handlers cleanup) Return = To cleanup ∷ Up Return ∷ []
leads route channel = Up channel ∷ []

abbrev pub listed : Leads → List Dest
listed (One dest) = dest ∷ []
listed (Two to dest) = To to ∷ dest ∷ []

-- an edge to each of the points
abbrev pub arrows_to : Point → EdgeKind → List Point → List Edge
arrows_to from kind [] = []
arrows_to from kind (to ∷ more) = edge from to kind ∷ arrows_to from kind more

-- what places stand for, where each channel of the form reaches some points
abbrev pub places : List Dest → (Channel → List Point) → List Point
places [] reach = []
places (To to ∷ more) reach = to ∷ places more reach
places (Up channel ∷ more) reach = reach channel ++ places more reach

abbrev pub exit : Channel → Point → EdgeKind → Exit
exit channel a kind = record { channel = channel; from = a; kind = kind }
