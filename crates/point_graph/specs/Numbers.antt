-- Numbers of points: a list of points in which each stands once (the numbers are this project's own; nothing in a standard speaks of
-- them).
use Rattle.std.specs.Prelude.{ℕ, ◌≡◌, ◌<◌, Bool, List, [], ◌∷◌, Some, slice_get, slice_index_or, map, cond, nat_eq}
use Rattle.smallvec.specs.SmallVec.{SmallVec}
use Rattle.py_base.specs.declared.ids.PointId.{PointId}
use Rattle.flow_rows.specs.declared.point.Point.{Point}
use Rattle.flow_rows.specs.declared.edge.Edge.{Edge}
use Rattle.flow_rows.specs.Flow.{Has}
use Rattle.point_graph.specs.Order.{Begin}
use Rattle.point_graph.specs.declared.incoming.Way.{Way}
use Rattle.point_graph.specs.declared.numbers.Step.{Step}

-- each stands once
abbrev pub IsApart : {A : Type 0} → List A → Type 0
IsApart {A} xs = (i j : ℕ) (x : A) → slice_get xs i ≡ Some x → slice_get xs j ≡ Some x → i ≡ j

-- what stands at a place of the first list stands there in the second
abbrev pub Keeps : {A : Type 0} → List A → List A → Type 0
Keeps {A} old new = (i : ℕ) (x : A) → slice_get old i ≡ Some x → slice_get new i ≡ Some x

-- the number of a point
abbrev pub IsNumber : List Point → PointId → Point → Type 0
IsNumber points id p = slice_get points id.0 ≡ Some p

-- the points of numbers, one by one
abbrev pub AreNumbersOf : List Point → List PointId → List Point → Type 0
AreNumbersOf points ids ps = map (λ (id : PointId). slice_get points id.0) ids ≡ map (λ (p : Point). Some p) ps

abbrev pub same_number : PointId → PointId → Bool
same_number one other = nat_eq one.0 other.0

-- all of these are numbers below count
abbrev pub AreWithin : ℕ → List PointId → Type 0
AreWithin count ids = (id : PointId) → Has ids id → id.0 < count

-- a step is an edge by the numbers of its points
pub record IsStep (points : List Point) (e : Edge) (s : Step) : Type 0 where
  pub from : IsNumber points s.from e.from
  pub to : IsNumber points s.to e.to
  pub kind : s.kind ≡ e.kind

-- the lists in a vector of vectors
abbrev pub lists : List (SmallVec Way) → List (List Way)
lists ways = map (λ (v : SmallVec Way). v.items) ways

abbrev pub way : Step → Way
way s = record { from = s.from; kind = s.kind }

-- what a way begins at, by the points that have the numbers
abbrev pub way_begin : List Point → Way → Begin
way_begin points w = record { from = slice_get points w.from.0; kind = w.kind }

-- the ways that lead to a number
abbrev pub into : ℕ → List Step → List Way
into j [] = []
into j (s ∷ steps) = cond (nat_eq s.to.0 j) (way s ∷ into j steps) (into j steps)

abbrev pub list_at : List (List Way) → ℕ → List Way
list_at ways j = slice_index_or ways j []

-- all steps lead to numbers below count
abbrev pub AreBelow : ℕ → List Step → Type 0
AreBelow count [] = Unit {0}
AreBelow count (s ∷ steps) = (s.to.0 < count) × AreBelow count steps
