-- Steps of loops: marks of what items and nodes bind, and answers for nodes.
use Rattle.std.proofs.Common.{◌≡◌, ℕ, suc, ◌+◌, ◌<◌, ◌≤◌, Bool, true, if◌then◌else◌, List, [], ◌∷◌, ◌++◌, ap, sym, ◌∙◌, subst, arith, length, get_or, take, map, Some, slice_get}
use Rattle.std.specs.List.{flat_map}
use Rattle.std.proofs.lemmas.List.{take_more, take_all, flat_map_more, map-append}
use Rattle.std.proofs.lemmas.Option.{slice_get_within, get_or_from_slice_get}
use Rattle.py_base.specs.declared.ids.NodeId.{NodeId}
use Rattle.py_base.specs.declared.node.Node.{Node}
use Rattle.py_scopes.specs.Occurrences.{first_ids}
use Rattle.py_base.specs.Tree.{Arena}
use Rattle.py_base.specs.Nodes.{kind_at, parts_at}
use Rattle.node_references.specs.declared.imports.Imported.{Imported}
use Rattle.node_references.specs.declared.imports.Item.{Item}
use Rattle.node_references.specs.Casts.{is_name_of, item, bound_if, bound_by_item}
use Rattle.node_references.specs.Marks.{AreMarks}

-- what an item binds that imports it
pub item_bound : (imported : Imported) (a : Arena) (n : NodeId) (i : Item) → i ≡ item n (kind_at a.nodes n) (parts_at a.nodes n) → is_name_of imported a i.imported ≡ true
    → bound_by_item imported a n ≡ i.bound ∷ []
item_bound imported a n i is named = ap (bound_if imported a) (sym is) ∙ ap (λ (b : Bool). if b then i.bound ∷ [] else []) named

abbrev pub no_node : NodeId
no_node = record { 0 = 0 }

-- one more item
pub item_more : (f : NodeId → List NodeId) (items : List NodeId) (i : ℕ) (nodes : List NodeId) (count : ℕ) (marks : List Bool) → i < length items
    → AreMarks ((nodes ++ flat_map f (take i items)) ++ f (get_or items i no_node)) count marks → AreMarks (nodes ++ flat_map f (take (i + 1) items)) count marks
item_more f items i nodes count marks lt h =
    subst (λ (l : List NodeId). AreMarks l count marks)
    (flat_map_more f nodes (take i items) (get_or items i no_node) ∙ ap (λ (l : List NodeId). nodes ++ flat_map f l) (sym (take_more items i no_node lt))) h

-- all items
pub items_all : (f : NodeId → List NodeId) (items : List NodeId) (i : ℕ) (nodes : List NodeId) (count : ℕ) (marks : List Bool) → length items ≤ i
    → AreMarks (nodes ++ flat_map f (take i items)) count marks → AreMarks (nodes ++ flat_map f items) count marks
items_all f items i nodes count marks past h = subst (λ (l : List NodeId). AreMarks (nodes ++ flat_map f l) count marks) (take_all i items past) h

-- one more node
pub node_more : (f : Node → List NodeId) (nodes : List Node) (i : ℕ) (node : Node) (count : ℕ) (marks : List Bool) → slice_get nodes i ≡ Some node
    → AreMarks (flat_map f (take i nodes) ++ f node) count marks → AreMarks (flat_map f (take (i + 1) nodes)) count marks
node_more f nodes i node count marks at h =
    let same : get_or nodes i node ≡ node = get_or_from_slice_get nodes i node node at in
    subst (λ (l : List NodeId). AreMarks l count marks)
    (flat_map_more f [] (take i nodes) node ∙ ap (flat_map f) (ap (λ (n : Node). take i nodes ++ n ∷ []) (sym same) ∙ sym (take_more nodes i node (slice_get_within nodes i node at)))) h

first_next : (n : ℕ) → first_ids (n + 1) ≡ first_ids n ++ record { 0 = n } ∷ []
first_next n = let next : n + 1 ≡ suc n = omega arith in ap first_ids next

-- one more answer
pub answer_more : (f : NodeId → Bool) (n : ℕ) (old new : List Bool) (b : Bool) → new ≡ old ++ b ∷ [] → b ≡ f (record { 0 = n }) → old ≡ map f (first_ids n)
    → new ≡ map f (first_ids (n + 1))
answer_more f n old new b pushed is before =
    pushed ∙ ap (λ (l : List Bool). l ++ b ∷ []) before ∙ ap (λ (x : Bool). map f (first_ids n) ++ x ∷ []) is
    ∙ sym (ap (map f) (first_next n) ∙ map-append f (first_ids n) (record { 0 = n } ∷ []))
