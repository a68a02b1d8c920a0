-- References come in the order of the nodes where they first stand.
use Rattle.std.proofs.Common.{◌≡◌, ℕ, ◌<◌, ◌≤◌, List, length, ap, sym, ◌∙◌, subst, Option, None, Some, slice_get, arith, inl, inr}
use Rattle.std.proofs.lemmas.Bool.{cases_lt}
use Rattle.std.proofs.lemmas.Option.{slice_get_within}
use Rattle.py_base.specs.declared.ids.NodeId.{NodeId}
use Rattle.py_base.specs.declared.ids.RefId.{RefId}
use Rattle.py_base.specs.Tree.{Arena}
use Rattle.py_scopes.specs.declared.owner.Owner.{Owner}
use Rattle.node_references.specs.Reference.{Reference}
use Rattle.node_references.specs.References.{reference_of}
use Rattle.node_references.specs.Numbers.{AreApart, AreInOrder, flat, IsNumberOf}
use Rattle.node_references.specs.Numbering.{Keeps, GrowsBy, AreOfNodes, AreKnownBelow}
use Rattle.node_references.proofs.Links.{got}

-- what a number that is given has, the list has
number_held : (list : List Reference) (x : Option RefId) (r : Reference) → IsNumberOf list x (Some r) → (i : ℕ) × (slice_get list i ≡ Some r)
number_held list None r h = absurd h
number_held list (Some id) r h = (id.0, h)

-- a place below the old length had what it has
was_there : (old new : List Reference) (i : ℕ) (r : Reference) → Keeps old new → i < length old → slice_get new i ≡ Some r → slice_get old i ≡ Some r
was_there old new i r keeps lt at =
    let (p, is) = got old i lt in
    is ∙ sym (keeps i p is) ∙ at

-- what isn't at an old place isn't in the old list
not_there : (old new : List Reference) (j k : ℕ) (q : Reference) → Keeps old new → AreApart new → length old ≤ j → slice_get new j ≡ Some q → slice_get old k ≡ Some q → ⊥
not_there old new j k q keeps apart past at was =
    let same : k ≡ j = apart k j q (keeps k q was) at in
    let lt : k < length old = slice_get_within old k q was in
    absurd (omega (arith, lt, same, past))

-- the place of what came
came : (old new : List Reference) (x : Option RefId) (j k : ℕ) (q r : Reference) → AreApart new → IsNumberOf new x (Some q) → IsNumberOf new x (Some r)
    → slice_get new j ≡ Some q → slice_get new k ≡ Some r → j ≡ k
came old new None j k q r apart h g at there = absurd h
came old new (Some id) j k q r apart h g at there = sym (apart id.0 j q h at) ∙ apart id.0 k r g there

-- a node that stands for what came isn't an older one
no_older : (a : Arena) (os : List Owner) (old new : List Reference) (table : List (Option RefId)) (n m : NodeId) (j : ℕ) (q : Reference)
    → AreKnownBelow a os old table n.0 → Keeps old new → AreApart new → length old ≤ j → slice_get new j ≡ Some q
    → reference_of a os m ≡ Some q → m.0 < n.0 → ⊥
no_older a os old new table n m j q known keeps apart past at is lt =
    let number : IsNumberOf old (flat (slice_get table m.0)) (Some q) = subst (λ (r : Option Reference). IsNumberOf old (flat (slice_get table m.0)) r) is (known m lt) in
    let (k, was) = number_held old (flat (slice_get table m.0)) q number in
    not_there old new j k q keeps apart past at was

pub order_more : (a : Arena) (os : List Owner) (old new : List Reference) (table : List (Option RefId)) (n : NodeId) (x : Option RefId)
    → AreInOrder a os old → AreOfNodes a os old n.0 → AreKnownBelow a os old table n.0 → Keeps old new → GrowsBy old new x → AreApart new
    → AreInOrder a os new
order_more a os old new table n x ordered each known keeps grows apart i j r q lt at there = elim (cases_lt j (length old)) [
  | inl below ↦
      let less : i < length old = omega (arith, lt, below) in
      ordered i j r q lt (was_there old new i r keeps less at) (was_there old new j q keeps below there)
  | inr past ↦ elim (grows i r at) [
    | inl was ↦
        let (k, older, of) = each i r was in (
          k,
          of,
          λ m is. elim (cases_lt m.0 n.0) [
            | inl before ↦ absurd (no_older a os old new table n m j q known keeps apart past there is before)
            | inr behind ↦ omega (arith, older, behind)
          ],
        )
    | inr one ↦ elim (grows j q there) [
      | inl was ↦ absurd (not_there old new j j q keeps apart past there was)
      | inr two ↦ absurd (omega (arith, lt, came old new x i j r q apart one two at there))
    ]
  ]
]
