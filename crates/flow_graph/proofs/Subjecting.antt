-- The subjects of cases, and what a node tests by the numbers of references.
use Rattle.std.proofs.Common.{◌≡◌, ℕ, ◌+◌, ◌<◌, ◌≤◌, Bool, true, false, ◌||◌, List, [], ◌∷◌, ◌++◌, refl, ap, sym, ◌∙◌, subst, length, get_or, take, Option, None, Some, slice_get, inl, inr, if◌then◌else◌}
use Rattle.std.proofs.lemmas.List.{take_more, take_all}
use Rattle.std.proofs.lemmas.Bool.{cases_lt}
use Rattle.std.proofs.lemmas.List.Folds.{list_any-append}
use Rattle.py_base.specs.declared.ids.NodeId.{NodeId}
use Rattle.py_base.specs.declared.ids.RefId.{RefId}
use Rattle.py_base.specs.declared.node.Node.{Node}
use Rattle.py_base.specs.Tree.{Arena}
use Rattle.py_scopes.specs.declared.owner.Owner.{Owner}
use Rattle.py_scopes.specs.Way.{same_node}
use Rattle.flow_rows.specs.declared.point.Point.{Point}
use Rattle.flow_rows.specs.declared.form.Form.{Form}
use Rattle.flow_forms.specs.Forms.{forms_of}
use Rattle.node_references.specs.Reference.{Reference}
use Rattle.node_references.specs.References.{reference_of}
use Rattle.node_references.specs.Marks.{is_among, AreMarks}
use Rattle.flow_graph.specs.Targets.{bound_nodes}
use Rattle.flow_graph.specs.Bindings.{run_nodes, is_read}
use Rattle.flow_graph.specs.declared.condition.Test.{Test}
use Rattle.flow_graph.specs.declared.condition.Tests.{Tests}
use Rattle.flow_graph.specs.declared.condition.Tested.{Tested}
use Rattle.flow_graph.specs.declared.condition.TestForm.{TestForm}
use Rattle.flow_graph.specs.Tests.{when, or_else, subject_in, subject_among, node_tests, written, with_form, of_test, beside, running_reference, tests_at, tested, mirrored}
use Rattle.flow_graph.specs.Table.{condition_of, mirrored_of, IsConditionOf}
use Rattle.node_references.specs.Numbers.{flat, IsNumberOf}
use Rattle.node_references.specs.Numbering.{AreKnown}
use Rattle.flow_graph.specs.Numbering.{AreSubjects, subject_if, IsPut, is_read_by, running_by, AreRunning, tested_entry, tests_by, test_by, IsTable}
use Rattle.node_references.proofs.Within.{get_none}

or_none : {A : Type 0} (x : Option A) → or_else x None ≡ x
or_none None = refl
or_none (Some y) = refl

or_assoc : {A : Type 0} (x y z : Option A) → or_else (or_else x y) z ≡ or_else x (or_else y z)
or_assoc None y z = refl
or_assoc (Some w) y z = refl

if_or : (b d : Bool) (s : NodeId) → or_else (if b then Some s else None) (if d then Some s else None) ≡ (if b || d then Some s else None)
if_or true d s = refl
if_or false true s = refl
if_or false false s = refl

-- one more case
pub put_more : (xs : List NodeId) (case subject : NodeId) (old one new : List (Option NodeId)) → IsPut xs subject old one → IsPut (case ∷ []) subject one new
    → IsPut (xs ++ case ∷ []) subject old new
put_more xs case subject old one new (long, each) (long2, each2) = (
  long2 ∙ long,
  λ n lt.
      let inside : n.0 < length one = rw long lt in
      each2 n inside ∙ ap (λ (x : Option NodeId). or_else x (subject_if (case ∷ []) subject n)) (each n lt)
      ∙ or_assoc (flat (slice_get old n.0)) (subject_if xs subject n) (subject_if (case ∷ []) subject n)
      ∙ ap (λ (x : Option NodeId). or_else (flat (slice_get old n.0)) x) (if_or (is_among xs n) (is_among (case ∷ []) n) subject
      ∙ ap (λ (b : Bool). if b then Some subject else None) (sym (list_any-append (same_node n) xs (case ∷ [])))),
)

pub put_none : (subject : NodeId) (old : List (Option NodeId)) → IsPut [] subject old old
put_none subject old = (refl, λ n lt. sym (or_none (flat (slice_get old n.0))))

abbrev pub no_node : NodeId
no_node = record { 0 = 0 }

pub put_next : (cases : List NodeId) (i : ℕ) (subject : NodeId) (old one new : List (Option NodeId)) → i < length cases → IsPut (take i cases) subject old one
    → IsPut (get_or cases i no_node ∷ []) subject one new → IsPut (take (i + 1) cases) subject old new
put_next cases i subject old one new lt h g =
    subst (λ (l : List NodeId). IsPut l subject old new) (sym (take_more cases i no_node lt)) (put_more (take i cases) (get_or cases i no_node) subject old one new h g)

pub put_done : (cases : List NodeId) (i : ℕ) (subject : NodeId) (old new : List (Option NodeId)) → length cases ≤ i → IsPut (take i cases) subject old new → IsPut cases subject old new
put_done cases i subject old new past h = subst (λ (l : List NodeId). IsPut l subject old new) (take_all i cases past) h

among_more : (n : NodeId) (fs : List Form) (form : Form) → subject_among n (fs ++ form ∷ []) ≡ or_else (subject_among n fs) (subject_in n form)
among_more n [] form = or_none (subject_in n form)
among_more n (f ∷ fs) form =
    ap (λ (x : Option NodeId). or_else (subject_in n f) x) (among_more n fs form) ∙ sym (or_assoc (subject_in n f) (subject_among n fs) (subject_in n form))

-- one more form
pub subjects_more : (fs : List Form) (form : Form) (count : ℕ) (old new : List (Option NodeId)) → AreSubjects fs count old
    → (length new ≡ length old) × ((n : NodeId) → n.0 < length old → flat (slice_get new n.0) ≡ or_else (flat (slice_get old n.0)) (subject_in n form))
    → AreSubjects (fs ++ form ∷ []) count new
subjects_more fs form count old new (long, each) (long2, each2) = (
  long2 ∙ long,
  λ n lt.
      each2 n (rw long lt) ∙ ap (λ (x : Option NodeId). or_else x (subject_in n form)) (each n lt) ∙ sym (among_more n fs form),
)

pub subjects_next : (fs : List Form) (i : ℕ) (form : Form) (count : ℕ) (old new : List (Option NodeId)) → i < length fs → form ≡ get_or fs i form → AreSubjects (take i fs) count old
    → (length new ≡ length old) × ((n : NodeId) → n.0 < length old → flat (slice_get new n.0) ≡ or_else (flat (slice_get old n.0)) (subject_in n form))
    → AreSubjects (take (i + 1) fs) count new
subjects_next fs i form count old new lt at h g =
    let longer : take (i + 1) fs ≡ take i fs ++ form ∷ [] = take_more fs i form lt ∙ ap (λ (x : Form). take i fs ++ x ∷ []) (sym at) in
    subst (λ (l : List Form). AreSubjects l count new) (sym longer) (subjects_more (take i fs) form count old new h g)

number_when : (list : List Reference) (b : Bool) (x : Option RefId) (r : Option Reference) → IsNumberOf list x r → IsNumberOf list (when b x) (when b r)
number_when list true x r h = h
number_when list false x r h = tt

when_none : {A : Type 0} (b : Bool) → when {A = A} b None ≡ None
when_none true = refl
when_none false = refl

-- what tests test by numbers is what they test
with_same : (list : List Reference) (x : Option RefId) (r : Option Reference) (form : TestForm) → IsNumberOf list x r → IsConditionOf list (with_form x form) (with_form r form)
with_same list None None form h = tt
with_same list None (Some r) form h = absurd h
with_same list (Some id) None form h = absurd h
with_same list (Some id) (Some r) form h = (h, refl)

of_same : (list : List Reference) (f : NodeId → Option RefId) (g : NodeId → Option Reference) (t : Option Test) → ((n : NodeId) → IsNumberOf list (f n) (g n))
    → IsConditionOf list (of_test f t) (of_test g t)
of_same list f g None known = tt
of_same list f g (Some t) known = with_same list (f t.place) (g t.place) t.form (known t.place)

or_same : (list : List Reference) (x y : Option (RefId × TestForm)) (r s : Option (Reference × TestForm)) → IsConditionOf list x r → IsConditionOf list y s
    → IsConditionOf list (or_else x y) (or_else r s)
or_same list None y None s h g = g
or_same list None y (Some r) s h g = absurd h
or_same list (Some x) y None s h g = absurd h
or_same list (Some x) y (Some r) s h g = h

beside_same : (list : List Reference) (x y : Option (RefId × TestForm)) (r s : Option (Reference × TestForm)) → IsConditionOf list x r → IsConditionOf list y s
    → IsConditionOf list (beside x y) (beside r s)
beside_same list None y None s h g = tt
beside_same list None y (Some r) s h g = absurd h
beside_same list (Some x) y None s h g = absurd h
beside_same list (Some x) y (Some r) s h g = g

-- a node that isn't there tests nothing
either_none : (b : Bool) → (if b then written None else written None) ≡ written None
either_none true = refl
either_none false = refl

no_tests : (a : Arena) (points : List Point) (n : NodeId) → slice_get a.nodes n.0 ≡ None → tests_at a points n ≡ written None
no_tests a points n e =
    ap (λ (x : Option Node). if is_among (run_nodes points) n then node_tests a (is_read a n) (subject_among n (forms_of a)) n x else written None) e
    ∙ either_none (is_among (run_nodes points) n)

-- the numbers of nodes that run are those of their references
pub running_right : (a : Arena) (os : List Owner) (points : List Point) (list : List Reference) (table running : List (Option RefId)) (run : List Bool)
    → AreKnown a os list table → length table ≡ length a.nodes → AreMarks (run_nodes points) (length a.nodes) run
    → IsTable (running_by run table) (length a.nodes) running → AreRunning a os points list running
running_right a os points list table running run known long runs rows n =
    let b : Bool = is_among (run_nodes points) n in
    let both : IsNumberOf list (when b (flat (slice_get table n.0))) (running_reference a os points n) = number_when list b (flat (slice_get table n.0)) (reference_of a os n) (known n) in
    elim (cases_lt n.0 (length a.nodes)) [
      | inl lt ↦
          let at : flat (slice_get running n.0) ≡ when b (flat (slice_get table n.0)) =
          ap flat (rows.1 n.0 lt) ∙ ap (λ (c : Bool). when c (flat (slice_get table n.0))) (runs.1 n lt) in
          subst (λ (x : Option RefId). IsNumberOf list x (running_reference a os points n)) (sym at) both
      | inr ge ↦
          let none : flat (slice_get running n.0) ≡ None = ap flat (get_none running n.0 (rw rows.0 ge)) in
          let missing : flat (slice_get table n.0) ≡ None = ap flat (get_none table n.0 (rw long ge)) in
          subst (λ (x : Option RefId). IsNumberOf list x (running_reference a os points n)) (ap (λ (x : Option RefId). when b x) missing ∙ when_none b ∙ sym none) both
    ]

-- what is tested by marks and numbers is what is tested
abbrev pub AreTested : Arena → List Owner → List Point → List Reference → List Tested → NodeId → Type 0
AreTested a os points list tests n =
    IsConditionOf list (condition_of (slice_get tests n.0)) (tested a os points n) × IsConditionOf list (mirrored_of (slice_get tests n.0)) (mirrored a os points n)

pub tests_right : (a : Arena) (os : List Owner) (points : List Point) (list : List Reference) (table : List (Option RefId)) (run bound : List Bool) (subjects : List (Option NodeId)) (tests : List Tested)
    → AreRunning a os points list table → AreMarks (run_nodes points) (length a.nodes) run → AreMarks (bound_nodes a) (length a.nodes) bound
    → AreSubjects (forms_of a) (length a.nodes) subjects
    → IsTable (λ (i : ℕ). test_by a run bound subjects table (record { 0 = i })) (length a.nodes) tests
    → (n : NodeId) → AreTested a os points list tests n
tests_right a os points list table run bound subjects tests known runs bounds subs rows n = elim (cases_lt n.0 (length a.nodes)) [
  | inl lt ↦
      let f : NodeId → Option RefId = λ (m : NodeId). flat (slice_get table m.0) in
      let reads : is_read_by a.nodes bound n ≡ is_read a n = rw (bounds.1 n lt) refl in
      let same : tests_by a run bound subjects n ≡ tests_at a points n = rw (runs.1 n lt, reads, subs.1 n lt) refl in
      let at : slice_get tests n.0 ≡ Some (tested_entry table (tests_at a points n)) = rows.1 n.0 lt ∙ ap (λ (t : Tests). Some (tested_entry table t)) same in
      let one : IsConditionOf list (of_test f (tests_at a points n).written) (of_test (running_reference a os points) (tests_at a points n).written) = of_same list f (running_reference a os points) _ known in
      let other : IsConditionOf list (of_test f (tests_at a points n).mirrored) (of_test (running_reference a os points) (tests_at a points n).mirrored) = of_same list f (running_reference a os points) _ known in
      subst (λ (x : Option Tested). IsConditionOf list (condition_of x) (tested a os points n) × IsConditionOf list (mirrored_of x) (mirrored a os points n)) (sym at)
      (or_same list _ _ _ _ one other, beside_same list _ _ _ _ one other)
  | inr ge ↦
      let none : tests_at a points n ≡ written None = no_tests a points n (get_none a.nodes n.0 ge) in
      let missing : slice_get tests n.0 ≡ None = get_none tests n.0 (rw rows.0 ge) in
      rw (missing, none) (tt, tt)
]
