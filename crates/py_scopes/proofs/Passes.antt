-- One pass over the occurrences gives each symbol its bindings and its first annotation; one over the symbols gives each class its members.
use Rattle.std.proofs.Common.{◌≡◌, ℕ, zero, suc, ◌+◌, ◌<◌, ◌≤◌, ◌==◌, Bool, true, false, ◌&&◌, List, [], ◌∷◌, ◌++◌, length, drop, map, get_or, refl, sym, ap, subst, ◌∙◌, arith, if◌then◌else◌, inl, inr, append_assoc}
use Rattle.std.specs.Prelude.{Option, Some, None, Result, Ok, Err, OnOk, fold, filter_map, option_map, slice_get, slice_set}
use Rattle.std.specs.Option.{option_to_list}
use Rattle.std.specs.List.{cons_option, position_from, IsDistinct}
use Rattle.std.proofs.lemmas.Bool.{eqb-true, cases_lt}
use Rattle.std.proofs.lemmas.List.{append-nil}
use Rattle.std.proofs.lemmas.List.Quantifiers.{position-Some}
use Rattle.std.proofs.lemmas.Map.Keys.{apart_from_distinct}
use Rattle.std.proofs.lemmas.Iterator.Adapters.{position_from-zero}
use Rattle.std.proofs.lemmas.Option.{slice_get_within, slice_get_past, get_or_from_slice_get}
use Rattle.std.proofs.Math.Nat.{eq-or-lt_of_le}
use Rattle.py_base.specs.declared.ids.NodeId.{NodeId}
use Rattle.py_base.specs.declared.ids.NameId.{NameId}
use Rattle.py_base.specs.declared.ids.SymId.{SymId}
use Rattle.py_scopes.specs.declared.scope.Symbol.{Symbol}
use Rattle.py_scopes.specs.declared.occurrence.Annotation.{Annotation}
use Rattle.py_scopes.specs.declared.occurrence.Occurrence.{Occurrence}
use Rattle.py_scopes.specs.Kinds.{gives_value}
use Rattle.py_scopes.specs.Scopes.{is_class}
use Rattle.py_scopes.specs.Occurrences.{first_ids}
use Rattle.py_scopes.specs.Owner.{same_symbol}
use Rattle.py_scopes.specs.Members.{bound_symbol}
use Rattle.py_scopes.specs.Same.{symbol_equiv}
use Rattle.py_scopes.specs.Table.{number_of, is_symbol, is_bound_at, annotation_at, earlier, earliest, declaration, bound_node, binding_at, bindings, is_member, members_from}
use Rattle.py_scopes.specs.Tables.{number_if, number_bound, put_at, PutsAt, no_items, no_annotation, binding_to, AddsBinding, earliest_to, earliest_with, annotation_to, AddsAnnotation, member_to, AddsMember}
use Rattle.py_scopes.proofs.Walks.{drop-next}
use Rattle.py_scopes.proofs.Outward.{get-set_same, get-set_other, apart, get-made, made-by-get, map-twice}

-- whether a number is this one
abbrev pub is_number : ℕ → Option ℕ → Bool
is_number i None = false
is_number i (Some k) = k == i

none-passes : {X : Type 0} (p : X → Bool) (k : ℕ) (xs : List X) (i : ℕ) (x : X) → position_from p k xs ≡ None → slice_get xs i ≡ Some x → p x ≡ false
none-passes p k [] i x e h = absurd (cc h)
none-passes {X} p k (y ∷ ys) i x e h = go (p y) refl (λ j f g. none-passes p (k + 1) ys j x f g) i h
  where
    go : (b : Bool) → p y ≡ b → ((j : ℕ) → position_from p (k + 1) ys ≡ None → slice_get ys j ≡ Some x → p x ≡ false) → (j : ℕ) → slice_get (y ∷ ys) j ≡ Some x → p x ≡ false
    go true f rest j g = let some : Some k ≡ None = sym (ap (λ b. if b then Some k else position_from p (k + 1) ys) f) ∙ e in absurd (cc some)
    go false f rest zero g = let same : y ≡ x = cc g in sym (ap p same) ∙ f
    go false f rest (suc j) g = rest j (sym (ap (λ b. if b then Some k else position_from p (k + 1) ys) f) ∙ e) g

-- A symbol of the list is the one that is bound just where its number is the number of that.
symbol-number : (numbers : List Symbol) → IsDistinct same_symbol numbers → (z x : Symbol) (i : ℕ) → slice_get numbers i ≡ Some x → (q : Option ℕ) → number_of numbers z ≡ q → same_symbol x z ≡ is_number i q
symbol-number numbers unique z x i h None e = symbol_equiv.symm x z ∙ none-passes (same_symbol z) 0 numbers i x (sym (position_from-zero (same_symbol z) numbers) ∙ e) h
symbol-number numbers unique z x i h (Some k) e = symbol_equiv.symm x z ∙ go (k == i) refl
  where
    found : (k < length numbers) × (same_symbol z (get_or numbers k x) ≡ true) × ((j : ℕ) → j < k → same_symbol z (get_or numbers j x) ≡ false)
    found = position-Some (same_symbol z) numbers k x e

    here : get_or numbers i x ≡ x
    here = get_or_from_slice_get numbers i x x h

    before : i < k → same_symbol z x ≡ false
    before lt = sym (ap (same_symbol z) here) ∙ found.2 i lt

    behind : k < i → same_symbol z x ≡ false
    behind lt =
        symbol_equiv.congr z (get_or numbers k x) x found.1 ∙ sym (ap (same_symbol (get_or numbers k x)) here)
        ∙ apart_from_distinct same_symbol numbers k i x unique lt (slice_get_within numbers i x h)

    go : (b : Bool) → (k == i) ≡ b → same_symbol z x ≡ (k == i)
    go true f = let same = eqb-true k i f in sym (ap (same_symbol z) (ap (λ j. get_or numbers j x) same ∙ here)) ∙ found.1 ∙ sym f
    go false f = elim (cases_lt i k) [
      | inl lt ↦ before lt ∙ sym f
      | inr ge ↦ elim (eq-or-lt_of_le ge) [ inl same ↦ absurd (apart k i f same) | inr lt ↦ behind lt ∙ sym f ]
    ]

pub bound-number : (all : List Occurrence) (numbers : List Symbol) (o : Occurrence) → IsDistinct same_symbol numbers → (x : Symbol) (i : ℕ) → slice_get numbers i ≡ Some x
    → is_bound_at all x o ≡ is_number i (number_bound all numbers o)
bound-number all numbers o unique x i h = go (bound_symbol all o)
  where
    go : (y : Option Symbol) → is_symbol x y ≡ is_number i (number_if numbers y)
    go None = refl
    go (Some z) = symbol-number numbers unique z x i h (number_of numbers z) refl

-- an item goes to one of the lists

map-same : {X : Type 0} (f : X → X) → ((x : X) → x ≡ f x) → (o : Option X) → o ≡ option_map f o
map-same f e None = refl
map-same f e (Some x) = ap Some (e x)

pub puts-at : {X : Type 0} (k : ℕ) (x : X) (old : List (List X)) (item pushed : List X) → slice_get old k ≡ Some item → pushed ≡ item ++ x ∷ [] → PutsAt k x old (slice_set old k pushed)
puts-at {X} k x old item pushed here made i = go (k == i) refl
  where
    go : (b : Bool) → (k == i) ≡ b → slice_get (slice_set old k pushed) i ≡ option_map (put_at k x i) (slice_get old i)
    go true e =
        let same = eqb-true k i e in
        subst (λ j. slice_get (slice_set old k pushed) j ≡ Some pushed) same (get-set_same old k pushed (slice_get_within old k item here))
        ∙ ap Some (made ∙ sym (ap (λ b. if b then item ++ x ∷ [] else item) e)) ∙ sym (ap (option_map (put_at k x i)) (ap (slice_get old) (sym same) ∙ here))
    go false e = get-set_other old k i pushed (apart k i e) ∙ map-same (put_at k x i) (λ l. sym (ap (λ b. if b then l ++ x ∷ [] else l) e)) (slice_get old i)

-- bindings

no-binding : (all : List Occurrence) (o : Occurrence) (x : Symbol) → (is_bound_at all x o && gives_value o.effect) ≡ false → (l : List NodeId) → l ≡ binding_to all o x l
no-binding all o x e l = sym (append-nil l) ∙ ap (λ b. l ++ option_to_list (if b then Some (bound_node o.node o.role) else None)) (sym e)

and-false : (a : Bool) → (a && false) ≡ false
and-false true = refl
and-false false = refl

pub adds-unvalued : (all : List Occurrence) (numbers : List Symbol) (o : Occurrence) (old : List (List NodeId)) → gives_value o.effect ≡ false → AddsBinding all numbers o old old
adds-unvalued all numbers o old e i x h =
    map-same (binding_to all o x) (no-binding all o x (ap (λ v. is_bound_at all x o && v) e ∙ and-false (is_bound_at all x o))) (slice_get old i)

pub adds-unbound : (all : List Occurrence) (numbers : List Symbol) (o : Occurrence) (old : List (List NodeId)) → IsDistinct same_symbol numbers → number_bound all numbers o ≡ None → AddsBinding all numbers o old old
adds-unbound all numbers o old unique e i x h =
    map-same (binding_to all o x) (no-binding all o x (ap (λ b. b && gives_value o.effect) (bound-number all numbers o unique x i h ∙ ap (is_number i) e))) (slice_get old i)

map-pointwise : {X Y : Type 0} (f g : X → Y) → ((x : X) → f x ≡ g x) → (o : Option X) → option_map f o ≡ option_map g o
map-pointwise f g e None = refl
map-pointwise f g e (Some x) = ap Some (e x)

pub adds-bound : (all : List Occurrence) (numbers : List Symbol) (o : Occurrence) (k : ℕ) (old new : List (List NodeId)) → IsDistinct same_symbol numbers → number_bound all numbers o ≡ Some k → gives_value o.effect ≡ true
    → PutsAt k (bound_node o.node o.role) old new → AddsBinding all numbers o old new
adds-bound all numbers o k old new unique e valued puts i x h =
    puts i ∙ map-pointwise (put_at k (bound_node o.node o.role) i) (binding_to all o x) (λ l. one (k == i) (is_bound_at all x o) (gives_value o.effect) (bound-number all numbers o unique x i h ∙ ap (is_number i) e) valued l) (slice_get old i)
  where
    one : (b c v : Bool) → c ≡ b → v ≡ true → (l : List NodeId) → (if b then l ++ bound_node o.node o.role ∷ [] else l) ≡ l ++ option_to_list (if (c && v) then Some (bound_node o.node o.role) else None)
    one true c v f g l = ap (λ a. l ++ option_to_list (if a then Some (bound_node o.node o.role) else None)) (sym (λ j. f j && g j))
    one false c v f g l = sym (append-nil l) ∙ ap (λ a. l ++ option_to_list (if a then Some (bound_node o.node o.role) else None)) (sym (λ j. f j && g j))

-- what is gathered, and what the occurrences that are left still give
abbrev pub BindingsFrom : List Occurrence → List Symbol → List Occurrence → List (List NodeId) → Type 0
BindingsFrom all numbers rest now =
    (i : ℕ) (x : Symbol) → slice_get numbers i ≡ Some x → option_map (λ l. l ++ filter_map (binding_at all x) rest) (slice_get now i) ≡ Some (bindings all x)

pub bindings-start : (all items : List Occurrence) (numbers : List Symbol) (now : List (List NodeId)) → items ≡ all → now ≡ map no_items (first_ids (length numbers)) → BindingsFrom all numbers items now
bindings-start all items numbers now same e i x h =
    ap (option_map (λ l. l ++ filter_map (binding_at all x) items)) (ap (λ l. slice_get l i) e ∙ get-made no_items (length numbers) i (slice_get_within numbers i x h))
    ∙ ap (λ l. Some (filter_map (binding_at all x) l)) same

onto : {Y : Type 0} (l : List Y) (v : Option Y) (rest : List Y) → (l ++ option_to_list v) ++ rest ≡ l ++ cons_option v rest
onto l None rest = ap (λ m. m ++ rest) (append-nil l)
onto l (Some y) rest = append_assoc l (y ∷ []) rest

pub bindings-next : (all items : List Occurrence) (numbers : List Symbol) (k : ℕ) (o : Occurrence) (now new : List (List NodeId)) → slice_get items k ≡ Some o → AddsBinding all numbers o now new
    → BindingsFrom all numbers (drop k items) now → BindingsFrom all numbers (drop (k + 1) items) new
bindings-next all items numbers k o now new here adds before i x h =
    let rest : List NodeId = filter_map (binding_at all x) (drop (k + 1) items) in
    ap (option_map (λ l. l ++ rest)) (adds i x h)
    ∙ map-twice (λ l. l ++ rest) (binding_to all o x) (λ l. l ++ cons_option (binding_at all x o) rest) (λ l. onto l (binding_at all x o) rest) (slice_get now i)
    ∙ ap (λ s. option_map (λ l. l ++ filter_map (binding_at all x) s) (slice_get now i)) (sym (drop-next items k o here)) ∙ before i x h

pub made-of-items : {X Y : Type 0} (f : X → Y) (xs : List X) (ys : List Y) → length ys ≡ length xs → ((i : ℕ) (x : X) → slice_get xs i ≡ Some x → slice_get ys i ≡ Some (f x)) → ys ≡ map f xs
made-of-items f [] [] count h = refl
made-of-items f [] (y ∷ ys) count h = absurd (omega (arith, count))
made-of-items f (x ∷ xs) [] count h = absurd (omega (arith, count))
made-of-items f (x ∷ xs) (y ∷ ys) count h =
    let e = h 0 x refl in
    let same : y ≡ f x = cc e in
    let rest = made-of-items f xs ys (omega (arith, count)) (λ i z g. h (suc i) z g) in
    λ j. same j ∷ rest j

pub bindings-end : (all rest : List Occurrence) (numbers : List Symbol) (now : List (List NodeId)) → rest ≡ [] → length now ≡ length numbers → BindingsFrom all numbers rest now → now ≡ map (bindings all) numbers
bindings-end all rest numbers now done count before = made-of-items (bindings all) numbers now count (λ i x h.
    map-same (λ l. l ++ []) (λ l. sym (append-nil l)) (slice_get now i) ∙ ap (λ s. option_map (λ l. l ++ filter_map (binding_at all x) s) (slice_get now i)) (sym done) ∙ before i x h)

-- annotations

abbrev pub stand_first : Option Annotation → Annotation → Option Annotation
stand_first old y = Some (earliest_to old y)

no-annotation : (all : List Occurrence) (o : Occurrence) (x : Symbol) → annotation_at all x o ≡ None → (a : Option Annotation) → a ≡ annotation_to all o x a
no-annotation all o x e a = ap (earliest_with a) (sym e)

either-none : (b : Bool) (nothing : Option Annotation) → nothing ≡ (if b then nothing else nothing)
either-none true nothing = refl
either-none false nothing = refl

pub adds-unannotated : (all : List Occurrence) (numbers : List Symbol) (o : Occurrence) (old : List (Option Annotation)) → o.annotation ≡ None → AddsAnnotation all numbers o old old
adds-unannotated all numbers o old e i x h =
    map-same (annotation_to all o x) (no-annotation all o x (ap (λ a. if is_bound_at all x o then a else None) e ∙ sym (either-none (is_bound_at all x o) None))) (slice_get old i)

pub adds-unbound_annotation : (all : List Occurrence) (numbers : List Symbol) (o : Occurrence) (old : List (Option Annotation)) → IsDistinct same_symbol numbers → number_bound all numbers o ≡ None
    → AddsAnnotation all numbers o old old
adds-unbound_annotation all numbers o old unique e i x h =
    map-same (annotation_to all o x) (no-annotation all o x (ap (λ b. if b then o.annotation else None) (bound-number all numbers o unique x i h ∙ ap (is_number i) e))) (slice_get old i)

pub adds-annotation : (all : List Occurrence) (numbers : List Symbol) (o : Occurrence) (k : ℕ) (y : Annotation) (so_far : Option Annotation) (old : List (Option Annotation)) → IsDistinct same_symbol numbers
    → number_bound all numbers o ≡ Some k → o.annotation ≡ Some y → slice_get old k ≡ Some so_far → AddsAnnotation all numbers o old (slice_set old k (Some (earliest_to so_far y)))
adds-annotation all numbers o k y so_far old unique e f here i x h = go (k == i) refl
  where
    bound : is_bound_at all x o ≡ (k == i)
    bound = bound-number all numbers o unique x i h ∙ ap (is_number i) e

    go : (b : Bool) → (k == i) ≡ b → slice_get (slice_set old k (Some (earliest_to so_far y))) i ≡ option_map (annotation_to all o x) (slice_get old i)
    go true g =
        let same = eqb-true k i g in
        subst (λ j. slice_get (slice_set old k (Some (earliest_to so_far y))) j ≡ Some (Some (earliest_to so_far y))) same (get-set_same old k (Some (earliest_to so_far y)) (slice_get_within old k so_far here))
        ∙ ap (λ a. Some (earliest_with so_far a)) (sym (ap (λ b. if b then o.annotation else None) (bound ∙ g) ∙ f))
        ∙ sym (ap (option_map (annotation_to all o x)) (ap (slice_get old) (sym same) ∙ here))
    go false g = get-set_other old k i (Some (earliest_to so_far y)) (apart k i g)
        ∙ map-same (annotation_to all o x) (no-annotation all o x (ap (λ b. if b then o.annotation else None) (bound ∙ g))) (slice_get old i)

abbrev pub AnnotationsFrom : List Occurrence → List Symbol → List Occurrence → List (Option Annotation) → Type 0
AnnotationsFrom all numbers rest now =
    (i : ℕ) (x : Symbol) → slice_get numbers i ≡ Some x → option_map (λ a. fold stand_first a (filter_map (annotation_at all x) rest)) (slice_get now i) ≡ Some (fold stand_first None (filter_map (annotation_at all x) all))

pub annotations-start : (all items : List Occurrence) (numbers : List Symbol) (now : List (Option Annotation)) → items ≡ all → now ≡ map no_annotation (first_ids (length numbers)) → AnnotationsFrom all numbers items now
annotations-start all items numbers now same e i x h =
    ap (option_map (λ a. fold stand_first a (filter_map (annotation_at all x) items))) (ap (λ l. slice_get l i) e ∙ get-made no_annotation (length numbers) i (slice_get_within numbers i x h))
    ∙ ap (λ l. Some (fold stand_first None (filter_map (annotation_at all x) l))) same

first-onto : (a v : Option Annotation) (rest : List Annotation) → fold stand_first (earliest_with a v) rest ≡ fold stand_first a (cons_option v rest)
first-onto a None rest = refl
first-onto a (Some y) rest = refl

pub annotations-next : (all items : List Occurrence) (numbers : List Symbol) (k : ℕ) (o : Occurrence) (now new : List (Option Annotation)) → slice_get items k ≡ Some o → AddsAnnotation all numbers o now new
    → AnnotationsFrom all numbers (drop k items) now → AnnotationsFrom all numbers (drop (k + 1) items) new
annotations-next all items numbers k o now new here adds before i x h =
    let rest : List Annotation = filter_map (annotation_at all x) (drop (k + 1) items) in
    ap (option_map (λ a. fold stand_first a rest)) (adds i x h)
    ∙ map-twice (λ a. fold stand_first a rest) (annotation_to all o x) (λ a. fold stand_first a (cons_option (annotation_at all x o) rest)) (λ a. first-onto a (annotation_at all x o) rest) (slice_get now i)
    ∙ ap (λ s. option_map (λ a. fold stand_first a (filter_map (annotation_at all x) s)) (slice_get now i)) (sym (drop-next items k o here)) ∙ before i x h

from-first : (x : Annotation) (ys : List Annotation) → fold stand_first (Some x) ys ≡ Some (fold earlier x ys)
from-first x [] = refl
from-first x (y ∷ ys) = from-first (earlier x y) ys

first-of : (ys : List Annotation) → fold stand_first None ys ≡ earliest ys
first-of [] = refl
first-of (y ∷ ys) = from-first y ys

pub annotations-end : (all rest : List Occurrence) (numbers : List Symbol) (now : List (Option Annotation)) → rest ≡ [] → length now ≡ length numbers → AnnotationsFrom all numbers rest now
    → now ≡ map (declaration all) numbers
annotations-end all rest numbers now done count before = made-of-items (declaration all) numbers now count (λ i x h.
    map-same (λ a. fold stand_first a []) (λ a. refl) (slice_get now i)
    ∙ ap (λ s. option_map (λ a. fold stand_first a (filter_map (annotation_at all x) s)) (slice_get now i)) (sym done) ∙ before i x h
    ∙ ap Some (first-of (filter_map (annotation_at all x) all)))

-- members

unmoved : (x : Symbol) (k : SymId) (i : ℕ) → is_member (record { 0 = i }) x ≡ false → (l : List (NameId × SymId)) → l ≡ member_to x k i l
unmoved x k i e l = sym (ap (λ b. if b then l ++ (x.name, k) ∷ [] else l) e)

pub adds-no_class : (x : Symbol) (k : SymId) (old : List (List (NameId × SymId))) → is_class x.scope.kind ≡ false → AddsMember x k old old
adds-no_class x k old e i = map-same (member_to x k i) (unmoved x k i (ap (λ b. b && x.scope.node.0 == i) e)) (slice_get old i)

pub adds-beyond : (x : Symbol) (k : SymId) (old : List (List (NameId × SymId))) → length old ≤ x.scope.node.0 → AddsMember x k old old
adds-beyond x k old le i = go (x.scope.node.0 == i) refl
  where
    go : (b : Bool) → (x.scope.node.0 == i) ≡ b → slice_get old i ≡ option_map (member_to x k i) (slice_get old i)
    go true e = let same = eqb-true x.scope.node.0 i e in let past : slice_get old i ≡ None = slice_get_past old i (omega (arith, same, le)) in past ∙ sym (ap (option_map (member_to x k i)) past)
    go false e = map-same (member_to x k i) (unmoved x k i (ap (λ b. is_class x.scope.kind && b) e ∙ and-false (is_class x.scope.kind))) (slice_get old i)

pub adds-member : (x : Symbol) (k : SymId) (old new : List (List (NameId × SymId))) → is_class x.scope.kind ≡ true → PutsAt x.scope.node.0 (x.name, k) old new → AddsMember x k old new
adds-member x k old new e puts i =
    puts i ∙ map-pointwise (put_at x.scope.node.0 (x.name, k) i) (member_to x k i) (λ l. ap (λ b. if (b && x.scope.node.0 == i) then l ++ (x.name, k) ∷ [] else l) (sym e)) (slice_get old i)

abbrev pub MembersFrom : ℕ → List Symbol → ℕ → List (List (NameId × SymId)) → Type 0
MembersFrom count numbers k now =
    (i : ℕ) → i < count → option_map (λ l. l ++ members_from (record { 0 = i }) k (drop k numbers)) (slice_get now i) ≡ Some (members_from (record { 0 = i }) 0 numbers)

pub members-start : (count : ℕ) (numbers : List Symbol) (now : List (List (NameId × SymId))) → now ≡ map no_items (first_ids count) → MembersFrom count numbers 0 now
members-start count numbers now e i lt = ap (option_map (λ l. l ++ members_from (record { 0 = i }) 0 numbers)) (ap (λ l. slice_get l i) e ∙ get-made no_items count i lt)

member-onto : (b : Bool) (l rest : List (NameId × SymId)) (m : NameId × SymId) → (if b then l ++ m ∷ [] else l) ++ rest ≡ l ++ (if b then m ∷ rest else rest)
member-onto true l rest m = append_assoc l (m ∷ []) rest
member-onto false l rest m = refl

pub members-next : (count : ℕ) (numbers : List Symbol) (k : ℕ) (x : Symbol) (now new : List (List (NameId × SymId))) → slice_get numbers k ≡ Some x → AddsMember x (record { 0 = k }) now new
    → MembersFrom count numbers k now → MembersFrom count numbers (k + 1) new
members-next count numbers k x now new here adds before i lt =
    let class : NodeId = record { 0 = i } in
    let next : k + 1 ≡ suc k = omega arith in
    let others : List Symbol = drop (k + 1) numbers in
    ap (option_map (λ l. l ++ members_from class (k + 1) others)) (adds i)
    ∙ map-twice (λ l. l ++ members_from class (k + 1) others) (member_to x (record { 0 = k }) i) (λ l. l ++ members_from class k (x ∷ others))
    (λ l. member-onto (is_member class x) l (members_from class (k + 1) others) (x.name, record { 0 = k })
    ∙ ap (λ n. l ++ (if is_member class x then (x.name, record { 0 = k }) ∷ members_from class n others else members_from class n others)) next) (slice_get now i)
    ∙ ap (λ s. option_map (λ l. l ++ members_from class k s) (slice_get now i)) (sym (drop-next numbers k x here)) ∙ before i lt

pub members-end : (count : ℕ) (numbers : List Symbol) (k : ℕ) (now : List (List (NameId × SymId))) → drop k numbers ≡ [] → length now ≡ count → MembersFrom count numbers k now
    → now ≡ map (λ id. members_from id 0 numbers) (first_ids count)
members-end count numbers k now done long before = made-by-get (λ id. members_from id 0 numbers) count now long (λ i lt.
    map-same (λ l. l ++ []) (λ l. sym (append-nil l)) (slice_get now i) ∙ ap (λ s. option_map (λ l. l ++ members_from (record { 0 = i }) k s) (slice_get now i)) (sym done) ∙ before i lt)

-- the same, as the code has it

on-ok : {T E P Q : Type 0} → (P → Q) → (r : Result T E) → OnOk r P → OnOk r Q
on-ok f (Ok t) h = f h
on-ok f (Err e) h = tt

pub adds-put : {T E : Type 0} (all : List Occurrence) (numbers : List Symbol) (o : Occurrence) (k : ℕ) (node : NodeId) (old new : List (List NodeId)) (r : Result T E) → IsDistinct same_symbol numbers
    → number_bound all numbers o ≡ Some k → gives_value o.effect ≡ true → node ≡ bound_node o.node o.role → OnOk r (PutsAt k node old new) → OnOk r (AddsBinding all numbers o old new)
adds-put all numbers o k node old new r unique e valued same h =
    on-ok (λ puts. adds-bound all numbers o k old new unique e valued (subst (λ m. PutsAt k m old new) same puts)) r h

pub adds-set : (all : List Occurrence) (numbers : List Symbol) (o : Occurrence) (k : ℕ) (y z : Annotation) (so_far : Option Annotation) (old new : List (Option Annotation)) → IsDistinct same_symbol numbers
    → number_bound all numbers o ≡ Some k → o.annotation ≡ Some y → slice_get old k ≡ Some so_far → z ≡ earliest_to so_far y → new ≡ slice_set old k (Some z) → AddsAnnotation all numbers o old new
adds-set all numbers o k y z so_far old new unique e f here same made =
    subst (λ l. AddsAnnotation all numbers o old l) (sym (made ∙ ap (λ a. slice_set old k (Some a)) same)) (adds-annotation all numbers o k y so_far old unique e f here)
