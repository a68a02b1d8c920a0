-- Lemmas on loops over lists, item by item.
use Rattle.std.proofs.Common.{◌≡◌, ℕ, zero, suc, ◌+◌, ◌-◌, ◌<◌, ◌≤◌, List, [], ◌∷◌, ◌++◌, length, take, drop, get_or, map, refl, sym, ap, ◌∙◌, append_assoc, length-append, arith}
use Rattle.std.proofs.lemmas.List.{map-append}
use Rattle.std.specs.Prelude.{Option, Some, None, slice_get, filter_map, fold, Bool, true, false}
use Rattle.std.specs.Option.{option_to_list}
use Rattle.std.specs.List.{position_or_len, cons_option}
use Rattle.std.proofs.lemmas.List.Elements.{filter_map-append}
use Rattle.std.proofs.lemmas.List.Sums.{fold-append}
use Rattle.std.proofs.Math.Seq.{take-suc}
use Rattle.py_scopes.specs.Occurrences.{first_ids}
use Rattle.std.proofs.lemmas.Option.{slice_get_within, get_or_from_slice_get, slice_get_read}
use Rattle.std.proofs.Math.Seq.{drop-cons}
use Rattle.py_base.specs.declared.ids.NodeId.{NodeId}
use Rattle.py_base.specs.declared.node.Node.{Node}
use Rattle.py_scopes.specs.declared.way.Step.{Step}
use Rattle.py_scopes.specs.Way.{step_out, go_on, steps}

-- what is left of a list begins with the item that is next
pub drop-next : {X : Type 0} (xs : List X) (i : ℕ) (x : X) → slice_get xs i ≡ Some x → drop i xs ≡ x ∷ drop (i + 1) xs
drop-next xs i x e =
    let within = slice_get_within xs i x e in
    let here : get_or xs i x ≡ x = get_or_from_slice_get xs i x x e in
    let next : i + 1 ≡ suc i = omega arith in
    drop-cons xs i x within ∙ ap (λ y. y ∷ drop (suc i) xs) here ∙ ap (λ k. x ∷ drop k xs) (sym next)

-- one step of the way more
pub steps-more : (nodes : List Node) (id : NodeId) (way longer : List Step) (taken : ℕ) (s : Step) → taken < length nodes → step_out nodes id ≡ Some s → longer ≡ way ++ s ∷ []
    → longer ++ steps (length nodes - (taken + 1)) nodes s.around ≡ way ++ steps (length nodes - taken) nodes id
steps-more nodes id way longer taken s lt e f =
    let left : length nodes - taken ≡ suc (length nodes - (taken + 1)) = omega arith in
    let rest : List Step = steps (length nodes - (taken + 1)) nodes s.around in
    let here : steps (length nodes - taken) nodes id ≡ s ∷ rest =
    ap (λ k. steps k nodes id) left ∙ ap (λ o. go_on o (steps (length nodes - (taken + 1)) nodes)) e in
    ap (λ l. l ++ rest) f ∙ append_assoc way (s ∷ []) rest ∙ ap (λ l. way ++ l) (sym here)

-- the place of the first item that passes, from the item at i on
pub place-here : {X : Type 0} (p : X → Bool) (xs : List X) (i : ℕ) (x : X) → slice_get xs i ≡ Some x → p x ≡ true → position_or_len p (drop i xs) ≡ 0
place-here p xs i x e h = ap (position_or_len p) (drop-next xs i x e) ∙ rw h refl

pub place-next : {X : Type 0} (p : X → Bool) (xs : List X) (i : ℕ) (x : X) → slice_get xs i ≡ Some x → p x ≡ false → position_or_len p (drop i xs) ≡ 1 + position_or_len p (drop (i + 1) xs)
place-next p xs i x e h = ap (position_or_len p) (drop-next xs i x e) ∙ rw h refl

one-kept : {Y : Type 0} (o : Option Y) → cons_option o [] ≡ option_to_list o
one-kept None = refl
one-kept (Some y) = refl

-- what is taken of a list, with the next item
pub take-next : {X : Type 0} (xs : List X) (i : ℕ) (x : X) → slice_get xs i ≡ Some x → take (i + 1) xs ≡ take i xs ++ x ∷ []
take-next xs i x e =
    let within = slice_get_within xs i x e in
    let here : get_or xs i x ≡ x = get_or_from_slice_get xs i x x e in
    let next : i + 1 ≡ suc i = omega arith in
    ap (λ k. take k xs) next ∙ take-suc xs i x within ∙ ap (λ y. take i xs ++ y ∷ []) here

pub kept-next : {X Y : Type 0} (f : X → Option Y) (xs : List X) (i : ℕ) (x : X) → slice_get xs i ≡ Some x → filter_map f (take (i + 1) xs) ≡ filter_map f (take i xs) ++ option_to_list (f x)
kept-next f xs i x e = ap (filter_map f) (take-next xs i x e) ∙ filter_map-append f (take i xs) (x ∷ []) ∙ ap (λ l. filter_map f (take i xs) ++ l) (one-kept (f x))

pub folded-next : {X Y B : Type 0} (g : B → Y → B) (b : B) (f : X → Option Y) (xs : List X) (i : ℕ) (x : X) → slice_get xs i ≡ Some x
    → fold g b (filter_map f (take (i + 1) xs)) ≡ fold g (fold g b (filter_map f (take i xs))) (option_to_list (f x))
folded-next g b f xs i x e = ap (fold g b) (kept-next f xs i x e) ∙ fold-append g b (filter_map f (take i xs)) (option_to_list (f x))

pub length-ids : (n : ℕ) → length (first_ids n) ≡ n
length-ids zero = refl
length-ids (suc n) = omega (arith, length-append (first_ids n) (record { 0 = n } ∷ []), length-ids n)

-- one number more
ids-next : (n : ℕ) → first_ids (n + 1) ≡ first_ids n ++ record { 0 = n } ∷ []
ids-next n = let next : n + 1 ≡ suc n = omega arith in ap first_ids next

pub kept-ids-next : {Y : Type 0} (f : NodeId → Option Y) (n : ℕ) → filter_map f (first_ids (n + 1)) ≡ filter_map f (first_ids n) ++ option_to_list (f (record { 0 = n }))
kept-ids-next f n = ap (filter_map f) (ids-next n) ∙ filter_map-append f (first_ids n) (record { 0 = n } ∷ []) ∙ ap (λ l. filter_map f (first_ids n) ++ l) (one-kept (f (record { 0 = n })))

pub made-ids-next : {Y : Type 0} (f : NodeId → Y) (n : ℕ) → map f (first_ids (n + 1)) ≡ map f (first_ids n) ++ f (record { 0 = n }) ∷ []
made-ids-next f n = ap (map f) (ids-next n) ∙ map-append f (first_ids n) (record { 0 = n } ∷ [])

-- steps of loops

pub fold-step : {X Y B : Type 0} (g : B → Y → B) (b old new : B) (f : X → Option Y) (xs : List X) (i : ℕ) (x : X) (o : Option Y) → i < length xs → x ≡ get_or xs i x
    → new ≡ fold g old (option_to_list o) → o ≡ f x → old ≡ fold g b (filter_map f (take i xs)) → new ≡ fold g b (filter_map f (take (i + 1) xs))
fold-step g b old new f xs i x o lt here made is before =
    let item = slice_get_read xs (length xs) i x refl lt here in
    made ∙ ap (λ a. fold g a (option_to_list o)) before ∙ ap (λ p. fold g (fold g b (filter_map f (take i xs))) (option_to_list p)) is ∙ sym (folded-next g b f xs i x item)

pub kept-step : {Y : Type 0} (f : NodeId → Option Y) (n : ℕ) (old new : List Y) (o : Option Y) → new ≡ old ++ option_to_list o → o ≡ f (record { 0 = n }) → old ≡ filter_map f (first_ids n)
    → new ≡ filter_map f (first_ids (n + 1))
kept-step f n old new o made is before =
    made ∙ ap (λ a. a ++ option_to_list o) before ∙ ap (λ p. filter_map f (first_ids n) ++ option_to_list p) is ∙ sym (kept-ids-next f n)

pub made-step : {Y : Type 0} (f : NodeId → Y) (n : ℕ) (old new : List Y) (y : Y) → new ≡ old ++ y ∷ [] → y ≡ f (record { 0 = n }) → old ≡ map f (first_ids n) → new ≡ map f (first_ids (n + 1))
made-step f n old new y made is before =
    made ∙ ap (λ a. a ++ y ∷ []) before ∙ ap (λ p. map f (first_ids n) ++ p ∷ []) is ∙ sym (made-ids-next f n)

at_most_one : {Y : Type 0} (o : Option Y) → length (option_to_list o) ≤ 1
at_most_one None = omega arith
at_most_one (Some y) = omega arith

-- a list that takes at most one item a time is no longer than so many times
pub room-step : {Y : Type 0} (old new : List Y) (o : Option Y) (n : ℕ) → new ≡ old ++ option_to_list o → length old ≤ n → length new ≤ n + 1
room-step old new o n made before = let e : length new ≡ length old + length (option_to_list o) = ap length made ∙ length-append old (option_to_list o) in omega (arith, e, at_most_one o)
