-- No name stands twice where each is new behind those before it.
use Rattle.std.proofs.Common.{◌≡◌, ℕ, ◌+◌, ◌<◌, Bool, true, false, not, ◌&&◌, ◌||◌, List, [], ◌∷◌, ◌++◌, length, take, drop, get_or, refl, sym, ◌∙◌, ap, bytes_eq, cond}
use Rattle.std.specs.List.{list_all}
use Rattle.std.specs.Ordering.{nat_cmp, is_eq}
use Rattle.std.specs.Cmp.Lexicographic.{slice_cmp}
use Rattle.std.proofs.lemmas.List.{take_more, take-append-drop}
use Rattle.std.proofs.lemmas.List.Folds.{list_any-append, list_any_more}
use Rattle.std.proofs.lemmas.Map.Text.{is_eq-slice_cmp}
use Rattle.py_blocks.specs.Facts.{among, are_distinct}
use Rattle.py_blocks.proofs.OpenBlocks.{and-false}
use Rattle.py_blocks.proofs.Owners.{text-turned, or-added}

pub all-same : {X : Type 0} (f g : X → Bool) → ((x : X) → f x ≡ g x) → (xs : List X) → list_all f xs ≡ list_all g xs
all-same f g h [] = refl
all-same f g h (x ∷ xs) = ap (λ b. b && list_all f xs) (h x) ∙ ap (λ b. g x && b) (all-same f g h xs)

-- one name more in a set
pub put-in : (name n : List ℕ) (old : Bool) → cond (is_eq (slice_cmp nat_cmp name n)) true old ≡ (old || bytes_eq n name)
put-in name n old = ap (λ b. cond b true old) (is_eq-slice_cmp name n ∙ text-turned name n) ∙ or-added (bytes_eq n name) old

or-none : (a : Bool) → (a || false) ≡ a
or-none true = refl
or-none false = refl

turned : (a e d c : Bool) → (not (a || e) && (d && not c)) ≡ ((not a && d) && not (e || c))
turned true e d c = refl
turned false true true c = refl
turned false true false c = refl
turned false false d c = refl

-- one name more at the end
distinct-append : (ns : List (List ℕ)) (x : List ℕ) → are_distinct (ns ++ x ∷ []) ≡ (are_distinct ns && not (among x ns))
distinct-append [] x = refl
distinct-append (n ∷ ns) x =
    ap (λ b. not b && are_distinct (ns ++ x ∷ [])) (list_any-append (bytes_eq n) ns (x ∷ []) ∙ ap (λ b. among n ns || b) (or-none (bytes_eq n x) ∙ text-turned n x))
    ∙ (ap (λ b. not (among n ns || bytes_eq x n) && b) (distinct-append ns x) ∙ turned (among n ns) (bytes_eq x n) (are_distinct ns) (among x ns))

pub distinct-more : (ns : List (List ℕ)) (i : ℕ) (d : List ℕ) → i < length ns → are_distinct (take (i + 1) ns) ≡ (are_distinct (take i ns) && not (among (get_or ns i d) (take i ns)))
distinct-more ns i d lt = ap are_distinct (take_more ns i d lt) ∙ distinct-append (take i ns) (get_or ns i d)

-- names of which one stands twice, and more behind them
distinct-front : (ns ms : List (List ℕ)) → are_distinct ns ≡ false → are_distinct (ns ++ ms) ≡ false
distinct-front [] ms h = cc
distinct-front (n ∷ ns) ms h = go (among n ns) refl (distinct-front ns ms)
  where
    go : (a : Bool) → among n ns ≡ a → (are_distinct ns ≡ false → are_distinct (ns ++ ms) ≡ false) → (not (among n (ns ++ ms)) && are_distinct (ns ++ ms)) ≡ false
    go true i more = ap (λ b. not b && are_distinct (ns ++ ms)) (list_any-append (bytes_eq n) ns ms ∙ ap (λ b. b || among n ms) i)
    go false i more =
        let behind : are_distinct ns ≡ false = ap (λ b. not b && are_distinct ns) (sym i) ∙ h in
        ap (λ b. not (among n (ns ++ ms)) && b) (more behind) ∙ and-false (not (among n (ns ++ ms)))

pub distinct-twice : (ns : List (List ℕ)) (i : ℕ) (d : List ℕ) → i < length ns → among (get_or ns i d) (take i ns) ≡ true → are_distinct ns ≡ false
distinct-twice ns i d lt again =
    ap are_distinct (sym (take-append-drop (i + 1) ns))
    ∙ distinct-front (take (i + 1) ns) (drop (i + 1) ns) (distinct-more ns i d lt ∙ (ap (λ b. are_distinct (take i ns) && not b) again ∙ and-false (are_distinct (take i ns))))

-- a step of the search: h says whether the set has the name
pub distinct-stop : (ns : List (List ℕ)) (i : ℕ) (d : List ℕ) (h : Bool) → i < length ns → h ≡ among (get_or ns i d) (take i ns) → not h ≡ false → are_distinct ns ≡ false
distinct-stop ns i d true lt same again = distinct-twice ns i d lt (sym same)
distinct-stop ns i d false lt same again = cc

pub distinct-next : (ns : List (List ℕ)) (i : ℕ) (d : List ℕ) (h : Bool) → i < length ns → are_distinct (take i ns) ≡ true → h ≡ among (get_or ns i d) (take i ns) → not h ≡ true → are_distinct (take (i + 1) ns) ≡ true
distinct-next ns i d true lt before same new = cc
distinct-next ns i d false lt before same new =
    distinct-more ns i d lt ∙ (ap (λ b. b && not (among (get_or ns i d) (take i ns))) before ∙ ap (λ b. not b) (sym same))

pub among-more : (ns : List (List ℕ)) (i : ℕ) (d n name : List ℕ) (old : Bool) → i < length ns → name ≡ get_or ns i d → old ≡ among n (take i ns) → (old || bytes_eq n name) ≡ among n (take (i + 1) ns)
among-more ns i d n name old lt e same = ap (λ b. b || bytes_eq n name) same ∙ (ap (λ m. among n (take i ns) || bytes_eq n m) e ∙ sym (list_any_more (bytes_eq n) ns i d lt))
