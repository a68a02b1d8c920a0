-- The laws of `specs/Laws.antt`.
use Rattle.std.proofs.Common.{◌≡◌, ℕ, ◌<◌, ◌≤◌, ◌==◌, ◌⊎◌, inl, inr, nat_lt, nat_le, Bool, true, false, ◌&&◌, Some, None, List, [], ◌∷◌, refl, sym, ◌∙◌, ap, subst, arith}
use Rattle.std.proofs.lemmas.Bool.{le-leb, leb-true, eqb-true, eq-eqb, cases_lt, or_cases, or_left, or_right, and_parts, and_from}
use Rattle.py_blocks.specs.declared.line.Line.{Line}
use Rattle.py_blocks.specs.Lines.{is_error, opens_one, nearest, block_column, error_line, behind_error}
use Rattle.py_blocks.specs.Rules.{is_faulty}
use Rattle.py_blocks.specs.Settling.{onto, replaced_from, replaced, Settles, settled, replacing, fault_places}
use Rattle.py_blocks.specs.OnePass.{settled_from}
use Rattle.py_blocks.specs.Laws.{EachSettles, SettlesOnce, NoneIsFaulty, FaultlessStay, FaultlessEnd, AllAbove, AreRising, places, FaultsInOrder, is_open, IsGreatestOpen, NearestIsOpen}
use Rattle.std.specs.List.{list_any}
use Rattle.py_blocks.proofs.BlockColumns.{nearest-here, nearest-past}
use Rattle.py_blocks.proofs.Passing.{pass}

pub each-settles : EachSettles
each-settles lines = (settled_from [] None lines, pass lines)

-- ---- one alone

same-end : {lines a : List Line} → Settles lines a → (b : List Line) → Settles lines b → a ≡ b
same-end (settled lines e) b s = other s e
  where
    other : {l b : List Line} → Settles l b → replaced l ≡ None → l ≡ b
    other (settled l f) e = refl
    other (replacing l next end f s) e = let x : Some next ≡ None = sym f ∙ e in cc
same-end (replacing lines next end e s) b t = other t e (same-end s)
  where
    other : {l b : List Line} → Settles l b → replaced l ≡ Some next → ((b : List Line) → Settles next b → end ≡ b) → end ≡ b
    other (settled l f) e more = let x : Some next ≡ None = sym e ∙ f in cc
    other (replacing l n d f s) e more = let x : Some next ≡ Some n = sym e ∙ f in let y : n ≡ next = cc in more d (subst (λ m. Settles m d) y s)

pub settles-once : SettlesOnce
settles-once lines a b s t = same-end s b t

-- ---- none is faulty

from-none : (before xs : List Line) → replaced_from before xs ≡ None → (ys : List Line) (zs : List Line) → ys ≡ xs → replaced_from before ys ≡ None
from-none before xs h ys zs e = ap (replaced_from before) e ∙ h

-- nothing before the place is replaced
none-at : (before : List Line) (x : Line) (behind : List Line) → replaced (onto before (x ∷ behind)) ≡ None → replaced_from before (x ∷ behind) ≡ None
none-at [] x behind h = h
none-at (y ∷ ys) x behind h = go (is_faulty ys y (x ∷ behind)) refl (none-at ys y (x ∷ behind) h)
  where
    go : (b : Bool) → is_faulty ys y (x ∷ behind) ≡ b → replaced_from ys (y ∷ x ∷ behind) ≡ None → replaced_from (y ∷ ys) (x ∷ behind) ≡ None
    go true e k = let z : Some (onto ys (error_line ys y ∷ behind_error (block_column ys y) (x ∷ behind))) ≡ None = rw e at k in cc
    go false e k = rw e at k

fine-at : (before : List Line) (x : Line) (behind : List Line) → replaced_from before (x ∷ behind) ≡ None → is_faulty before x behind ≡ false
fine-at before x behind h = go (is_faulty before x behind) refl
  where
    go : (b : Bool) → is_faulty before x behind ≡ b → is_faulty before x behind ≡ false
    go true e = let z : Some (onto before (error_line before x ∷ behind_error (block_column before x) behind)) ≡ None = rw e at h in cc
    go false e = e

end-none : {lines end : List Line} → Settles lines end → replaced end ≡ None
end-none (settled lines e) = e
end-none (replacing lines next end e s) = end-none s

pub none-is-faulty : NoneIsFaulty
none-is-faulty lines end before behind x s e = fine-at before x behind (none-at before x behind (ap replaced e ∙ end-none s))

all-fine : (before xs : List Line) → ((b behind : List Line) (x : Line) → onto b (x ∷ behind) ≡ onto before xs → is_faulty b x behind ≡ false) → replaced_from before xs ≡ None
all-fine before [] h = refl
all-fine before (x ∷ xs) h = let f : is_faulty before x xs ≡ false = h before xs x refl in rw f (all-fine (x ∷ before) xs h)

pub faultless-stay : FaultlessStay
faultless-stay lines end h s = sym (same-end (settled lines (all-fine [] lines h)) end s)

-- ---- no error line is left

onto-any : (p : Line → Bool) (bs xs : List Line) → list_any p xs ≡ true → list_any p (onto bs xs) ≡ true
onto-any p [] xs h = h
onto-any p (b ∷ bs) xs h = onto-any p bs (b ∷ xs) (or_right (p b) (list_any p xs) h)

made-error : (xs before next : List Line) → replaced_from before xs ≡ Some next → list_any (λ x. is_error x.kind) next ≡ true
made-error [] before next h = cc
made-error (x ∷ xs) before next h = go (is_faulty before x xs) refl (made-error xs (x ∷ before) next)
  where
    e : Line
    e = error_line before x

    rest : List Line
    rest = behind_error (block_column before x) xs

    go : (b : Bool) → is_faulty before x xs ≡ b → (replaced_from (x ∷ before) xs ≡ Some next → list_any (λ x. is_error x.kind) next ≡ true) → list_any (λ x. is_error x.kind) next ≡ true
    go true f more =
        let k : Some (onto before (e ∷ rest)) ≡ Some next = rw f at h in
        let same : onto before (e ∷ rest) ≡ next = cc in
        ap (list_any (λ x. is_error x.kind)) (sym same) ∙ onto-any (λ x. is_error x.kind) before (e ∷ rest) refl
    go false f more = more (rw f at h)

error-stays : {lines end : List Line} → Settles lines end → list_any (λ x. is_error x.kind) lines ≡ true → list_any (λ x. is_error x.kind) end ≡ true
error-stays (settled lines e) h = h
error-stays (replacing lines next end e s) h = error-stays s (made-error lines [] next e)

end-same : {lines end : List Line} → Settles lines end → list_any (λ x. is_error x.kind) end ≡ false → end ≡ lines
end-same (settled lines e) h = refl
end-same (replacing lines next end e s) h = let t : true ≡ false = sym (error-stays s (made-error lines [] next e)) ∙ h in cc

pub faultless-end : FaultlessEnd
faultless-end lines end s h = end-same s h

-- ---- in the order of the text

-- the places are some of those of the list, in its order
pub data Sublist : List ℕ → List ℕ → Type 0 where
  none : (qs : List ℕ) → Sublist [] qs
  keep : (p : ℕ) (ps qs : List ℕ) → Sublist ps qs → Sublist (p ∷ ps) (p ∷ qs)
  skip : (p : ℕ) (ps qs : List ℕ) → Sublist ps qs → Sublist ps (p ∷ qs)

sub-refl : (ps : List ℕ) → Sublist ps ps
sub-refl [] = none []
sub-refl (p ∷ ps) = keep p ps ps (sub-refl ps)

sub-above : {ps qs : List ℕ} (a : ℕ) → Sublist ps qs → AllAbove a qs → AllAbove a ps
sub-above a (none qs) h = tt
sub-above a (keep p ps qs s) (b, h) = (b, sub-above a s h)
sub-above a (skip p ps qs s) (b, h) = sub-above a s h

sub-rising : {ps qs : List ℕ} → Sublist ps qs → AreRising qs → AreRising ps
sub-rising (none qs) h = tt
sub-rising (keep p ps qs s) (b, h) = (sub-above p s b, sub-rising s h)
sub-rising (skip p ps qs s) (b, h) = sub-rising s h

behind-sub : (b : ℕ) (xs : List Line) → Sublist (places (behind_error b xs)) (places xs)
behind-sub b [] = none []
behind-sub b (x ∷ xs) = go (nat_lt b x.column) refl (behind-sub b xs)
  where
    go : (t : Bool) → nat_lt b x.column ≡ t → Sublist (places (behind_error b xs)) (places xs) → Sublist (places (behind_error b (x ∷ xs))) (places (x ∷ xs))
    go true e s = rw e (skip x.place (places (behind_error b xs)) (places xs) s)
    go false e s = rw e (sub-refl (places (x ∷ xs)))

onto-sub : (before xs ys : List Line) → Sublist (places xs) (places ys) → Sublist (places (onto before xs)) (places (onto before ys))
onto-sub [] xs ys s = s
onto-sub (b ∷ bs) xs ys s = onto-sub bs (b ∷ xs) (b ∷ ys) (keep b.place (places xs) (places ys) s)

pub replaced-sub : (xs before next : List Line) → replaced_from before xs ≡ Some next → Sublist (places next) (places (onto before xs))
replaced-sub [] before next h = cc
replaced-sub (x ∷ xs) before next h = go (is_faulty before x xs) refl (replaced-sub xs (x ∷ before) next)
  where
    e : Line
    e = error_line before x

    rest : List Line
    rest = behind_error (block_column before x) xs

    go : (b : Bool) → is_faulty before x xs ≡ b → (replaced_from (x ∷ before) xs ≡ Some next → Sublist (places next) (places (onto (x ∷ before) xs))) → Sublist (places next) (places (onto before (x ∷ xs)))
    go true f more =
        let k : Some (onto before (e ∷ rest)) ≡ Some next = rw f at h in
        let same : onto before (e ∷ rest) ≡ next = cc in
        subst (λ n. Sublist (places n) (places (onto before (x ∷ xs)))) same (onto-sub before (e ∷ rest) (x ∷ xs) (keep x.place (places rest) (places xs) (behind-sub (block_column before x) xs)))
    go false f more = more (rw f at h)

settles-rising : {lines end : List Line} → Settles lines end → AreRising (places lines) → AreRising (places end)
settles-rising (settled lines e) h = h
settles-rising (replacing lines next end e s) h = settles-rising s (sub-rising (replaced-sub lines [] next e) h)

faults-sub : (xs : List Line) → Sublist (fault_places xs) (places xs)
faults-sub [] = none []
faults-sub (x ∷ xs) = go (is_error x.kind) refl (faults-sub xs)
  where
    go : (b : Bool) → is_error x.kind ≡ b → Sublist (fault_places xs) (places xs) → Sublist (fault_places (x ∷ xs)) (places (x ∷ xs))
    go true e s = rw e (keep x.place (fault_places xs) (places xs) s)
    go false e s = rw e (skip x.place (fault_places xs) (places xs) s)

pub faults-in-order : FaultsInOrder
faults-in-order lines end h s = sub-rising (faults-sub end) (settles-rising s h)

-- ---- open blocks

pub nearest-is-open : NearestIsOpen
nearest-is-open [] w = record { open_at = refl; below = omega arith; others = λ c le o. let z = eqb-true c 0 o in omega arith }
nearest-is-open (y ∷ ys) w = go (cases_lt w y.column) (opens_one ys y) refl (nearest-is-open ys w) (nearest-is-open ys y.column)
  where
    bound : (c : ℕ) → is_open (y ∷ ys) c ≡ true → (((y.column ≡ c) × (opens_one ys y ≡ true)) ⊎ ((c ≤ y.column) × (is_open ys c ≡ true)))
    bound c o = parts (or_cases _ _ o)
      where
        parts : (((y.column == c && opens_one ys y) ≡ true) ⊎ ((nat_le c y.column && is_open ys c) ≡ true)) → (((y.column ≡ c) × (opens_one ys y ≡ true)) ⊎ ((c ≤ y.column) × (is_open ys c ≡ true)))
        parts (inl k) = let p = and_parts (y.column == c) (opens_one ys y) k in inl (eqb-true y.column c p.0, p.1)
        parts (inr k) = let p = and_parts (nat_le c y.column) (is_open ys c) k in inr (leb-true c y.column p.0, p.1)

    inner : (c : ℕ) → c ≤ y.column → is_open ys c ≡ true → is_open (y ∷ ys) c ≡ true
    inner c le o = or_right (y.column == c && opens_one ys y) _ (and_from (nat_le c y.column) _ (le-leb c y.column le) o)

    go : ((w < y.column) ⊎ (y.column ≤ w)) → (b : Bool) → opens_one ys y ≡ b → IsGreatestOpen ys w (nearest ys w) → IsGreatestOpen ys y.column (nearest ys y.column) → IsGreatestOpen (y ∷ ys) w (nearest (y ∷ ys) w)
    go (inl l) b e more own =
        let below = more.below in
        rw (nearest-past y ys w l) (record { open_at = inner (nearest ys w) (omega arith) more.open_at; below = more.below; others = λ c le k. last c le (bound c k) })
      where
        last : (c : ℕ) → c ≤ w → (((y.column ≡ c) × (opens_one ys y ≡ true)) ⊎ ((c ≤ y.column) × (is_open ys c ≡ true))) → c ≤ nearest ys w
        last c le (inl (k, o)) = absurd (omega arith)
        last c le (inr (k, o)) = more.others c le o
    go (inr l) true e more own =
        let o : is_open (y ∷ ys) y.column ≡ true = or_left (y.column == y.column && opens_one ys y) _ (and_from (y.column == y.column) _ (eq-eqb y.column y.column refl) e) in
        let is : block_column ys y ≡ y.column = rw e refl in
        rw (nearest-here y ys w l, is) (record { open_at = o; below = l; others = λ c le k. last c (bound c k) })
      where
        last : (c : ℕ) → (((y.column ≡ c) × (opens_one ys y ≡ true)) ⊎ ((c ≤ y.column) × (is_open ys c ≡ true))) → c ≤ y.column
        last c (inl (k, o)) = omega arith
        last c (inr (k, o)) = k
    go (inr l) false e more own =
        let is : block_column ys y ≡ nearest ys y.column = rw e refl in
        let below = own.below in
        rw (nearest-here y ys w l, is) (record { open_at = inner (nearest ys y.column) own.below own.open_at; below = omega arith; others = λ c le k. last c (bound c k) })
      where
        last : (c : ℕ) → (((y.column ≡ c) × (opens_one ys y ≡ true)) ⊎ ((c ≤ y.column) × (is_open ys c ≡ true))) → c ≤ nearest ys y.column
        last c (inl (k, o)) = let z : false ≡ true = sym e ∙ o in cc
        last c (inr (k, o)) = own.others c k o
