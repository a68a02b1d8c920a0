-- Keys compare as the numbers and the texts in them do.
use Rattle.std.proofs.Common.{◌≡◌, ◌≢◌, ◌<◌, ◌≤◌, ◌+◌, length, get_or, drop, map, drop-cons, zero, suc, add-one, ℕ, Bool, true, false, List, [], ◌∷◌, refl, sym, ap, ◌∙◌, arith, Ordering}
use Rattle.std.proofs.lemmas.List.{drop_all}
use Rattle.std.proofs.lemmas.Bool.Decides.{nat_tests}
use Rattle.std.specs.Prelude.{ℤ, pos}
use Rattle.std.specs.declared.cmp.Ordering.TheVariants.{Less, Equal, Greater}
use Rattle.std.specs.Ordering.{nat_cmp, int_cmp, ordering_then}
use Rattle.std.specs.Cmp.Lexicographic.{slice_cmp}
use Rattle.type_terms.specs.SortKey.{SortKey, end, part, key_cmp, number, bit, bytes_key, listed}
use Rattle.py_base.specs.declared.ids.ClassId.{ClassId}
use Rattle.type_terms.specs.declared.literal.Literal.{Literal}
use Rattle.type_terms.specs.declared.literal.Literal.TheVariants as literal
use Rattle.type_terms.specs.Order.{literal_kind, literal_value, literal_key, head}

pub int_cmp-pos : (x y : ℕ) → int_cmp (pos x) (pos y) ≡ nat_cmp x y
int_cmp-pos x y = grind (arith, nat_tests)

pub key_cmp-number : (n m : ℕ) (x y : SortKey) → key_cmp (number n x) (number m y) ≡ ordering_then (nat_cmp n m) (key_cmp x y)
key_cmp-number n m x y = ap (λ o. ordering_then o (key_cmp x y)) (int_cmp-pos n m)

then_equal : (o : Ordering) → ordering_then o Equal ≡ o
then_equal Less = refl
then_equal Equal = refl
then_equal Greater = refl

pub key_cmp-bytes_key : (xs ys : List ℕ) → key_cmp (bytes_key xs) (bytes_key ys) ≡ slice_cmp nat_cmp xs ys
key_cmp-bytes_key [] [] = refl
key_cmp-bytes_key [] (y ∷ ys) = refl
key_cmp-bytes_key (x ∷ xs) [] = refl
key_cmp-bytes_key (x ∷ xs) (y ∷ ys) =
    key_cmp-number x y (bytes_key xs) (bytes_key ys) ∙ ap (ordering_then (nat_cmp x y)) (key_cmp-bytes_key xs ys)

-- numbers that differ decide
pub then_apart : (n m : ℕ) (o : Ordering) → n ≢ m → ordering_then (nat_cmp n m) o ≡ nat_cmp n m
then_apart n m o apart = grind (arith, nat_tests)

pub key_cmp-apart : (a b : Literal) → literal_kind a ≢ literal_kind b → nat_cmp (literal_kind a) (literal_kind b) ≡ key_cmp (literal_key a) (literal_key b)
key_cmp-apart a b apart =
    sym (key_cmp-number (literal_kind a) (literal_kind b) (literal_value a) (literal_value b) ∙ then_apart (literal_kind a) (literal_kind b) _ apart)

-- another literal of the kind of a variant is of that variant
pub kind-Int : (b : Literal) → ((x : ℤ) → b ≡ literal.Int x → ⊥) → 0 ≢ literal_kind b
kind-Int (literal.Int x) other e = other x refl
kind-Int _ other e = omega arith

pub kind-Bool : (b : Literal) → ((x : Bool) → b ≡ literal.Bool x → ⊥) → 1 ≢ literal_kind b
kind-Bool (literal.Bool x) other e = other x refl
kind-Bool _ other e = omega arith

pub kind-Str : (b : Literal) → ((x : List ℕ) → b ≡ literal.Str x → ⊥) → 2 ≢ literal_kind b
kind-Str (literal.Str x) other e = other x refl
kind-Str _ other e = omega arith

pub kind-Bytes : (b : Literal) → ((x : List ℕ) → b ≡ literal.Bytes x → ⊥) → 3 ≢ literal_kind b
kind-Bytes (literal.Bytes x) other e = other x refl
kind-Bytes _ other e = omega arith

pub kind-Member : (b : Literal) → ((c : ClassId) (k : ℕ) → b ≡ literal.Member c k → ⊥) → 4 ≢ literal_kind b
kind-Member (literal.Member c k) other e = other c k refl
kind-Member _ other e = omega arith

then_decided : (o other : Ordering) → (o ≡ Equal → ⊥) → ordering_then o other ≡ o
then_decided Less other apart = refl
then_decided Equal other apart = absurd (apart refl)
then_decided Greater other apart = refl

-- an answer is a first one, and where that is `Equal` the rest
pub record IsThen (whole first rest : Ordering) : Type 0 where
  pub is : whole ≡ ordering_then first rest

pub then_from : {other whole first rest : Ordering} → other ≡ whole → IsThen whole first rest → IsThen other first rest
then_from e h = record { is = e ∙ h.is }

pub decided_by : {whole first rest : Ordering} (r : Ordering) → IsThen whole first rest → r ≡ first → (r ≡ Equal → ⊥) → r ≡ whole
decided_by {rest = rest} r h same apart = sym (h.is ∙ ap (λ o. ordering_then o rest) (sym same) ∙ then_decided r rest apart)

pub goes_on : {whole first rest : Ordering} → IsThen whole first rest → Equal ≡ first → whole ≡ rest
goes_on {rest = rest} h same = h.is ∙ ap (λ o. ordering_then o rest) (sym same)

-- two lists compared from a place on
module _ {T : Type 0} (f : T → SortKey) where
  pub listed_step : (xs ys : List T) (i : ℕ) (a b : T) → i < length xs → a ≡ get_or xs i a → i < length ys → b ≡ get_or ys i b
      → IsThen (key_cmp (listed (map f (drop i xs))) (listed (map f (drop i ys)))) (key_cmp (f a) (f b)) (key_cmp (listed (map f (drop (i + 1) xs))) (listed (map f (drop (i + 1) ys))))
  listed_step xs ys i a b within a-is others b-is =
      record { is = rw (drop-cons xs i a, drop-cons ys i b, ← a-is, ← b-is, add-one i) refl }

  pub listed_longer : (xs ys : List T) (i : ℕ) (a : T) → i < length xs → length ys ≤ i
      → key_cmp (listed (map f (drop i xs))) (listed (map f (drop i ys))) ≡ Greater
  listed_longer xs ys i a within ends = rw (drop-cons xs i a, drop_all i ys ends) refl

  -- nothing against what is left
  none_left : (ys : List T) (n : ℕ) → n ≤ length ys → key_cmp end (listed (map f (drop n ys))) ≡ nat_cmp n (length ys)
  none_left [] n h = grind (arith, nat_tests)
  none_left (y ∷ ys) zero h = grind (arith, nat_tests)
  none_left (y ∷ ys) (suc n) h = none_left ys n (omega arith) ∙ grind (arith, nat_tests)

  pub listed_ends : (xs ys : List T) (i : ℕ) → i ≡ length xs → i ≤ length ys
      → key_cmp (listed (map f (drop i xs))) (listed (map f (drop i ys))) ≡ nat_cmp i (length ys)
  listed_ends xs ys i ends h = rw (drop_all i xs (omega arith)) (none_left ys i h)

-- what stands behind the head of a builtin method: its receiver, and then its row
pub method_cmp : (row other : ℕ) (a b : SortKey) → ordering_then (key_cmp a b) (nat_cmp row other)
    ≡ key_cmp (part (pos 0) a (number row end)) (part (pos 0) b (number other end))
method_cmp row other a b = ap (ordering_then (key_cmp a b)) (sym (key_cmp-number row other end end ∙ then_equal (nat_cmp row other)))

then_more : (o p q : Ordering) → ordering_then (ordering_then o p) q ≡ ordering_then o (ordering_then p q)
then_more Less p q = refl
then_more Equal p q = refl
then_more Greater p q = refl

head_cmp : (k l c d p q i j : ℕ) (x y : SortKey)
    → key_cmp (head k c p i x) (head l d q j y) ≡ ordering_then (ordering_then (nat_cmp k l) (ordering_then (nat_cmp c d) (ordering_then (nat_cmp p q) (nat_cmp i j)))) (key_cmp x y)
head_cmp k l c d p q i j x y =
    rw (int_cmp-pos k l, int_cmp-pos c d, int_cmp-pos p q, int_cmp-pos i j)
    (sym (then_more (nat_cmp k l) _ _ ∙ ap (ordering_then (nat_cmp k l)) (then_more (nat_cmp c d) _ _ ∙ ap (ordering_then (nat_cmp c d)) (then_more (nat_cmp p q) _ _))))

-- keys compare by their heads, and then by what stands behind
pub keys_cmp : {a b : SortKey} (k l c d p q i j : ℕ) (x y : SortKey) → a ≡ head k c p i x → b ≡ head l d q j y
    → IsThen (key_cmp a b) (ordering_then (nat_cmp k l) (ordering_then (nat_cmp c d) (ordering_then (nat_cmp p q) (nat_cmp i j)))) (key_cmp x y)
keys_cmp k l c d p q i j x y e f = record { is = rw (e, f) (head_cmp k l c d p q i j x y) }
