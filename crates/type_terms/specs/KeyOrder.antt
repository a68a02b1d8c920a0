-- The order of keys is total and ties only a key with itself, so the order of atoms is total.
use Rattle.std.proofs.Common.{◌≡◌, refl, sym, ap, ◌∙◌, Ordering}
use Rattle.std.specs.Prelude.{ℤ}
use Rattle.std.specs.Cmp.{IsTotalOrder, alike_right, int_cmp_total, on_total}
use Rattle.std.specs.FinSet.{IsAntisymmetric, int_cmp-IsAntisymmetric}
use Rattle.std.specs.declared.cmp.Ordering.TheVariants.{Less, Equal, Greater}
use Rattle.std.specs.Ordering.{int_cmp, ordering_then, ordering_reverse}
use Rattle.type_terms.specs.SortKey.{SortKey, end, part, key_cmp}
use Rattle.type_terms.specs.Order.{key, atom_cmp}

-- what the answers for a first and a second, a second and a third say of a first and a third
record Chain (one two three : Ordering) : Type 0 where
  rises : one ≡ Less → two ≡ Less → three ≡ Less
  after : one ≡ Equal → three ≡ two
  before : two ≡ Equal → three ≡ one

chain_then : (a b c p q r : Ordering) → Chain a b c → Chain p q r → Chain (ordering_then a p) (ordering_then b q) (ordering_then c r)
chain_then Less Less c p q r h k = let e = h.rises refl refl in record { rises = λ _ _. rw e refl; after = λ x. cc; before = λ x. cc }
chain_then Less Equal c p q r h k = let e = h.before refl in record { rises = λ _ _. rw e refl; after = λ x. cc; before = λ _. rw e refl }
chain_then Less Greater c p q r h k = record { rises = λ _ x. cc; after = λ x. cc; before = λ x. cc }
chain_then Equal Less c p q r h k = let e = h.after refl in record { rises = λ _ _. rw e refl; after = λ _. rw e refl; before = λ x. cc }
chain_then Equal Equal c p q r h k = let e = h.after refl in rw e k
chain_then Equal Greater c p q r h k = let e = h.after refl in record { rises = λ _ x. cc; after = λ _. rw e refl; before = λ x. cc }
chain_then Greater Less c p q r h k = record { rises = λ x _. cc; after = λ x. cc; before = λ x. cc }
chain_then Greater Equal c p q r h k = let e = h.before refl in record { rises = λ x _. cc; after = λ x. cc; before = λ _. rw e refl }
chain_then Greater Greater c p q r h k = record { rises = λ x _. cc; after = λ x. cc; before = λ x. cc }

int_chain : (n m o : ℤ) → Chain (int_cmp n m) (int_cmp m o) (int_cmp n o)
int_chain n m o = record {
  rises = int_cmp_total.trans n m o;
  after = int_cmp_total.congr n m o;
  before = λ e. sym (alike_right int_cmp_total m o n e);
}

key_chain : (a b c : SortKey) → Chain (key_cmp a b) (key_cmp b c) (key_cmp a c)
key_chain end end c = record { rises = λ x _. cc; after = λ _. refl; before = λ x. x }
key_chain end (part m b y) end = record { rises = λ _ x. cc; after = λ x. cc; before = λ x. cc }
key_chain end (part m b y) (part o c z) = record { rises = λ _ _. refl; after = λ x. cc; before = λ _. refl }
key_chain (part n a x) end end = record { rises = λ x _. cc; after = λ x. cc; before = λ _. refl }
key_chain (part n a x) end (part o c z) = record { rises = λ x _. cc; after = λ x. cc; before = λ x. cc }
key_chain (part n a x) (part m b y) end = record { rises = λ _ x. cc; after = λ _. refl; before = λ x. cc }
key_chain (part n a x) (part m b y) (part o c z) =
    chain_then (int_cmp n m) (int_cmp m o) (int_cmp n o) _ _ _ (int_chain n m o)
    (chain_then (key_cmp a b) (key_cmp b c) (key_cmp a c) _ _ _ (key_chain a b c) (key_chain x y z))

reverse_then : (a b : Ordering) → ordering_reverse (ordering_then a b) ≡ ordering_then (ordering_reverse a) (ordering_reverse b)
reverse_then Less b = refl
reverse_then Equal b = refl
reverse_then Greater b = refl

key_turned : (a b : SortKey) → key_cmp a b ≡ ordering_reverse (key_cmp b a)
key_turned end end = refl
key_turned end (part m b y) = refl
key_turned (part n a x) end = refl
key_turned (part n a x) (part m b y) =
    rw (int_cmp_total.antisymm n m, key_turned a b, key_turned x y)
    (sym (reverse_then (int_cmp m n) _ ∙ ap (ordering_then (ordering_reverse (int_cmp m n))) (reverse_then (key_cmp b a) (key_cmp y x))))

pub key_cmp_total : IsTotalOrder key_cmp
key_cmp_total = record {
  antisymm = key_turned;
  trans = λ a b c. (key_chain a b c).rises;
  congr = λ a b c. (key_chain a b c).after;
}

both_equal : (a b : Ordering) → ordering_then a b ≡ Equal → (a ≡ Equal) × (b ≡ Equal)
both_equal Less b e = cc
both_equal Equal b e = (refl, e)
both_equal Greater b e = cc

pub key_cmp_tells : IsAntisymmetric key_cmp
key_cmp_tells end end e = refl
key_cmp_tells end (part m b y) e = cc
key_cmp_tells (part n a x) end e = cc
key_cmp_tells (part n a x) (part m b y) e =
    let one = both_equal (int_cmp n m) _ e in
    let two = both_equal (key_cmp a b) (key_cmp x y) one.1 in
    let number = int_cmp-IsAntisymmetric n m one.0 in
    let inner = key_cmp_tells a b two.0 in
    let next = key_cmp_tells x y two.1 in
    cc

pub atom_cmp_total : IsTotalOrder atom_cmp
unfolding atom_cmp
atom_cmp_total = on_total key key_cmp_total
