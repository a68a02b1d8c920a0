-- The key by which an atom is ordered: numbers, each with what stands inside it. Keys are compared
-- from the front, and what ends first stands before what goes on.
use Rattle.std.specs.Prelude.{ℕ, ℤ, pos, Bool, cond, List, [], ◌∷◌}
use Rattle.std.specs.declared.cmp.Ordering.{Ordering}
use Rattle.std.specs.declared.cmp.Ordering.TheVariants.{Less, Equal, Greater}
use Rattle.std.specs.Ordering.{int_cmp, ordering_then}

pub data SortKey : Type 0 where
  end : SortKey
  part : ℤ → SortKey → SortKey → SortKey

abbrev pub key_cmp : SortKey → SortKey → Ordering
key_cmp end end = Equal
key_cmp end (part m inner next) = Less
key_cmp (part n inner next) end = Greater
key_cmp (part n a x) (part m b y) = ordering_then (int_cmp n m) (ordering_then (key_cmp a b) (key_cmp x y))

-- a number, and what follows it
abbrev pub number : ℕ → SortKey → SortKey
number n next = part (pos n) end next

abbrev pub bit : Bool → ℕ
bit b = cond b 1 0

-- a text by its bytes
abbrev pub bytes_key : List ℕ → SortKey
bytes_key [] = end
bytes_key (b ∷ bs) = number b (bytes_key bs)

-- keys one after another
abbrev pub listed : List SortKey → SortKey
listed [] = end
listed (k ∷ ks) = part (pos 0) k (listed ks)
