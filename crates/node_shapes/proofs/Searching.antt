-- The clauses from a place on, and the only one of clauses of which one may have been found.
use Rattle.std.proofs.Common.{◌≡◌, ℕ, suc, ◌+◌, ◌-◌, ◌<◌, false, List, ◌∷◌, ◌++◌, Option, None, Some, is_some, option_to_list, filter_map, refl, arith}
use Rattle.std.specs.List.{range_with_len}
use Rattle.node_shapes.specs.declared.clauses.Clause.{Clause}
use Rattle.node_shapes.specs.Definitions.{only}

abbrev pub from_place : (ℕ → Option Clause) → ℕ → ℕ → List Clause
from_place f i n = filter_map f (range_with_len i (n - i))

one_more : (f : ℕ → Option Clause) (i n : ℕ) (c : Clause) → i < n → f i ≡ Some c → from_place f i n ≡ c ∷ from_place f (i + 1) n
one_more f i n c lt e = let d : n - i ≡ suc (n - (i + 1)) = omega arith in rw (d, e) refl

none_more : (f : ℕ → Option Clause) (i n : ℕ) → i < n → f i ≡ None → from_place f i n ≡ from_place f (i + 1) n
none_more f i n lt e = let d : n - i ≡ suc (n - (i + 1)) = omega arith in rw (d, e) refl

pub found : (f : ℕ → Option Clause) (i n : ℕ) (c : Clause) (o all : Option Clause) → i < n → is_some o ≡ false → f i ≡ Some c → only (option_to_list o ++ from_place f i n) ≡ all → only (c ∷ from_place f (i + 1) n) ≡ all
found f i n c None all lt free e h = rw (one_more f i n c lt e) at h
found f i n c (Some d) all lt free e h = cc

pub passed : (f : ℕ → Option Clause) (i n : ℕ) (o all : Option Clause) → i < n → f i ≡ None → only (option_to_list o ++ from_place f i n) ≡ all → only (option_to_list o ++ from_place f (i + 1) n) ≡ all
passed f i n o all lt e h = rw (none_more f i n lt e) at h
