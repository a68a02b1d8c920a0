-- Equal symbols: the laws of their equality, and that equal ones are hashed alike.
use Rattle.std.proofs.Common.{◌≡◌, Bool, true, false, ◌&&◌, ◌==◌, ◌++◌, refl, sym, true≢false}
use Rattle.std.proofs.lemmas.Bool.{eqb-true}
use Rattle.std.specs.Cmp.{IsEquivalence}
use Rattle.std.proofs.lemmas.Cmp.{nat_eq_equiv, on_equiv, and_equiv}
use Rattle.std.specs.Hash as fed
use Rattle.py_scopes.specs.declared.scope.Symbol.{Symbol}
use Rattle.py_scopes.specs.Scopes.{is_of_types, same_flag, same_scope}
use Rattle.py_scopes.specs.Owner.{same_name, same_symbol}

flag-refl : (a : Bool) → same_flag a a ≡ true
flag-refl true = refl
flag-refl false = refl

flag-symm : (a b : Bool) → same_flag a b ≡ same_flag b a
flag-symm true true = refl
flag-symm true false = refl
flag-symm false true = refl
flag-symm false false = refl

flag-congr : (a b c : Bool) → same_flag a b ≡ true → same_flag a c ≡ same_flag b c
flag-congr true true c e = refl
flag-congr true false c e = absurd (true≢false (sym e))
flag-congr false true c e = absurd (true≢false (sym e))
flag-congr false false c e = refl

pub flag_equiv : IsEquivalence same_flag
flag_equiv = record { refl = flag-refl; symm = flag-symm; congr = flag-congr }

pub symbol_equiv : IsEquivalence same_symbol
symbol_equiv =
    and_equiv (on_equiv (λ (x : Symbol). x.name.0) nat_eq_equiv)
    (and_equiv (on_equiv (λ (x : Symbol). x.scope.node.0) nat_eq_equiv) (on_equiv (λ (x : Symbol). is_of_types x.scope.kind) flag_equiv))

and-first : (a b : Bool) → (a && b) ≡ true → a ≡ true
and-first true b e = refl
and-first false b e = e

and-second : (a b : Bool) → (a && b) ≡ true → b ≡ true
and-second true b e = e
and-second false b e = absurd (true≢false (sym e))

-- what equal symbols share
pub same-name : (x y : Symbol) → same_symbol x y ≡ true → x.name.0 ≡ y.name.0
same-name x y e = eqb-true x.name.0 y.name.0 (and-first (same_name x.name y.name) (same_scope x.scope y.scope) e)

pub same-node : (x y : Symbol) → same_symbol x y ≡ true → x.scope.node.0 ≡ y.scope.node.0
same-node x y e =
    eqb-true x.scope.node.0 y.scope.node.0 (and-first (x.scope.node.0 == y.scope.node.0) (same_flag (is_of_types x.scope.kind) (is_of_types y.scope.kind))
    (and-second (same_name x.name y.name) (same_scope x.scope y.scope) e))

pub symbol_alike : (x y : Symbol) → same_symbol x y ≡ true → fed.u32 x.name.0 ++ fed.u32 x.scope.node.0 ≡ fed.u32 y.name.0 ++ fed.u32 y.scope.node.0
symbol_alike x y e =
    let n = same-name x y e in
    let d = same-node x y e in
    λ i. fed.u32 (n i) ++ fed.u32 (d i)
