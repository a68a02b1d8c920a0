-- A table of what is said of names answers what a search through all occurrences does.
use Rattle.std.proofs.Common.{◌≡◌, Bool, true, false, ◌&&◌, ◌||◌, List, [], ◌∷◌, ◌++◌, refl, sym, ap, ◌∙◌, if◌then◌else◌}
use Rattle.std.specs.Prelude.{Option, Some, None, fold, filter_map}
use Rattle.std.specs.List.{list_any, cons_option}
use Rattle.std.specs.Cmp.{IsEquivalence}
use Rattle.std.proofs.lemmas.Cmp.{nat_eq_equiv}
use Rattle.std.proofs.lemmas.Bool.{eqb-true}
use Rattle.std.proofs.lemmas.List.Folds.{list_any-append}
use Rattle.std.proofs.lemmas.Map.Steps.{list_any_congr}
use Rattle.py_base.specs.declared.ids.NameId.{NameId}
use Rattle.py_scopes.specs.declared.scope.Scope.{Scope}
use Rattle.py_scopes.specs.declared.scope.Symbol.{Symbol}
use Rattle.py_scopes.specs.declared.occurrence.Role.{Role}
use Rattle.py_scopes.specs.declared.occurrence.Occurrence.{Occurrence}
use Rattle.py_scopes.specs.Scopes.{is_innermost}
use Rattle.py_scopes.specs.Owner.{same_name, same_symbol, says, is_binding, home, belongs}
use Rattle.py_scopes.specs.Members.{hider_at, with_symbol}
use Rattle.py_scopes.specs.Same.{symbol_equiv}
use Rattle.py_scopes.specs.Tables.{symbol_in, said_at, names_said, HasSaid, symbol_at, all_symbols, HasSymbols, HasHiders}

or-false : (a : Bool) → a ≡ (a || false)
or-false true = refl
or-false false = refl

or-assoc : (a b c : Bool) → ((a || b) || c) ≡ (a || (b || c))
or-assoc true b c = refl
or-assoc false b c = refl

and-false : (a : Bool) → false ≡ (a && false)
and-false true = refl
and-false false = refl

abbrev pub insert : {K : Type 0} → (K → K → Bool) → List K → K → List K
insert eq ks k = if list_any (eq k) ks then ks else ks ++ k ∷ []

inserted : {K : Type 0} {eq : K → K → Bool} (laws : IsEquivalence eq) (x y : K) (ks : List K) → list_any (eq x) (insert eq ks y) ≡ (list_any (eq x) ks || eq x y)
inserted {K} {eq} laws x y ks = go (list_any (eq y) ks) refl
  where
    there : list_any (eq y) ks ≡ true → (b : Bool) → eq x y ≡ b → list_any (eq x) ks ≡ (list_any (eq x) ks || b)
    there e false h = or-false (list_any (eq x) ks)
    there e true h = let all : list_any (eq x) ks ≡ true = list_any_congr laws x y ks h ∙ e in all ∙ sym (ap (λ a. a || true) all)

    go : (b : Bool) → list_any (eq y) ks ≡ b → list_any (eq x) (if b then ks else ks ++ y ∷ []) ≡ (list_any (eq x) ks || eq x y)
    go true e = there e (eq x y) refl
    go false e = list_any-append (eq x) ks (y ∷ []) ∙ ap (λ a. list_any (eq x) ks || a) (sym (or-false (eq x y)))

pub any-inserted : {K : Type 0} {eq : K → K → Bool} (laws : IsEquivalence eq) (x : K) (ys ks : List K) → list_any (eq x) (fold (insert eq) ks ys) ≡ (list_any (eq x) ks || list_any (eq x) ys)
any-inserted {K} {eq} laws x [] ks = or-false (list_any (eq x) ks)
any-inserted {K} {eq} laws x (y ∷ ys) ks =
    any-inserted laws x ys (insert eq ks y) ∙ ap (λ a. a || list_any (eq x) ys) (inserted laws x y ks) ∙ or-assoc (list_any (eq x) ks) (eq x y) (list_any (eq x) ys)

abbrev pub option_any : {Y : Type 0} → (Y → Bool) → Option Y → Bool
option_any p None = false
option_any p (Some y) = p y

pub any-filtered : {X Y : Type 0} (p : Y → Bool) (f : X → Option Y) (q : X → Bool) → ((x : X) → option_any p (f x) ≡ q x) → (xs : List X) → list_any p (filter_map f xs) ≡ list_any q xs
any-filtered p f q h [] = refl
any-filtered p f q h (x ∷ xs) = go (f x) refl (any-filtered p f q h xs)
  where
    go : (o : Option _) → f x ≡ o → list_any p (filter_map f xs) ≡ list_any q xs → list_any p (cons_option o (filter_map f xs)) ≡ (q x || list_any q xs)
    go None e rest = rest ∙ ap (λ a. a || list_any q xs) (sym (ap (option_any p) e) ∙ h x)
    go (Some y) e rest = ap (λ a. a || list_any p (filter_map f xs)) (sym (ap (option_any p) e) ∙ h x) ∙ ap (λ a. q x || a) rest

-- a table of all that f gives of the items answers as a search for an item of which f gives it
pub table-answers : {X K : Type 0} {eq : K → K → Bool} (laws : IsEquivalence eq) (f : X → Option K) (q : X → Bool) (x : K) → ((o : X) → option_any (eq x) (f o) ≡ q o) → (all : List X) (keys : List K)
    → keys ≡ fold (insert eq) [] (filter_map f all) → list_any (eq x) keys ≡ list_any q all
table-answers {X} {K} {eq} laws f q x h all keys e =
    ap (list_any (eq x)) e ∙ any-inserted laws x (filter_map f all) [] ∙ any-filtered (eq x) f q h all

name-is : (m n : NameId) → same_name m n ≡ true → m ≡ n
name-is m n e = let same = eqb-true m.0 n.0 e in λ i. record { 0 = same i }

pub in-scopes : (x : Symbol) (n : NameId) (ss : List Scope) → option_any (same_symbol x) (symbol_in n ss) ≡ (same_name n x.name && is_innermost x.scope ss)
in-scopes x n [] = and-false (same_name n x.name)
in-scopes x n (s ∷ ss) = ap (λ a. a && is_innermost x.scope (s ∷ ss)) (nat_eq_equiv.symm x.name.0 n.0)

said-here : (passes : Role → Bool) (x : Symbol) (o : Occurrence) → option_any (same_symbol x) (said_at passes o) ≡ says passes x.scope x.name o
said-here passes x o = go (passes o.role)
  where
    go : (b : Bool) → option_any (same_symbol x) (if b then symbol_in o.name o.scopes else None) ≡ (b && same_name o.name x.name && is_innermost x.scope o.scopes)
    go true = in-scopes x o.name o.scopes
    go false = refl

pub has-said : (passes : Role → Bool) (all : List Occurrence) (keys : List Symbol) → keys ≡ names_said passes all → HasSaid passes all keys
has-said passes all keys e x = table-answers symbol_equiv (said_at passes) (says passes x.scope x.name) x (said-here passes x) all keys e

symbol-here : (all : List Occurrence) (x : Symbol) (o : Occurrence) → option_any (same_symbol x) (symbol_at all o) ≡ belongs all x.scope x.name o
symbol-here all x o = go (is_binding o.role)
  where
    named : (c : Bool) → same_name o.name x.name ≡ c → (c && is_innermost x.scope (home all o.name o.scopes)) ≡ (c && is_innermost x.scope (home all x.name o.scopes))
    named true e = ap (λ n. is_innermost x.scope (home all n o.scopes)) (name-is o.name x.name e)
    named false e = refl

    go : (b : Bool) → option_any (same_symbol x) (if b then symbol_in o.name (home all o.name o.scopes) else None) ≡ (b && same_name o.name x.name && is_innermost x.scope (home all x.name o.scopes))
    go true = in-scopes x o.name (home all o.name o.scopes) ∙ named (same_name o.name x.name) refl
    go false = refl

pub has-symbols : (all : List Occurrence) (keys : List Symbol) → keys ≡ all_symbols all → HasSymbols all keys
has-symbols all keys e x = table-answers symbol_equiv (symbol_at all) (belongs all x.scope x.name) x (symbol-here all x) all keys e

pub has-hiders : (all : List Occurrence) (keys : List Symbol) → keys ≡ fold with_symbol [] (filter_map (hider_at all) all) → HasHiders all keys
has-hiders all keys e x = ap (list_any (same_symbol x)) e ∙ any-inserted symbol_equiv x (filter_map (hider_at all) all) []
