-- Decorators one after the other.
use Rattle.std.proofs.Common.{◌≡◌, ℕ, suc, ◌+◌, Bool, true, false, ◌||◌, List, [], ◌∷◌, ◌++◌, take, get_or, refl, sym, ap, ◌∙◌, arith}
use Rattle.std.specs.Prelude.{Some, slice_get, map, fold}
use Rattle.std.specs.List.{flat_map, list_any}
use Rattle.std.proofs.Math.Seq.{take-suc}
use Rattle.std.proofs.lemmas.Grind.{flat_map-append}
use Rattle.std.proofs.lemmas.List.Sums.{fold-append}
use Rattle.std.proofs.lemmas.Option.{slice_get_within, get_or_from_slice_get}
use Rattle.binding_sources.specs.declared.verdicts.Decoration.{Decoration}
use Rattle.binding_sources.specs.declared.verdicts.Decorator.{Decorator}
use Rattle.binding_sources.specs.declared.verdicts.Decorator.TheVariants as decorators
use Rattle.binding_sources.specs.declared.verdicts.Verdict.{Verdict}
use Rattle.binding_sources.specs.declared.verdicts.Verdict.TheVariants as verdicts
use Rattle.binding_sources.specs.declared.verdicts.DefKind.TheVariants as defs
use Rattle.binding_sources.specs.Verdicts.{with_decorator, verdict, kind_or, def_kind, decoration}
use Rattle.binding_sources.specs.Joining.{with_verdict, decorated_by, with_below}

with-one : (d : Decorator) (below : Verdict) → with_decorator d below ≡ with_verdict (decorated_by d) below
with-one decorators.Unknown below = refl
with-one (decorators.Setter p) verdicts.Itself = refl
with-one (decorators.Setter p) (verdicts.Setter q) = refl
with-one (decorators.Setter p) verdicts.Unknown = refl
with-one decorators.StaticMethod below = refl
with-one decorators.ClassMethod below = refl
with-one decorators.Property below = refl
with-one decorators.Kept below = refl

with-all : (a b c : Verdict) → with_verdict (with_verdict a b) c ≡ with_verdict a (with_verdict b c)
with-all verdicts.Itself b c = refl
with-all verdicts.Unknown b c = refl
with-all (verdicts.Setter p) verdicts.Itself c = refl
with-all (verdicts.Setter p) verdicts.Unknown c = refl
with-all (verdicts.Setter p) (verdicts.Setter q) verdicts.Itself = refl
with-all (verdicts.Setter p) (verdicts.Setter q) (verdicts.Setter r) = refl
with-all (verdicts.Setter p) (verdicts.Setter q) verdicts.Unknown = refl

below-all : (above : Decoration) (ds : List Decorator) → fold with_below above ds ≡ record { verdict = with_verdict above.verdict (verdict ds); kind = def_kind above.kind ds }
below-all above [] = ap (λ v. record { verdict = v; kind = above.kind }) (go above.verdict)
  where
    go : (v : Verdict) → v ≡ with_verdict v verdicts.Itself
    go verdicts.Itself = refl
    go (verdicts.Setter p) = refl
    go verdicts.Unknown = refl
below-all above (d ∷ ds) =
    below-all (with_below above d) ds
    ∙ ap (λ v. record { verdict = v; kind = def_kind (kind_or d above.kind) ds })
    (with-all above.verdict (decorated_by d) (verdict ds) ∙ ap (with_verdict above.verdict) (sym (with-one d (verdict ds))))

abbrev pub untouched : Decoration
untouched = record { verdict = verdicts.Itself; kind = defs.Plain }

pub all-decorators : (ds : List Decorator) → fold with_below untouched ds ≡ decoration ds
all-decorators ds = below-all untouched ds

take-next : {X : Type 0} (xs : List X) (i : ℕ) (x : X) → slice_get xs i ≡ Some x → take (i + 1) xs ≡ take i xs ++ x ∷ []
take-next xs i x e =
    let within = slice_get_within xs i x e in
    let here : get_or xs i x ≡ x = get_or_from_slice_get xs i x x e in
    let next : i + 1 ≡ suc i = omega arith in
    ap (λ k. take k xs) next ∙ take-suc xs i x within ∙ ap (λ y. take i xs ++ y ∷ []) here

map-append : {X Y : Type 0} (f : X → Y) (xs ys : List X) → map f (xs ++ ys) ≡ map f xs ++ map f ys
map-append f [] ys = refl
map-append f (x ∷ xs) ys = ap (λ l. f x ∷ l) (map-append f xs ys)

append-none : {X : Type 0} (xs : List X) → xs ++ [] ≡ xs
append-none [] = refl
append-none (x ∷ xs) = ap (λ l. x ∷ l) (append-none xs)

-- what the lists of the items so far make, with the list of the next item
pub fold-next : {X Y Z B : Type 0} (g : B → Z → B) (b old new : B) (f : Y → Z) (flat : X → List Y) (xs : List X) (i : ℕ) (x : X) (ys : List Y) → slice_get xs i ≡ Some x
    → new ≡ fold g old (map f ys) → ys ≡ flat x → old ≡ fold g b (map f (flat_map flat (take i xs))) → new ≡ fold g b (map f (flat_map flat (take (i + 1) xs)))
fold-next g b old new f flat xs i x ys item made is before =
    let so_far = flat_map flat (take i xs) in
    made ∙ ap (λ a. fold g a (map f ys)) before ∙ ap (λ l. fold g (fold g b (map f so_far)) (map f l)) is
    ∙ sym (ap (λ l. fold g b (map f (flat_map flat l))) (take-next xs i x item)
    ∙ ap (λ l. fold g b (map f l)) (flat_map-append flat (take i xs) (x ∷ []) ∙ ap (λ l. so_far ++ l) (append-none (flat x)))
    ∙ ap (fold g b) (map-append f so_far (flat x)) ∙ fold-append g b (map f so_far) (map f (flat x)))

or-assoc : (a b c : Bool) → ((a || b) || c) ≡ (a || (b || c))
or-assoc true b c = refl
or-assoc false b c = refl

any-append : {Y : Type 0} (test : Y → Bool) (xs ys : List Y) → list_any test (xs ++ ys) ≡ (list_any test xs || list_any test ys)
any-append test [] ys = refl
any-append test (x ∷ xs) ys = ap (λ b. test x || b) (any-append test xs ys) ∙ sym (or-assoc (test x) (list_any test xs) (list_any test ys))

pub any-flat : {X Y : Type 0} (test : Y → Bool) (f : X → List Y) (xs : List X) → list_any test (flat_map f xs) ≡ list_any (λ x. list_any test (f x)) xs
any-flat test f [] = refl
any-flat test f (x ∷ xs) = any-append test (f x) (flat_map f xs) ∙ ap (λ b. list_any test (f x) || b) (any-flat test f xs)
