-- The sets of names say who binds and who declares a name, and the open blocks say which defs stand around.
use Rattle.std.proofs.Common.{◌≡◌, ℕ, ◌==◌, ◌<◌, nat_lt, Bool, true, false, not, ◌&&◌, ◌||◌, Option, Some, None, List, [], ◌∷◌, length, refl, sym, ◌∙◌, ap, arith, cond, bytes_eq}
use Rattle.std.specs.List.{list_any, range_with_len}
use Rattle.std.specs.declared.cmp.Ordering.{Ordering}
use Rattle.std.specs.Ordering.{nat_cmp, ordering_then, is_eq}
use Rattle.std.specs.Cmp.Lexicographic.{slice_cmp}
use Rattle.std.proofs.lemmas.Bool.{ltb-true, ltb-false, eqb-true, eq-eqb}
use Rattle.std.proofs.lemmas.Map.Text.{is_eq-slice_cmp}
use Rattle.py_blocks.specs.declared.facts.LineFacts.{LineFacts}
use Rattle.py_blocks.specs.declared.name_sets.Naming.{Naming}
use Rattle.py_blocks.specs.declared.name_sets.Naming.TheVariants as namings
use Rattle.py_blocks.specs.declared.sort.Sort.TheVariants as sorts
use Rattle.py_blocks.specs.Facts.{among}
use Rattle.py_blocks.specs.Enclosing.{line_at, no_line, is_a, encloses, lies_between, is_innermost}
use Rattle.py_blocks.specs.Names.{is_body_of, binds_in, declares_in, owns, is_owned_around, is_parameter_around}
use Rattle.py_blocks.specs.Search.{some_below}
use Rattle.py_blocks.specs.Innermost.{open_at, scopes_of, scope_at, scope_in, has_one}
use Rattle.py_blocks.specs.NameSets.{gives, body_in, holder_in, names_of, owns_open}
use Rattle.py_blocks.proofs.OpenBlocks.{and-true, and-false, any-through, inside-open}
use Rattle.py_blocks.proofs.Searches.{others-none, only-found, some-at}
use Rattle.py_blocks.proofs.Finding.{scope-behind, and-turned, any-turned, no-line, scope-of, innermost-one, innermost-below}

-- ---- a name and its def or class, compared to another

then-is_eq : (a b : ℕ) (o : Ordering) → is_eq (ordering_then (nat_cmp a b) o) ≡ ((a == b) && is_eq o)
then-is_eq a b o = go (nat_lt a b) refl (a == b) refl
  where
    go : (c : Bool) → nat_lt a b ≡ c → (d : Bool) → (a == b) ≡ d → is_eq (ordering_then (nat_cmp a b) o) ≡ ((a == b) && is_eq o)
    go true i true j = absurd (omega (arith, ltb-true a b i, eqb-true a b j))
    go true i false j = rw (i, j) refl
    go false i true j = rw (i, j) refl
    go false i false j = rw (i, j) refl

eqb-turned : (a b : ℕ) → (a == b) ≡ (b == a)
eqb-turned a b = go (a == b) refl (b == a) refl
  where
    go : (c : Bool) → (a == b) ≡ c → (d : Bool) → (b == a) ≡ d → (a == b) ≡ (b == a)
    go true i true j = i ∙ sym j
    go true i false j = i ∙ sym (eq-eqb b a (sym (eqb-true a b i)))
    go false i true j = eq-eqb a b (sym (eqb-true b a j)) ∙ sym j
    go false i false j = i ∙ sym j

pub text-turned : (x y : List ℕ) → bytes_eq x y ≡ bytes_eq y x
text-turned [] [] = refl
text-turned [] (b ∷ y) = refl
text-turned (a ∷ x) [] = refl
text-turned (a ∷ x) (b ∷ y) = ap (λ c. c && bytes_eq x y) (eqb-turned a b) ∙ ap (λ c. (b == a) && c) (text-turned x y)

pub name-is : (a b : ℕ) (x y : List ℕ) → is_eq (ordering_then (nat_cmp a b) (slice_cmp nat_cmp x y)) ≡ ((a == b) && bytes_eq y x)
name-is a b x y = then-is_eq a b (slice_cmp nat_cmp x y) ∙ (ap (λ c. (a == b) && c) (is_eq-slice_cmp x y) ∙ ap (λ c. (a == b) && c) (text-turned x y))

pub or-added : (b h : Bool) → cond b true h ≡ (h || b)
or-added true true = refl
or-added true false = refl
or-added false true = refl
or-added false false = refl

-- ---- which names a line gives

scope-is : (lines : List LineFacts) (i d : ℕ) → i < length lines → has_one (λ k. k == d) (scope_in (scopes_of lines) i) ≡ is_innermost lines sorts.Scope d i
scope-is lines i d lt =
    ap (λ o. has_one (λ k. k == d) o) (scope-of lines i lt)
    ∙ only-found (λ e. is_innermost lines sorts.Scope e i) i (innermost-one lines sorts.Scope i) (innermost-below lines sorts.Scope i) d

body-is : (lines : List LineFacts) (i d : ℕ) → i < length lines → has_one (λ k. k == d) (body_in lines (scopes_of lines) i) ≡ is_body_of lines d i
body-is lines i d lt = go (is_a lines i sorts.Scope) refl
  where
    go : (b : Bool) → is_a lines i sorts.Scope ≡ b → has_one (λ k. k == d) (body_in lines (scopes_of lines) i) ≡ is_body_of lines d i
    go true h = rw h (eqb-turned i d)
    go false h = rw h (scope-is lines i d lt)

pub given-by : (lines : List LineFacts) (naming : Naming) (n : List ℕ) (d i : ℕ) → i < length lines
    → (has_one (λ k. k == d) (holder_in lines (scopes_of lines) naming i) && among n (names_of (line_at lines i) naming)) ≡ gives lines naming n d i
given-by lines namings.Parameter n d i lt = and-turned (i == d) (among n (line_at lines i).parameters)
given-by lines namings.Suite n d i lt = and-turned (i == d) (among n (line_at lines i).suite)
given-by lines namings.Bound n d i lt =
    ap (λ b. b && among n (line_at lines i).bound) (scope-is lines i d lt) ∙ and-turned (is_innermost lines sorts.Scope d i) (among n (line_at lines i).bound)
given-by lines namings.Declared n d i lt =
    ap (λ b. b && among n (line_at lines i).declared) (body-is lines i d lt) ∙ and-turned (is_body_of lines d i) (among n (line_at lines i).declared)

-- ---- the names of a def, by its own line

own-one : (p : ℕ → Bool) (n d : ℕ) → (p d ≡ true → d < n) → some_below n (λ i. p i && (i == d)) ≡ p d
own-one p n d below = go (p d) refl
  where
    go : (b : Bool) → p d ≡ b → some_below n (λ i. p i && (i == d)) ≡ p d
    go true h = let here : (p d && (d == d)) ≡ true = rw (h, eq-eqb d d refl) refl in some-at (λ i. p i && (i == d)) n d (below h) here ∙ sym h
    go false h =
        any-turned (λ i. i == d) p (range_with_len 0 n)
        ∙ (others-none (λ i. i == d) p d (λ a b x y. eqb-true a d x ∙ sym (eqb-true b d y)) (eq-eqb d d refl) h (range_with_len 0 n) ∙ sym h)

-- a line has names only where there is one
named-below : (lines : List LineFacts) (f : LineFacts → Bool) (d : ℕ) → f no_line ≡ false → f (line_at lines d) ≡ true → d < length lines
named-below lines f d none h = go (nat_lt d (length lines)) refl
  where
    go : (b : Bool) → nat_lt d (length lines) ≡ b → d < length lines
    go true i = ltb-true d (length lines) i
    go false i = let t : false ≡ true = sym none ∙ (ap f (sym (no-line lines d (ltb-false d (length lines) i))) ∙ h) in cc

pub own-parameters : (lines : List LineFacts) (n : List ℕ) (d : ℕ) → some_below (length lines) (gives lines namings.Parameter n d) ≡ among n (line_at lines d).parameters
own-parameters lines n d = own-one (λ i. among n (line_at lines i).parameters) (length lines) d (named-below lines (λ l. among n l.parameters) d refl)

pub own-suite : (lines : List LineFacts) (n : List ℕ) (d : ℕ) → some_below (length lines) (gives lines namings.Suite n d) ≡ among n (line_at lines d).suite
own-suite lines n d = own-one (λ i. among n (line_at lines i).suite) (length lines) d (named-below lines (λ l. among n l.suite) d refl)

-- ---- parameters of the def in whose body a line stands

any-none : (g : ℕ → Bool) → ((x : ℕ) → g x ≡ false) → (xs : List ℕ) → list_any g xs ≡ false
any-none g h [] = refl
any-none g h (x ∷ xs) = rw (h x, any-none g h xs) refl

any-held : (o : Option ℕ) (e f : ℕ → Bool) (n : ℕ) → ((m : ℕ) → has_one (λ k. k == m) o ≡ e m) → ((k : ℕ) → e k ≡ true → k < n) → some_below n (λ d. f d && e d) ≡ has_one f o
any-held None e f n h below = any-none (λ d. f d && e d) (λ x. ap (λ b. f x && b) (sym (h x)) ∙ and-false (f x)) (range_with_len 0 n)
any-held (Some k) e f n h below = go (f k) refl
  where
    here : e k ≡ true
    here = sym (h k) ∙ eq-eqb k k refl

    go : (b : Bool) → f k ≡ b → some_below n (λ d. f d && e d) ≡ f k
    go true i = let both : (f k && e k) ≡ true = rw (i, here) refl in some-at (λ d. f d && e d) n k (below k here) both ∙ sym i
    go false i =
        any-turned e f (range_with_len 0 n)
        ∙ (others-none e f k (λ a b x y. sym (eqb-true k a (h a ∙ x)) ∙ eqb-true k b (h b ∙ y)) here i (range_with_len 0 n) ∙ sym i)

body-below : (lines : List LineFacts) (i d : ℕ) → i < length lines → is_body_of lines d i ≡ true → d < length lines
body-below lines i d lt h = go (is_a lines i sorts.Scope) refl
  where
    go : (b : Bool) → is_a lines i sorts.Scope ≡ b → d < length lines
    go true g = let same : (d == i) ≡ true = rw g at h in omega (arith, lt, eqb-true d i same)
    go false g = let inner : is_innermost lines sorts.Scope d i ≡ true = rw g at h in omega (arith, lt, innermost-below lines sorts.Scope i d inner)

pub parameter-around : (lines : List LineFacts) (i : ℕ) (n : List ℕ) → i < length lines → is_parameter_around lines i n ≡ has_one (λ d. among n (line_at lines d).parameters) (body_in lines (scopes_of lines) i)
parameter-around lines i n lt =
    any-held (body_in lines (scopes_of lines) i) (λ d. is_body_of lines d i) (λ d. among n (line_at lines d).parameters) (length lines) (λ d. body-is lines i d lt) (λ d h. body-below lines i d lt h)

-- ---- defs around

outer : (d e x b n : Bool) → ((((d && e) && x) && b) && n) ≡ ((((d && x) && b) && n) && e)
outer true true x b n = sym (and-true ((x && b) && n))
outer true false x b n = sym (and-false ((x && b) && n))
outer false e x b n = refl

pub owned-open : (lines : List LineFacts) (i : ℕ) (n : List ℕ) → list_any (λ d. owns_open lines (scope_at lines i) n i d) (open_at lines i) ≡ is_owned_around lines i n
owned-open lines i n =
    sym (any-through (λ d. encloses lines d i) (λ d. owns_open lines (scope_at lines i) n i d) (λ d. owns lines n i d) (range_with_len 0 i) (λ d.
    outer (is_a lines d sorts.Def) (encloses lines d i) (is_a lines i sorts.Scope || lies_between lines sorts.Scope d i) (binds_in lines n d) (not (declares_in lines n d))
    ∙ ap (λ b. (((is_a lines d sorts.Def && (is_a lines i sorts.Scope || b)) && binds_in lines n d) && not (declares_in lines n d)) && encloses lines d i) (inside-open lines sorts.Scope i d ∙ scope-behind lines i d)))
