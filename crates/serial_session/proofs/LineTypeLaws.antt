-- The type of a line goes back to its antecedent.
use Rattle.std.proofs.Common.{◌≡◌, ◌<◌, ◌≤◌, ◌+◌, ℕ, zero, suc, Bool, true, false, List, [], ◌∷◌, length, take, get_or, Option, Some, None, IfSome, option_map, if◌then◌else◌, refl, sym, ap, subst, ◌∙◌, add-one, arith}
use Rattle.std.proofs.lemmas.List.{length-take-le}
use Rattle.std.proofs.lemmas.List.Sums.{fold_more}
use Rattle.std.proofs.lemmas.Option.{slice_get-get_or, none-some, same_Some}
use Rattle.type_terms.specs.declared.atom.Atom.TheVariants.{Unknown}
use Rattle.serial_session.specs.declared.form.Form.{Form}
use Rattle.serial_session.specs.declared.form.Form.TheVariants.{Binding, Reveal}
use Rattle.serial_session.specs.declared.form.Value.TheVariants.{Literal, NoneValue, Read}
use Rattle.serial_session.specs.declared.antecedent.Antecedent.{Antecedent}
use Rattle.serial_session.specs.declared.antecedent.Antecedent.TheVariants.{Line, Unbound, Undefined}
use Rattle.serial_session.specs.Typing.{Types, Bindings, nothing_bound, binds, is_bound_in, after, bound_type, read_type}
use Rattle.serial_session.specs.Antecedents.{last_binding, last_with, binding_below, antecedent_in, antecedent_of}
use Rattle.serial_session.specs.LineTypes.{bound_behind, type_of, type_in, type_at}
use Rattle.serial_session.proofs.LastBinding.{last_binding-more}

-- ---- what is bound behind one more line

after-binds : (known : List ℕ → Bool) (bound : Bindings) (form : Form) (name : List ℕ) → after known bound form name ≡ (if binds form name then Some (type_of known bound form) else bound name)
after-binds known bound (Binding target value) name = refl
after-binds known bound (Reveal read) name = refl

pub bound_behind-more : (known : List ℕ → Bool) (forms : List Form) (i : ℕ) (form : Form) → i < length forms → bound_behind known (take (i + 1) forms) ≡ after known (bound_behind known (take i forms)) (get_or forms i form)
bound_behind-more known forms i form within = fold_more (after known) nothing_bound forms i form within

pub type_at-within : (forms : List Form) (i : ℕ) (form : Form) → i < length forms → type_at forms i ≡ type_of (is_bound_in forms) (bound_behind (is_bound_in forms) (take i forms)) (get_or forms i form)
type_at-within forms i form within = ap (type_in (is_bound_in forms) (bound_behind (is_bound_in forms) (take i forms))) (slice_get-get_or forms i form within)

-- a name has the type of the last line that binds it

option_map-cond : {A B : Type 0} (f : A → B) (b : Bool) (x : A) (o : Option A) → option_map f (if b then Some x else o) ≡ (if b then Some (f x) else option_map f o)
option_map-cond f true x o = refl
option_map-cond f false x o = refl

last_type-more : (forms : List Form) (i : ℕ) (form : Form) (name : List ℕ) → i < length forms → bound_behind (is_bound_in forms) (take i forms) name ≡ option_map (type_at forms) (last_binding (take i forms) name) → bound_behind (is_bound_in forms) (take (i + 1) forms) name ≡ option_map (type_at forms) (last_binding (take (i + 1) forms) name)
last_type-more forms i form name within same =
    let known : List ℕ → Bool = is_bound_in forms in
    let here : Form = get_or forms i form in
    ap (λ bound. bound name) (bound_behind-more known forms i form within)
    ∙ after-binds known (bound_behind known (take i forms)) here name
    ∙ ap (λ type. if binds here name then Some type else bound_behind known (take i forms) name) (sym (type_at-within forms i form within))
    ∙ ap (λ o. if binds here name then Some (type_at forms i) else o) same
    ∙ sym (option_map-cond (type_at forms) (binds here name) i (last_binding (take i forms) name))
    ∙ sym (ap (option_map (type_at forms)) (last_binding-more forms i form name within))

pub last_type : (forms : List Form) (form : Form) (name : List ℕ) (i : ℕ) → i ≤ length forms → bound_behind (is_bound_in forms) (take i forms) name ≡ option_map (type_at forms) (last_binding (take i forms) name)
last_type forms form name zero within = refl
last_type forms form name (suc i) within = rw (← add-one) (last_type-more forms i form name (omega arith) (last_type forms form name i (omega arith)))

-- ---- what a line reads

-- the type of a read with this antecedent
abbrev pub type_by : List Form → Antecedent → Types
type_by forms (Line line) = type_at forms line
type_by forms Unbound = []
type_by forms Undefined = Unknown ∷ []

by_binding : (forms : List Form) (known : Bool) (last : Option ℕ) → (if known then bound_type (option_map (type_at forms) last) else Unknown ∷ []) ≡ type_by forms (antecedent_in (if known then Some last else None))
by_binding forms true None = refl
by_binding forms true (Some line) = refl
by_binding forms false last = refl

pub read_type-by : (forms : List Form) (form : Form) (i : ℕ) (name : List ℕ) → i ≤ length forms → read_type (is_bound_in forms) (bound_behind (is_bound_in forms) (take i forms)) name ≡ type_by forms (antecedent_in (binding_below (is_bound_in forms) (take i forms) name))
read_type-by forms form i name within =
    ap (λ type. if is_bound_in forms name then bound_type type else Unknown ∷ []) (last_type forms form name i within)
    ∙ by_binding forms (is_bound_in forms name) (last_binding (take i forms) name)

-- the type of a line that reads a name
pub type_of-by : (forms : List Form) (form : Form) (i : ℕ) (antecedent : Antecedent) → i ≤ length forms → antecedent_of (is_bound_in forms) (take i forms) form ≡ Some antecedent → type_of (is_bound_in forms) (bound_behind (is_bound_in forms) (take i forms)) form ≡ type_by forms antecedent
type_of-by forms (Binding target (Literal literal)) i antecedent within is = absurd (none-some antecedent is)
type_of-by forms (Binding target NoneValue) i antecedent within is = absurd (none-some antecedent is)
type_of-by forms (Binding target (Read read)) i antecedent within is = read_type-by forms (Binding target (Read read)) i read.name within ∙ ap (type_by forms) (same_Some _ _ is)
type_of-by forms (Reveal read) i antecedent within is = read_type-by forms (Reveal read) i read.name within ∙ ap (type_by forms) (same_Some _ _ is)

-- ---- an antecedent stands above

last_with-within : (first : Bool) (last : Option ℕ) (n : ℕ) → IfSome last (λ line. line < n) → IfSome (last_with first last) (λ line. line < suc n)
last_with-within true None n below = omega arith
last_with-within false None n below = tt
last_with-within first (Some line) n below = omega arith

last_binding-within : (forms : List Form) (name : List ℕ) → IfSome (last_binding forms name) (λ line. line < length forms)
last_binding-within [] name = tt
last_binding-within (form ∷ forms) name = last_with-within (binds form name) (last_binding forms name) (length forms) (last_binding-within forms name)

-- the antecedent is no line, or one above the line of number i
abbrev pub IsAbove : ℕ → Antecedent → Type 0
IsAbove i (Line line) = line < i
IsAbove i Unbound = Unit {0}
IsAbove i Undefined = Unit {0}

above-in : (known : Bool) (last : Option ℕ) (n : ℕ) → IfSome last (λ line. line < n) → IsAbove n (antecedent_in (if known then Some last else None))
above-in true None n below = tt
above-in true (Some line) n below = below
above-in false last n below = tt

above-name : (known : List ℕ → Bool) (forms : List Form) (i : ℕ) (name : List ℕ) → i ≤ length forms → IsAbove i (antecedent_in (binding_below known (take i forms) name))
above-name known forms i name within = above-in (known name) (last_binding (take i forms) name) i (subst (λ n. IfSome (last_binding (take i forms) name) (λ line. line < n)) (length-take-le i forms within) (last_binding-within (take i forms) name))

pub antecedent_of-above : (known : List ℕ → Bool) (forms : List Form) (form : Form) (i : ℕ) (antecedent : Antecedent) → i ≤ length forms → antecedent_of known (take i forms) form ≡ Some antecedent → IsAbove i antecedent
antecedent_of-above known forms (Binding target (Literal literal)) i antecedent within is = absurd (none-some antecedent is)
antecedent_of-above known forms (Binding target NoneValue) i antecedent within is = absurd (none-some antecedent is)
antecedent_of-above known forms (Binding target (Read read)) i antecedent within is = subst (IsAbove i) (same_Some _ _ is) (above-name known forms i read.name within)
antecedent_of-above known forms (Reveal read) i antecedent within is = subst (IsAbove i) (same_Some _ _ is) (above-name known forms i read.name within)
