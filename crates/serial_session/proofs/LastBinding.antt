-- The last of some lines that binds a name.
use Rattle.std.proofs.Common.{◌≡◌, ◌<◌, ◌+◌, ℕ, Bool, true, false, List, [], ◌∷◌, ◌++◌, length, take, get_or, Option, Some, None, if◌then◌else◌, refl, ap, ◌∙◌, add-one, arith}
use Rattle.std.proofs.lemmas.Bool.{false≢true}
use Rattle.std.proofs.lemmas.List.{take_more, length-take-le}
use Rattle.std.proofs.lemmas.List.Folds.{list_any_at}
use Rattle.serial_session.specs.declared.form.Form.{Form}
use Rattle.serial_session.specs.Typing.{binds, is_bound_in}
use Rattle.serial_session.specs.Antecedents.{last_binding, last_with, binding_below}

last_with-push : (first last : Bool) (n : ℕ) (o : Option ℕ) → last_with first (if last then Some n else o) ≡ (if last then Some (n + 1) else last_with first o)
last_with-push first true n o = refl
last_with-push first false n o = refl

-- one more line below
pub last_binding-push : (forms : List Form) (form : Form) (name : List ℕ) → last_binding (forms ++ form ∷ []) name ≡ (if binds form name then Some (length forms) else last_binding forms name)
last_binding-push [] form name = refl
last_binding-push (first ∷ forms) form name =
    ap (last_with (binds first name)) (last_binding-push forms form name) ∙ last_with-push (binds first name) (binds form name) (length forms) (last_binding forms name)
    ∙ ap (λ n. if binds form name then Some n else last_with (binds first name) (last_binding forms name)) (add-one (length forms))

pub last_binding-more : (forms : List Form) (i : ℕ) (form : Form) (name : List ℕ) → i < length forms → last_binding (take (i + 1) forms) name ≡ (if binds (get_or forms i form) name then Some i else last_binding (take i forms) name)
last_binding-more forms i form name within =
    rw (take_more forms i form within) (last_binding-push (take i forms) (get_or forms i form) name ∙ ap (λ n. if binds (get_or forms i form) name then Some n else last_binding (take i forms) name) (length-take-le i forms (omega arith)))

known_too : (known here : Bool) (i : ℕ) (o : Option ℕ) → (here ≡ true → known ≡ true) → (if known then Some (if here then Some i else o) else None) ≡ (if here then Some (Some i) else (if known then Some o else None))
known_too true true i o so = refl
known_too true false i o so = refl
known_too false true i o so = absurd (false≢true (so refl))
known_too false false i o so = refl

-- what is known of a name below one more line
pub binding_below-more : (forms : List Form) (i : ℕ) (form : Form) (name : List ℕ) → i < length forms → binding_below (is_bound_in forms) (take (i + 1) forms) name ≡ (if binds (get_or forms i form) name then Some (Some i) else binding_below (is_bound_in forms) (take i forms) name)
binding_below-more forms i form name within =
    ap (λ o. if is_bound_in forms name then Some o else None) (last_binding-more forms i form name within)
    ∙ known_too (is_bound_in forms name) (binds (get_or forms i form) name) i (last_binding (take i forms) name) (list_any_at (λ line. binds line name) forms i form within)
