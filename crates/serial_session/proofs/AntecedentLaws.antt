-- The antecedents of one more line.
use Rattle.std.proofs.Common.{◌≡◌, ◌<◌, ◌+◌, ℕ, Bool, List, [], ◌∷◌, ◌++◌, length, take, get_or, Option, Some, None, option_map, refl, ap, ◌∙◌, below_more, arith}
use Rattle.std.proofs.lemmas.List.{get_or_push, get_or_append_left, get_or_read}
use Rattle.serial_session.specs.declared.form.Form.{Form}
use Rattle.serial_session.specs.declared.antecedent.Antecedent.{Antecedent}
use Rattle.serial_session.specs.Antecedents.{read_of, antecedent_in, antecedent_of, binding_below}

-- what follows from what is said of each name
pub antecedent_of-said : (said : List ℕ → Option (Option ℕ)) (known : List ℕ → Bool) (above : List Form) → ((name : List ℕ) → said name ≡ binding_below known above name) → (form : Form) → option_map (λ read. antecedent_in (said read.name)) (read_of form) ≡ antecedent_of known above form
antecedent_of-said said known above same form = elim (read_of form) as (λ o. option_map (λ read. antecedent_in (said read.name)) o ≡ option_map (λ read. antecedent_in (binding_below known above read.name)) o) [ None ↦ refl | Some read ↦ ap (λ o. Some (antecedent_in o)) (same read.name) ]

pub each-more : (known : List ℕ → Bool) (forms : List Form) (list : List (Option Antecedent)) (n : ℕ) (added : Option Antecedent) (read : Form) → length list ≡ n → n < length forms → read ≡ get_or forms n read → added ≡ antecedent_of known (take n forms) read → ((i : ℕ) (form : Form) → i < n → get_or list i None ≡ antecedent_of known (take i forms) (get_or forms i form)) → (i : ℕ) (form : Form) → i < n + 1 → get_or (list ++ added ∷ []) i None ≡ antecedent_of known (take i forms) (get_or forms i form)
each-more known forms list n added read len within at this each =
    let added_at : get_or (list ++ added ∷ []) n None ≡ added = get_or_push list added None n len in
    let kept : (i : ℕ) → i < n → get_or (list ++ added ∷ []) i None ≡ get_or list i None = λ i below. get_or_append_left list (added ∷ []) None i (omega arith) in
    let read_at : (form : Form) → read ≡ get_or forms n form = λ form. get_or_read forms n read within at form in
    λ i form. below_more (λ j. get_or (list ++ added ∷ []) j None ≡ antecedent_of known (take j forms) (get_or forms j form)) n (λ j below. kept j below ∙ each j form below)
    (added_at ∙ this ∙ ap (antecedent_of known (take n forms)) (read_at form)) i
