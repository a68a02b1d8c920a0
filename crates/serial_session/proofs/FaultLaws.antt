-- The diagnostics of a line, told by the antecedent of what it reads.
use Rattle.std.proofs.Common.{◌≡◌, ◌<◌, ◌≤◌, ℕ, Bool, true, false, List, [], ◌∷◌, ◌++◌, length, take, drop, get_or, ◌+◌, Option, Some, None, is_none, option_map, option_and_then, option_to_list, slice_get, if◌then◌else◌, refl, sym, ap, ◌∙◌, arith}
use Rattle.std.proofs.lemmas.List.{append-nil, append_assoc, at_drop_more}
use Rattle.std.proofs.lemmas.Option.{option_and_then_some, slice_get_within, get_or_from_slice_get}
use Rattle.py_base.specs.declared.span.Span.{Span}
use Rattle.py_base.specs.declared.diag.Diag.{Diag}
use Rattle.serial_session.specs.declared.form.NameUse.{NameUse}
use Rattle.serial_session.specs.declared.form.Form.{Form}
use Rattle.serial_session.specs.declared.antecedent.Antecedent.{Antecedent}
use Rattle.serial_session.specs.Typing.{Types, Bindings, unbound_at, undefined_at, is_bound_in, after, read_faults, line_diags, is_last, diags_behind}
use Rattle.serial_session.specs.Antecedents.{last_binding, binding_below, antecedent_in, antecedent_of, read_of}
use Rattle.serial_session.specs.LineDiags.{fault_by}
use Rattle.serial_session.specs.LineTypes.{bound_behind, bound_above, type_at}
use Rattle.serial_session.proofs.LineTypeLaws.{last_type, bound_behind-more}

fault_in : (at : Span → List ℕ) (read : NameUse) (known : Bool) (types : ℕ → Types) (last : Option ℕ) →
    (if known then (if is_none (option_map types last) then unbound_at at read ∷ [] else []) else undefined_at at read ∷ [])
    ≡ option_to_list (fault_by at read (Some (antecedent_in (if known then Some last else None))))
fault_in at read true types None = refl
fault_in at read true types (Some line) = refl
fault_in at read false types last = refl

pub read_faults-by : (at : Span → List ℕ) (forms : List Form) (form : Form) (i : ℕ) (read : NameUse) → i ≤ length forms → read_faults at (is_bound_in forms) (bound_behind (is_bound_in forms) (take i forms)) read ≡ option_to_list (fault_by at read (Some (antecedent_in (binding_below (is_bound_in forms) (take i forms) read.name))))
read_faults-by at forms form i read within =
    ap (λ type. if is_bound_in forms read.name then (if is_none type then unbound_at at read ∷ [] else []) else undefined_at at read ∷ []) (last_type forms form read.name i within)
    ∙ fault_in at read (is_bound_in forms read.name) (type_at forms) (last_binding (take i forms) read.name)

-- what is read in the line of this number
pub read_faults-at : (at : Span → List ℕ) (forms : List Form) (line : ℕ) (read : NameUse) (antecedent : Option Antecedent) → option_and_then read_of (slice_get forms line) ≡ Some read → ((form : Form) → antecedent ≡ antecedent_of (is_bound_in forms) (take line forms) (get_or forms line form)) → option_to_list (fault_by at read antecedent) ≡ read_faults at (is_bound_in forms) (bound_above forms line) read
read_faults-at at forms line read antecedent reads by =
    option_and_then_some read_of (slice_get forms line) read reads (λ form is of_form.
    let within : line ≤ length forms = omega (arith, slice_get_within forms line form is) in
    let of_line : antecedent ≡ antecedent_of (is_bound_in forms) (take line forms) form = by form ∙ ap (antecedent_of (is_bound_in forms) (take line forms)) (get_or_from_slice_get forms line form form is) in
    let of_read : antecedent ≡ Some (antecedent_in (binding_below (is_bound_in forms) (take line forms) read.name)) = of_line ∙ ap (option_map (λ name. antecedent_in (binding_below (is_bound_in forms) (take line forms) name.name))) of_form in
    ap (λ o. option_to_list (fault_by at read o)) of_read ∙ sym (read_faults-by at forms form line read within))

-- ---- the diagnostics that are left, from one line to the next

diags_behind-more : (at : Span → List ℕ) (forms : List Form) (line : ℕ) (form : Form) → line < length forms → form ≡ get_or forms line form →
    diags_behind at (is_bound_in forms) (bound_above forms line) (drop line forms)
    ≡ line_diags at (is_bound_in forms) (bound_above forms line) form ++ (if is_last (is_bound_in forms) (bound_above forms line) form then [] else diags_behind at (is_bound_in forms) (bound_above forms (line + 1)) (drop (line + 1) forms))
diags_behind-more at forms line form within here =
    let known : List ℕ → Bool = is_bound_in forms in
    let bound : Bindings = bound_above forms line in
    at_drop_more (diags_behind at known bound) forms line form within
    ∙ ap (λ read. diags_behind at known bound (read ∷ drop (line + 1) forms)) (sym here)
    ∙ ap (λ behind. line_diags at known bound form ++ (if is_last known bound form then [] else diags_behind at known behind (drop (line + 1) forms)))
    (ap (after known bound) here ∙ sym (bound_behind-more known forms line form within))

pub diags-stop : (at : Span → List ℕ) (forms : List Form) (line : ℕ) (form : Form) (list whole : List Diag) → line < length forms → form ≡ get_or forms line form → is_last (is_bound_in forms) (bound_above forms line) form ≡ true →
    list ++ diags_behind at (is_bound_in forms) (bound_above forms line) (drop line forms) ≡ whole → list ++ line_diags at (is_bound_in forms) (bound_above forms line) form ≡ whole
diags-stop at forms line form list whole within here last so_far =
    let known : List ℕ → Bool = is_bound_in forms in
    let bound : Bindings = bound_above forms line in
    ap (λ diags. list ++ diags)
    (sym (append-nil (line_diags at known bound form))
    ∙ ap (λ b. line_diags at known bound form ++ (if b then [] else diags_behind at known (bound_above forms (line + 1)) (drop (line + 1) forms))) (sym last)
    ∙ sym (diags_behind-more at forms line form within here))
    ∙ so_far

pub diags-go_on : (at : Span → List ℕ) (forms : List Form) (line : ℕ) (form : Form) (list whole : List Diag) → line < length forms → form ≡ get_or forms line form → is_last (is_bound_in forms) (bound_above forms line) form ≡ false →
    list ++ diags_behind at (is_bound_in forms) (bound_above forms line) (drop line forms) ≡ whole →
    (list ++ line_diags at (is_bound_in forms) (bound_above forms line) form) ++ diags_behind at (is_bound_in forms) (bound_above forms (line + 1)) (drop (line + 1) forms) ≡ whole
diags-go_on at forms line form list whole within here last so_far =
    let known : List ℕ → Bool = is_bound_in forms in
    let bound : Bindings = bound_above forms line in
    append_assoc list (line_diags at known bound form) (diags_behind at known (bound_above forms (line + 1)) (drop (line + 1) forms))
    ∙ ap (λ diags. list ++ diags)
    (ap (λ b. line_diags at known bound form ++ (if b then [] else diags_behind at known (bound_above forms (line + 1)) (drop (line + 1) forms))) (sym last)
    ∙ sym (diags_behind-more at forms line form within here))
    ∙ so_far
