-- What a step of a walk finds, and what keeping a type leaves.
use Rattle.std.proofs.Common.{◌≡◌, ◌<◌, ℕ, List, [], ◌∷◌, length, take, get_or, set, Option, Some, None, sym, subst, ◌∙◌, ⊎_elim, get_or-set_same, get_or-set_other, arith}
use Rattle.std.proofs.lemmas.Bool.{cases_eq}
use Rattle.std.proofs.lemmas.List.{length-set, get_or_default}
use Rattle.serial_session.specs.declared.form.Form.{Form}
use Rattle.serial_session.specs.declared.antecedent.Antecedent.{Antecedent}
use Rattle.serial_session.specs.declared.antecedent.Antecedent.TheVariants.{Line, Unbound, Undefined}
use Rattle.serial_session.specs.declared.line_type.LineType.{LineType}
use Rattle.serial_session.specs.Typing.{is_bound_in}
use Rattle.serial_session.specs.Antecedents.{AreAntecedents, antecedent_of}
use Rattle.serial_session.specs.LineTypes.{type_at, atoms_of}
use Rattle.serial_session.specs.Walks.{IsWalk, IsRight, StepsBack, step_to}
use Rattle.serial_session.proofs.LineTypeLaws.{type_by, type_at-within, type_of-by, IsAbove, antecedent_of-above}

first_of : (forms : List Form) (i : ℕ) → i < length forms → Form
first_of [] i within = absurd (omega arith)
first_of (form ∷ forms) i within = form

-- the antecedent of a line, and what follows for its type
pub antecedent_at : (forms : List Form) (antecedents : List (Option Antecedent)) (line : ℕ) (form : Form) (antecedent : Option Antecedent) → AreAntecedents forms antecedents → line < length forms → antecedent ≡ get_or antecedents line antecedent → antecedent ≡ antecedent_of (is_bound_in forms) (take line forms) (get_or forms line form)
antecedent_at forms antecedents line form antecedent are within at =
    at ∙ get_or_default antecedents line antecedent None (omega (arith, are.len)) ∙ are.each line form within

steps-by : (forms : List Form) (line : ℕ) (antecedent : Antecedent) → IsAbove line antecedent → type_by forms antecedent ≡ type_at forms line → StepsBack forms line (step_to antecedent)
steps-by forms line (Line above) is_above same = (is_above, same)
steps-by forms line Unbound is_above same = same
steps-by forms line Undefined is_above same = same

pub StepsBack-by : (forms : List Form) (antecedents : List (Option Antecedent)) (line : ℕ) (o : Option Antecedent) (antecedent : Antecedent) → AreAntecedents forms antecedents → line < length forms → o ≡ get_or antecedents line o → o ≡ Some antecedent → StepsBack forms line (step_to antecedent)
StepsBack-by forms antecedents line o antecedent are within at is =
    let form : Form = first_of forms line within in
    let of_line : antecedent_of (is_bound_in forms) (take line forms) (get_or forms line form) ≡ Some antecedent = sym (antecedent_at forms antecedents line form o are within at) ∙ is in
    steps-by forms line antecedent (antecedent_of-above (is_bound_in forms) forms (get_or forms line form) line antecedent (omega arith) of_line)
    (sym (type_at-within forms line form within ∙ type_of-by forms (get_or forms line form) line antecedent (omega arith) of_line))

-- a type that was kept
pub kept_at : (forms : List Form) (antecedents : List (Option Antecedent)) (kept : List (Option LineType)) (line : ℕ) (o : Option LineType) (type : LineType) → IsWalk forms antecedents kept → line < length forms → o ≡ get_or kept line o → o ≡ Some type → atoms_of type ≡ type_at forms line
kept_at forms antecedents kept line o type walk within at is =
    subst (IsRight forms line) (sym (at ∙ get_or_default kept line o None (omega (arith, walk.len))) ∙ is) (walk.right line within)

pub IsWalk-kept : (forms : List Form) (antecedents : List (Option Antecedent)) (kept : List (Option LineType)) (line : ℕ) (type : LineType) → IsWalk forms antecedents kept → line < length forms → atoms_of type ≡ type_at forms line → IsWalk forms antecedents (set kept line (Some type))
IsWalk-kept forms antecedents kept line type walk within is = record {
  are = walk.are;
  len = length-set kept line (Some type) ∙ walk.len;
  right = λ other below. ⊎_elim
      (λ same. subst (λ n. IsRight forms n (get_or (set kept line (Some type)) n None)) (sym same) (subst (IsRight forms line) (sym (get_or-set_same kept line (Some type) None (omega (arith, walk.len)))) is))
      (λ apart. subst (IsRight forms other) (sym (get_or-set_other kept line other (Some type) None apart)) (walk.right other below))
      (cases_eq other line);
}
