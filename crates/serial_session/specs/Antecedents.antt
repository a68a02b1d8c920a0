-- The antecedent of a line: where the type of what it reads comes from. A read goes back to the last line above that
-- binds the name. Where no line above binds it, it is unbound, and undefined where no line of the text does.
-- Python 3.12 language reference, 4.2.1 (binding of names) and 4.2.2 (resolution of names).
use Rattle.std.specs.Prelude.{◌≡◌, ℕ, ◌+◌, ◌<◌, List, [], ◌∷◌, Bool, if◌then◌else◌, Option, Some, None, option_map, length, take, slice_index_or}
use Rattle.std.specs.Cmp.Lexicographic.{slice_cmp}
use Rattle.std.specs.Ordering.{nat_cmp}
use Rattle.std.specs.BTreeMap.{BTreeMap, get_by}
use denote.Ref.{Bor}
use Rattle.serial_session.specs.declared.antecedent.Antecedent.{Antecedent}
use Rattle.serial_session.specs.declared.antecedent.Antecedent.TheVariants.{Line, Unbound, Undefined}
use Rattle.serial_session.specs.declared.form.NameUse.{NameUse}
use Rattle.serial_session.specs.declared.form.Value.{Value}
use Rattle.serial_session.specs.declared.form.Value.TheVariants.{Literal, NoneValue, Read}
use Rattle.serial_session.specs.declared.form.Form.{Form}
use Rattle.serial_session.specs.declared.form.Form.TheVariants.{Binding, Reveal}
use Rattle.serial_session.specs.Typing.{binds, is_bound_in}

-- the name that a value reads
abbrev pub read_in : Value → Option NameUse
read_in (Literal literal) = None
read_in NoneValue = None
read_in (Read read) = Some read

-- the name that a line reads
abbrev pub read_of : Form → Option NameUse
read_of (Binding target value) = read_in value
read_of (Reveal read) = Some read

-- the number of the last line, where the first line has the number 0 and this is the last of the others
abbrev pub last_with : Bool → Option ℕ → Option ℕ
last_with first None = if first then Some 0 else None
last_with first (Some line) = Some (line + 1)

-- the number of the last of these lines that binds the name
abbrev pub last_binding : List Form → List ℕ → Option ℕ
last_binding [] name = None
last_binding (form ∷ forms) name = last_with (binds form name) (last_binding forms name)

-- what is known of a name below some lines: none where no line of the text binds it, else the last of these lines that does
abbrev pub binding_below : (List ℕ → Bool) → List Form → List ℕ → Option (Option ℕ)
binding_below known above name = if known name then Some (last_binding above name) else None

abbrev pub antecedent_in : Option (Option ℕ) → Antecedent
antecedent_in None = Undefined
antecedent_in (Some None) = Unbound
antecedent_in (Some (Some line)) = Line line

-- the antecedent of a line below these lines; none where the line reads no name
abbrev pub antecedent_of : (List ℕ → Bool) → List Form → Form → Option Antecedent
antecedent_of known above form = option_map (λ read. antecedent_in (binding_below known above read.name)) (read_of form)

-- the antecedent of each line of a text
pub record AreAntecedents (forms : List Form) (antecedents : List (Option Antecedent)) : Type 0 where
  pub len : length antecedents ≡ length forms
  pub each : (i : ℕ) (form : Form) → i < length forms → slice_index_or antecedents i None ≡ antecedent_of (is_bound_in forms) (take i forms) (slice_index_or forms i form)

-- what a map from names says of a name
abbrev pub entry_at : {A : Type 0} → BTreeMap (Bor (List ℕ)) A → List ℕ → Option A
entry_at map name = get_by (λ key. slice_cmp nat_cmp name key.now) map
