-- What has to hold for a member of a type to go to a member of another (Python typing specification, "Assignability", "Callables", "Tuples", "Literals"). The
-- rules ask further questions: whether a type in a slot is accepted by another, or is the same.
use Rattle.std.specs.Prelude.{ℕ, ◌==◌, ◌||◌, ◌&&◌, if◌then◌else◌, Bool, true, false, List, [], ◌∷◌, ◌++◌, map, take, length, Option, Some, None}
use Rattle.std.specs.Ordering.{eq_by_cmp}
use Rattle.py_base.specs.Builtins.{id_of}
use Rattle.py_base.specs.declared.builtin.Builtin.TheVariants as builtin
use Rattle.py_base.specs.declared.ids.ClassId.{ClassId}
use Rattle.py_base.specs.declared.ids.FuncId.{FuncId}
use Rattle.class_rows.specs.Rows.{ClassRow, is_sub_of, is_open_of}
use Rattle.type_terms.specs.declared.atom.Slots.{Slots}
use Rattle.type_terms.specs.declared.atom.Slots.TheVariants.{Each, Endless, AnyArguments, Arguments}
use Rattle.type_terms.specs.declared.atom.Atom.{Atom, out-Atom}
use Rattle.type_terms.specs.declared.atom.Atom.TheVariants as atom
use Rattle.type_terms.specs.declared.atom.Atom.TheOpen.{Atom-F}
use Rattle.type_terms.specs.Order.{atom_cmp, literal_class}
use Rattle.assign_rules.specs.declared.question.Question.{Question}
use Rattle.assign_rules.specs.declared.question.Question.TheVariants.{Accepted, Same}
use Rattle.assign_rules.specs.Members.{Table, is_class, is_builtin, is_lambda, class_of, slots_of, call_result, made_by_call}
use Rattle.assign_rules.specs.Takes.{func_takes, bound_takes, class_takes}

-- the questions that it depends on, all of them; None where it doesn't go
abbrev pub Needs : Type 0
Needs = Option (List Question)

abbrev pub nothing_where : Bool → Needs
nothing_where holds = if holds then Some [] else None

abbrev pub where_holds : Bool → List Question → Needs
where_holds holds questions = if holds then Some questions else None

abbrev pub is_atom : Atom → Atom → Bool
is_atom = eq_by_cmp atom_cmp

-- pairs of types, place by place
abbrev pub asked_each : (List Atom → List Atom → Question) → List (List Atom) → List (List Atom) → List Question
asked_each ask (x ∷ xs) (y ∷ ys) = ask x y ∷ asked_each ask xs ys
asked_each ask _ _ = []

abbrev pub accepted_each : List (List Atom) → List (List Atom) → List Question
accepted_each = asked_each (λ x y. Accepted x y)

abbrev pub same_each : List (List Atom) → List (List Atom) → List Question
same_each = asked_each (λ x y. Same x y)

-- each type by one
abbrev pub all_accepted : List (List Atom) → List Atom → List Question
all_accepted xs y = map (λ x. Accepted x y) xs

-- a class needs a class over it; int goes to float and complex, and float to complex
abbrev pub class_goes : List ClassRow → ClassId → ClassId → Bool
class_goes classes low high = is_sub_of classes low high
    || (is_class high (id_of builtin.Float) || is_class high (id_of builtin.Complex)) && is_sub_of classes low (id_of builtin.Int)
    || is_class high (id_of builtin.Complex) && is_sub_of classes low (id_of builtin.Float)

abbrev pub goes_to_instance : List ClassRow → Option ClassId → ClassId → Bool
goes_to_instance classes (Some low) high = class_goes classes low high
goes_to_instance classes None high = false

-- class C goes to Class over it
abbrev pub goes_to_class : List ClassRow → Atom-F Atom → ClassId → Bool
goes_to_class classes (Atom-F.Class low) high = is_sub_of classes low high
goes_to_class classes _ high = false

-- the types of the entries
abbrev pub entries : Slots (List Atom) → List (List Atom)
entries (Each types) = types
entries (Endless type) = type ∷ []
entries (AnyArguments type) = []
entries (Arguments types type) = []

-- a dict iterates slot 0
abbrev pub iterated : ClassId → List (List Atom) → List (List Atom)
iterated class types = if is_class class (id_of builtin.Dict) then take 1 types else types

-- to a tuple of fixed length goes one of that length
abbrev pub fixed_goes : Slots (List Atom) → List (List Atom) → Needs
fixed_goes (Each xs) ys = where_holds (length xs == length ys) (accepted_each xs ys)
fixed_goes _ ys = None

-- to a tuple of any length each goes
abbrev pub tuple_goes : Slots (List Atom) → Slots (List Atom) → Needs
tuple_goes own (Each ys) = fixed_goes own ys
tuple_goes own (Endless y) = Some (all_accepted (entries own) y)
tuple_goes own _ = None

-- each entry by the one slot
abbrev pub entries_go : List (List Atom) → List (List Atom) → Needs
entries_go xs (y ∷ []) = Some (all_accepted xs y)
entries_go xs _ = None

-- the slots of list, set and dict must be the same, those of tuple, Sequence and Iterable are accepted in their turn
abbrev pub slots_go : ClassId → Slots (List Atom) → ClassId → Slots (List Atom) → Needs
slots_go low own high wanted =
    if is_class high (id_of builtin.List) || is_class high (id_of builtin.Set) || is_class high (id_of builtin.Dict) then Some (same_each (entries own) (entries wanted))
    else if is_class high (id_of builtin.Tuple) then tuple_goes own wanted
    else entries_go (iterated low (entries own)) (entries wanted)

abbrev pub instance : ClassId → List Atom
instance class = atom.Inst class ∷ []

-- what a class without slots iterates, where the language says it: str counts as `Sequence[str]`, bytes and range as `Sequence[int]`, TextIO as `Iterable[str]`
abbrev pub text_entries : List ClassRow → ClassId → List (List Atom)
text_entries classes low =
    if is_sub_of classes low (id_of builtin.Str) || is_sub_of classes low (id_of builtin.TextIo) then instance (id_of builtin.Str) ∷ []
    else if is_sub_of classes low (id_of builtin.Bytes) || is_sub_of classes low (id_of builtin.Range) then instance (id_of builtin.Int) ∷ []
    else []

-- a class of a file under a generic class has slots of which nothing is known
abbrev pub plain_goes : List ClassRow → ClassId → ClassId → Slots (List Atom) → Needs
plain_goes classes low high wanted =
    if is_class high (id_of builtin.Sequence) || is_class high (id_of builtin.Iterable) then entries_go (text_entries classes low) (entries wanted) else Some []

abbrev pub generic_goes : List ClassRow → ClassId → Option (Slots (List Atom)) → ClassId → Slots (List Atom) → Needs
generic_goes classes low (Some own) high wanted = slots_go low own high wanted
generic_goes classes low None high wanted = plain_goes classes low high wanted

-- to the instances of a generic class with these slots
abbrev pub goes_to_slots : Table → Option ClassId → Option (Slots (List Atom)) → Option ClassId → Option (Slots (List Atom)) → Needs
goes_to_slots t (Some low) own (Some high) (Some wanted) = if is_sub_of t.classes low high then generic_goes t.classes low own high wanted else None
goes_to_slots t _ own _ _ = None

-- whether a callable takes as many arguments as are written; `...` skips the count
abbrev pub takes_wanted : (ℕ → Bool) → Slots (List Atom) → Bool
takes_wanted takes (Arguments types type) = takes (length types)
takes_wanted takes _ = true

abbrev pub takes_as_many : Slots (List Atom) → ℕ → Bool
takes_as_many (Arguments types type) count = length types == count
takes_as_many _ count = true

abbrev pub result_of : Slots (List Atom) → List Atom
result_of (Each types) = []
result_of (Endless type) = []
result_of (AnyArguments type) = type
result_of (Arguments types type) = type

abbrev pub is_callable_form : Slots (List Atom) → Bool
is_callable_form (AnyArguments type) = true
is_callable_form (Arguments types type) = true
is_callable_form _ = false

-- it takes so many plain arguments, and its result is accepted
abbrev pub call_goes : Bool → List Atom → Slots (List Atom) → Needs
call_goes takes result wanted = where_holds takes (Accepted result (result_of wanted) ∷ [])

abbrev pub func_goes : Table → FuncId → Slots (List Atom) → Needs
func_goes t func wanted = call_goes (takes_wanted (func_takes t.facts func) wanted) (call_result t func) wanted

abbrev pub lambda_goes : Table → Bool → Option FuncId → Slots (List Atom) → Needs
lambda_goes t true (Some func) wanted = func_goes t func wanted
lambda_goes t _ _ wanted = None

-- to a callable: a function, method or class of the file by count and result, a builtin one always
abbrev pub goes_to_callable : Table → Atom-F Atom → Slots (List Atom) → Needs
goes_to_callable t (Atom-F.Func func) wanted = func_goes t func wanted
goes_to_callable t (Atom-F.Bound func) wanted = call_goes (takes_wanted (bound_takes t.facts func) wanted) (call_result t func) wanted
goes_to_callable t (Atom-F.Site site) wanted = lambda_goes t (is_lambda site) (t.facts.func_at site.node) wanted
goes_to_callable t (Atom-F.Class class) wanted = if is_builtin class then Some [] else call_goes (takes_wanted (class_takes t class) wanted) (made_by_call t.names class) wanted
goes_to_callable t (Atom-F.BuiltMethod row receiver) wanted = Some []
goes_to_callable t (Atom-F.BuiltFunc row) wanted = Some []
goes_to_callable t (Atom-F.Gen class own) wanted = call_goes (is_callable_form own && takes_wanted (takes_as_many own) wanted) (result_of own) wanted
goes_to_callable t (Atom-F.Lit value) wanted = nothing_where (is_sub_of t.classes (literal_class value) (id_of builtin.Callable))
goes_to_callable t (Atom-F.Inst class) wanted = nothing_where (is_sub_of t.classes class (id_of builtin.Callable))
goes_to_callable t _ wanted = None

-- to the instances of a generic class, or to a callable
abbrev pub goes_to_generic : Table → Atom → Atom → ClassId → Slots (List Atom) → Needs
goes_to_generic t low high class slots = if is_callable_form slots then goes_to_callable t (out-Atom low) slots else goes_to_slots t (class_of low) (slots_of t low) (Some class) (slots_of t high)

-- what a member needs to go to another one that isn't itself
abbrev pub level_goes : Table → Atom → Atom → Atom-F Atom → Needs
level_goes t low high (Atom-F.Inst class) = nothing_where (goes_to_instance t.classes (class_of low) class)
level_goes t low high (Atom-F.Class class) = nothing_where (goes_to_class t.classes (out-Atom low) class)
level_goes t low high (Atom-F.Gen class slots) = goes_to_generic t low high class slots
level_goes t low high (Atom-F.Site site) = goes_to_slots t (class_of low) (slots_of t low) (Some site.class) (slots_of t high)
level_goes t low high _ = None

-- what a member needs to go to another: itself it goes to
unfoldable pub goes : Table → Atom → Atom → Needs
goes t low high = if is_atom low high then Some [] else level_goes t low high (out-Atom high)

-- the slots of two members that are alike are the same
abbrev pub same_slots : Slots (List Atom) → Slots (List Atom) → Needs
same_slots (Each xs) (Each ys) = where_holds (length xs == length ys) (same_each xs ys)
same_slots (Endless x) (Endless y) = Some (Same x y ∷ [])
same_slots (AnyArguments x) (AnyArguments y) = Some (Same x y ∷ [])
same_slots (Arguments xs x) (Arguments ys y) = where_holds (length xs == length ys) (same_each xs ys ++ Same x y ∷ [])
same_slots _ _ = None

abbrev pub like_by_slots : Option (Slots (List Atom)) → Option (Slots (List Atom)) → Needs
like_by_slots (Some own) (Some others) = same_slots own others
like_by_slots _ _ = None

abbrev pub has_equal_class : Option ClassId → Option ClassId → Bool
has_equal_class (Some one) (Some other) = is_class one other
has_equal_class _ _ = false

abbrev pub like_by_class : Table → Atom → Atom → Needs
like_by_class t one other = if has_equal_class (class_of one) (class_of other) then like_by_slots (slots_of t one) (slots_of t other) else None

-- the like of a literal is an equal literal; that of another member has an equal class and the same slots
unfoldable pub like : Table → Atom → Atom → Needs
like t one other = if is_atom one other then Some [] else like_by_class t one other

abbrev pub level_passes : List ClassRow → Atom-F Atom → Bool
level_passes classes (Atom-F.Lit value) = is_open_of classes (literal_class value)
level_passes classes (Atom-F.Inst class) = is_open_of classes class
level_passes classes Atom-F.Unknown = true
level_passes classes Atom-F.Unbound = true
level_passes classes Atom-F.Open = true
level_passes classes Atom-F.Here = true
level_passes classes _ = false

-- Unknown and an instance of a class with an Unknown base always go; a mark stands for no value
unfoldable pub passes : List ClassRow → Atom → Bool
passes classes a = level_passes classes (out-Atom a)

abbrev pub level_takes_all : Atom-F Atom → Bool
level_takes_all (Atom-F.Inst class) = is_class class (id_of builtin.Object)
level_takes_all Atom-F.Unknown = true
level_takes_all _ = false

-- any member is accepted where the target has Unknown or object
unfoldable pub takes_all : Atom → Bool
takes_all a = level_takes_all (out-Atom a)

abbrev pub level_is_unknown : Atom-F Atom → Bool
level_is_unknown Atom-F.Unknown = true
level_is_unknown _ = false

unfoldable pub is_unknown : Atom → Bool
is_unknown a = level_is_unknown (out-Atom a)
