-- What the look-ups of the table give stands in its finite lists.
use Rattle.std.proofs.Common.{◌≡◌, ⊎_elim, ◌<◌, ◌&&◌, ◌==◌, ℕ, zero, suc, Bool, true, false, List, [], ◌∷◌, refl, sym, subst, arith, Option, Some, None, option_map}
use Rattle.std.specs.Prelude.{find, slice_get, bytes_eq, unwrap_or, if◌then◌else◌, nat_lt}
use Rattle.std.specs.List.{Contains, flat_map, list_any}
use Rattle.std.proofs.lemmas.Option.{slice_get-map, slice_get_within}
use Rattle.std.proofs.lemmas.Bool.{and_parts}
use Rattle.std.proofs.lemmas.List.Elements.{Contains-append_cases}
use Rattle.py_base.specs.LanguageNames.{language_names, builtin_names}
use Rattle.py_base.specs.declared.ids.ClassId.{ClassId}
use Rattle.type_terms.specs.declared.atom.Atom.{Atom}
use Rattle.type_terms.specs.declared.atom.Atom.TheVariants as atom
use Rattle.builtin_rows.specs.declared.table.Owner.{Owner}
use Rattle.builtin_rows.specs.Lists.{row_count, name_atoms, module_atoms, result_atoms, fixed_atoms, is_owned, is_function_row, is_method_row}
use Rattle.py_base.specs.Builtins.{builtin_count}
use Rattle.builtin_rows.specs.declared.table.Meaning.{Meaning}
use Rattle.builtin_rows.specs.declared.table.Meaning.TheVariants as meaning
use Rattle.builtin_rows.specs.Rows.{by_text, builtin_named, builtin_type, builtin_table, class_type, str_type, is_class_name, is_text_name, module_named, entry_type, meaning_type, name_number, row_number, row_of, row_at, no_row, result_of, is_function, is_call, is_method_of}
use Rattle.builtin_rows.specs.Table.{RowLine, ModuleLine, rows, entries}
use Rattle.builtin_rows.proofs.ListLemmas.{flat_at, flat_found, flat_among, passes, place_passes}

abbrev named : List ℕ → List Atom
named text = builtin_type text (row_number is_function text)

name_if : (b : Bool) (text : List ℕ) (ty : List Atom) (a : Atom) → list_any (bytes_eq text) builtin_names ≡ b → (if b then Some (named text) else None) ≡ Some ty → Contains ty a → Contains name_atoms a
unfolding name_atoms
name_if true text ty a s e h = let same : named text ≡ ty = cc in flat_among named builtin_names text a s (subst (λ t. Contains t a) (sym same) h)
name_if false text ty a s e h = cc

pub name_in : (found : Option (List ℕ)) (ty : List Atom) (a : Atom) → by_text builtin_named found ≡ Some ty → Contains ty a → Contains name_atoms a
unfolding builtin_named
name_in None ty a e h = cc
name_in (Some text) ty a e h = name_if (list_any (bytes_eq text) builtin_names) text ty a refl e h

entry_in_list : (o : Option ModuleLine) (p : ModuleLine → Bool) (ty : List Atom) (a : Atom) → find p entries ≡ o → option_map entry_type o ≡ Some ty → Contains ty a → Contains module_atoms a
unfolding module_atoms
entry_in_list None p ty a s e h = cc
entry_in_list (Some line) p ty a s e h = let same : entry_type line ≡ ty = cc in flat_found p entry_type entries line a s (subst (λ t. Contains t a) (sym same) h)

pub module_in : (owner : ℕ) (found : Option (List ℕ)) (ty : List Atom) (a : Atom) → by_text (module_named owner) found ≡ Some ty → Contains ty a → Contains module_atoms a
unfolding module_named
module_in owner None ty a e h = cc
module_in owner (Some text) ty a e h =
    let p = λ (line : ModuleLine). bytes_eq text line.name && (name_number line.owner == owner) in
    entry_in_list (find p entries) p ty a refl e h

abbrev fixed_in : RowLine → List Atom
fixed_in line = fixed_atoms (result_of line.gives)

result_from : (o : Option RowLine) (n : ℕ) (a : Atom) → slice_get rows n ≡ o → Contains (fixed_atoms (unwrap_or (option_map row_of o) no_row).result) a → Contains result_atoms a
unfolding result_atoms
result_from None n a s h = let lt = h.1 in absurd (omega arith)
result_from (Some line) n a s h = flat_at fixed_in rows n line a s h

pub result_in : (n : ℕ) (a : Atom) → Contains (fixed_atoms (row_at n).result) a → Contains result_atoms a
unfolding row_at
result_in n a h = result_from (slice_get rows n) n a refl (subst (λ o. Contains (fixed_atoms (unwrap_or o no_row).result) a) (slice_get-map row_of rows n) h)

owned_from : (p : RowLine → Bool) (owns : Owner → Bool) → ((line : RowLine) → p line ≡ true → owns line.owner ≡ true) → (o : Option RowLine) → passes p o ≡ true → is_owned owns o ≡ true
owned_from p owns h None e = cc
owned_from p owns h (Some line) e = h line e

pub number_owned : (owns : Owner → Bool) (text : List ℕ) (row : ℕ) → row_number owns text ≡ Some row → is_owned owns (slice_get rows row) ≡ true
number_owned owns text row e =
    let p = λ (line : RowLine). bytes_eq text line.name && owns line.owner in
    let (j, at, h) = place_passes p rows 0 row e in
    let same : j ≡ row = omega (arith, sym at) in
    subst (λ k. is_owned owns (slice_get rows k) ≡ true) same (owned_from p owns (λ line e. (and_parts (bytes_eq text line.name) (owns line.owner) e).1) (slice_get rows j) h)

pub method_owned : (c : ClassId) (found : Option (List ℕ)) (row : ℕ) → by_text (row_number (is_method_of c)) found ≡ Some row → is_method_row c row ≡ true
unfolding is_method_row
method_owned c None row e = cc
method_owned c (Some text) row e = number_owned (is_method_of c) text row e

pub owned_within : (owns : Owner → Bool) (o : Option RowLine) (row : ℕ) → slice_get rows row ≡ o → is_owned owns o ≡ true → row < row_count
unfolding row_count
owned_within owns None row s e = cc
owned_within owns (Some line) row s e = slice_get_within rows row line s

pub method_within : (c : ClassId) (row : ℕ) → is_method_row c row ≡ true → row < row_count
unfolding is_method_row
method_within c row e = owned_within (is_method_of c) (slice_get rows row) row refl e

pub call_within : (found : Option (List ℕ)) (row : ℕ) → by_text (row_number is_call) found ≡ Some row → row < row_count
call_within None row e = cc
call_within (Some text) row e = owned_within is_call (slice_get rows row) row refl (number_owned is_call text row e)

pub function_within : (row : ℕ) → is_function_row row ≡ true → row < row_count
unfolding is_function_row
function_within row e = owned_within is_function (slice_get rows row) row refl e

pub class_within : (c : ClassId) (row : ℕ) → builtin_table.class_call c ≡ Some row → row < row_count
class_within c row e = step (nat_lt c.0 builtin_count) e
  where
    step : (b : Bool) → (if b then by_text (row_number is_call) (slice_get language_names c.0) else None) ≡ Some row → row < row_count
    step true e = call_within (slice_get language_names c.0) row e
    step false e = cc

pub row_count_is : row_count ≡ 197
unfolding row_count rows
row_count_is = refl

-- a builtin function among the atoms of names is a row of a function
only : {X : Type 0} (x y : X) → Contains (x ∷ []) y → x ≡ y
only x y (zero, lt, e) = e
only x y (suc k, lt, e) = absurd (omega (arith, lt))

value_function : (b t : Bool) (text : List ℕ) (row : ℕ) → Contains (if b then class_type text else (if t then str_type else atom.Unknown ∷ [])) (atom.BuiltFunc row) → is_owned is_function (slice_get rows row) ≡ true
value_function true t text row h = let same = only (atom.Class (record { 0 = name_number text })) (atom.BuiltFunc row) h in cc
value_function false true text row h = let same = only _ (atom.BuiltFunc row) h in cc
value_function false false text row h = let same = only atom.Unknown (atom.BuiltFunc row) h in cc

named_function : (text : List ℕ) (o : Option ℕ) (row : ℕ) → row_number is_function text ≡ o → Contains (builtin_type text o) (atom.BuiltFunc row) → is_owned is_function (slice_get rows row) ≡ true
named_function text (Some n) row e h = let same = only (atom.BuiltFunc n) (atom.BuiltFunc row) h in number_owned is_function text row (cc)
named_function text None row e h = value_function (is_class_name text) (is_text_name text) text row h

names_function : (texts : List (List ℕ)) (row : ℕ) → Contains (flat_map named texts) (atom.BuiltFunc row) → is_owned is_function (slice_get rows row) ≡ true
names_function [] row h = absurd (omega (arith, h.1))
names_function (text ∷ texts) row h = ⊎_elim (named_function text (row_number is_function text) row refl) (names_function texts row) (Contains-append_cases (named text) (flat_map named texts) (atom.BuiltFunc row) h)

pub name_function : (row : ℕ) → Contains name_atoms (atom.BuiltFunc row) → is_function_row row ≡ true
unfolding name_atoms is_function_row
name_function row h = names_function builtin_names row h

meaning_function : (text : List ℕ) (m : Meaning) (row : ℕ) → Contains (meaning_type text m) (atom.BuiltFunc row) → is_owned is_function (slice_get rows row) ≡ true
meaning_function text meaning.Class row h = let same = only _ (atom.BuiltFunc row) h in cc
meaning_function text meaning.ClassObject row h = let same = only _ (atom.BuiltFunc row) h in cc
meaning_function text meaning.BuiltinFunction row h = named_function text (row_number is_function text) row refl h
meaning_function text meaning.Special row h = let same = only _ (atom.BuiltFunc row) h in cc
meaning_function text meaning.Strs row h = let same = only _ (atom.BuiltFunc row) h in cc
meaning_function text meaning.NotKnown row h = let same = only _ (atom.BuiltFunc row) h in cc

entries_function : (lines : List ModuleLine) (row : ℕ) → Contains (flat_map entry_type lines) (atom.BuiltFunc row) → is_owned is_function (slice_get rows row) ≡ true
entries_function [] row h = absurd (omega (arith, h.1))
entries_function (line ∷ lines) row h = ⊎_elim (meaning_function line.name line.meaning row) (entries_function lines row) (Contains-append_cases (entry_type line) (flat_map entry_type lines) (atom.BuiltFunc row) h)

pub module_function : (row : ℕ) → Contains module_atoms (atom.BuiltFunc row) → is_function_row row ≡ true
unfolding module_atoms is_function_row
module_function row h = entries_function entries row h
