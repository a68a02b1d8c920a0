use Rattle.std.specs.Prelude.{slice_get}
use Rattle.py_base.specs.LanguageNames.{language_names}
use Rattle.builtin_rows.proofs.TableLaws.{row_count_is, name_function, module_function, function_within, method_owned, method_within, class_within}
use Rattle.builtin_rows.proofs.laws.rows_are_numbered.Goals as goal

pub returns : goal.returns
returns c = record {
  count = row_count_is;
  names = name_function;
  modules = module_function;
  functions = function_within;
  methods = λ class n. method_owned class (slice_get language_names n.0);
  within = method_within;
  calls = class_within;
}
