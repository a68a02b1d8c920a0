use Rattle.std.specs.Prelude.{slice_get}
use Rattle.py_base.specs.LanguageNames.{language_names}
use Rattle.builtin_rows.proofs.TableLaws.{name_in, module_in, result_in}
use Rattle.builtin_rows.proofs.laws.types_are_listed.Goals as goal

pub returns : goal.returns
returns c = record {
  names = λ n. name_in (slice_get language_names n.0);
  modules = λ owner n. module_in owner.0 (slice_get language_names n.0);
  results = result_in;
}
