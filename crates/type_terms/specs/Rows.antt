-- What is known of the builtins: functions from names, classes and numbers of rows (Python 3.12 library
-- reference, "Built-in Functions" and "Built-in Types").
use Rattle.std.specs.Prelude.{ℕ, List, Option}
use Rattle.py_base.specs.declared.ids.ClassId.{ClassId}
use Rattle.py_base.specs.declared.ids.NameId.{NameId}
use Rattle.type_terms.specs.declared.atom.Atom.{Atom}
use Rattle.type_terms.specs.declared.rows.Row.{Row}

-- the types of names and of names of modules, the rows of methods and of class calls, and each row
pub record RowTable : Type 0 where
  pub name : NameId → Option (List Atom)
  pub method : ClassId → NameId → Option ℕ
  pub module_name : NameId → NameId → Option (List Atom)
  pub class_call : ClassId → Option ℕ
  pub row : ℕ → Row
