-- What the text of a type is taken from: the types of the keys and of the parameters, what is known of
-- names and functions, and the words for names, classes and builtin rows.
use Rattle.std.specs.Prelude.{ℕ, List}
use Rattle.py_base.specs.declared.ids.ClassId.{ClassId}
use Rattle.py_base.specs.declared.ids.FuncId.{FuncId}
use Rattle.py_base.specs.declared.ids.NameId.{NameId}
use Rattle.py_base.specs.declared.key.Key.{Key}
use Rattle.type_terms.specs.declared.atom.Atom.{Atom}
use Rattle.type_terms.specs.Facts.{NameTable, FactTable}

-- the words, and the types of the parameters with the keys that these name
pub record ViewTable : Type 0 where
  pub word : NameId → List ℕ
  pub class_word : ClassId → List ℕ
  pub row_word : ℕ → List ℕ
  pub param : FuncId → ℕ → List Atom
  pub param_keys : FuncId → ℕ → List Key

pub record Meaning : Type 0 where
  pub assignment : Key → List Atom
  pub names : NameTable
  pub facts : FactTable
  pub view : ViewTable

abbrev pub meaning_of : (Key → List Atom) → NameTable → FactTable → ViewTable → Meaning
meaning_of assignment names facts view = record { assignment = assignment; names = names; facts = facts; view = view }
