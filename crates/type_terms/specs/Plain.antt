-- Finite maps as functions: what a key has where it has nothing of its own.
use Rattle.std.specs.Prelude.{ℕ, List, [], Option, unwrap_or}
use Rattle.py_base.specs.declared.ids.ClassId.{ClassId}
use Rattle.py_base.specs.declared.ids.FuncId.{FuncId}
use Rattle.py_base.specs.declared.ids.NameId.{NameId}
use Rattle.py_base.specs.declared.ids.NodeId.{NodeId}
use Rattle.py_base.specs.declared.ids.SiteId.{SiteId}
use Rattle.type_terms.specs.declared.atom.Atom.{Atom}
use Rattle.type_terms.specs.declared.facts.FuncRow.{FuncRow}
use Rattle.type_terms.specs.declared.facts.SiteSlots.{SiteSlots}
use Rattle.type_terms.specs.declared.facts.SiteSlots.TheVariants.{Filled}
use Rattle.type_terms.specs.Facts.{NameTable, FactTable}
use Rattle.type_terms.specs.View.{ViewTable}

abbrev pub names_by : (NodeId → Option ClassId) → (NodeId → Option (ClassId × NameId)) → (NodeId → Option NameId) → (ClassId → Option (List NameId)) → NameTable
names_by classes members specials enums = record { class_at = classes; member_at = members; special_at = specials; enum_members = λ class. unwrap_or (enums class) [] }

abbrev pub facts_by : (NodeId → Option FuncId) → (FuncId → Option FuncRow) → FuncRow → (NodeId → Option ClassId) → (SiteId → Option SiteSlots) → FactTable
facts_by nodes funcs other around slots = record { func_at = nodes; func = λ func. unwrap_or (funcs func) other; class_around = around; site_slots = λ site. unwrap_or (slots site) (Filled 0) }

abbrev pub view_by : (NameId → Option (List ℕ)) → (ClassId → Option (List ℕ)) → (ℕ → Option (List ℕ)) → (FuncId × ℕ → Option (List Atom)) → ViewTable
view_by words class_words row_words params = record {
  word = λ name. unwrap_or (words name) [];
  class_word = λ class. unwrap_or (class_words class) [];
  row_word = λ row. unwrap_or (row_words row) [];
  param = λ func place. unwrap_or (params (func, place)) [];
  param_keys = λ func place. [];
}
