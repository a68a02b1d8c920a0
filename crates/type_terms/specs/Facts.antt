-- What is known of the names, the classes and the functions of a text: functions from its nodes and
-- numbers.
use Rattle.std.specs.Prelude.{List, Option}
use Rattle.py_base.specs.declared.ids.ClassId.{ClassId}
use Rattle.py_base.specs.declared.ids.FuncId.{FuncId}
use Rattle.py_base.specs.declared.ids.NameId.{NameId}
use Rattle.py_base.specs.declared.ids.NodeId.{NodeId}
use Rattle.py_base.specs.declared.ids.SiteId.{SiteId}
use Rattle.type_terms.specs.declared.facts.FuncRow.{FuncRow}
use Rattle.type_terms.specs.declared.facts.SiteSlots.{SiteSlots}

-- what a name or chain at a node names, and the members of an enum in class order
pub record NameTable : Type 0 where
  pub class_at : NodeId → Option ClassId
  pub member_at : NodeId → Option (ClassId × NameId)
  pub special_at : NodeId → Option NameId
  pub enum_members : ClassId → List NameId

-- the def or lambda at a node, its row, the class around a node, and the slots of a site
pub record FactTable : Type 0 where
  pub func_at : NodeId → Option FuncId
  pub func : FuncId → FuncRow
  pub class_around : NodeId → Option ClassId
  pub site_slots : SiteId → SiteSlots
