-- The text of a type that no program stands behind: no type of a key, no name and no function is known.
-- Typing specification, "Literals" and "Union types", whose spelling it follows.
use Rattle.std.specs.Prelude.{ℕ, List, [], false, None}
use Rattle.type_terms.specs.declared.atom.Atom.{Atom}
use Rattle.type_terms.specs.declared.facts.FuncRow.{FuncRow}
use Rattle.type_terms.specs.declared.facts.FuncKind.TheVariants.{Plain}
use Rattle.type_terms.specs.declared.facts.SiteSlots.TheVariants.{Filled}
use Rattle.type_terms.specs.View.{Meaning}
use Rattle.type_terms.specs.Text.{text}

-- a function of which nothing is written
abbrev pub unwritten : FuncRow
unwritten = record { kind = Plain; params = []; result = None; guard = false; is_async = false; is_generator = false }

abbrev pub nothing_known : Meaning
nothing_known = record {
  assignment = λ key. [];
  names = record { class_at = λ node. None; member_at = λ node. None; special_at = λ node. None; enum_members = λ class. [] };
  facts = record { func_at = λ node. None; func = λ func. unwritten; class_around = λ node. None; site_slots = λ site. Filled 0 };
  view = record { word = λ name. []; class_word = λ class. []; row_word = λ row. []; param = λ func place. []; param_keys = λ func place. [] };
}

unfoldable pub text_of : List Atom → List ℕ
text_of type = text nothing_known 4 type
