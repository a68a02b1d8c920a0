-- What a rule of values may ask about the program, and the words of the rules: a rule speaks of one member of a type, and the rule of a whole type is
-- that of each of its members, joined (Python typing specification, "Union types": an operation on a union is done on each of its members).
use Rattle.std.specs.Prelude.{Bool, List, None, Option, Some, false, true}
use Rattle.class_rows.specs.Rows.{ClassRow}
use Rattle.py_base.specs.declared.ids.NameId.{NameId}
use Rattle.py_base.specs.declared.ids.SymId.{SymId}
use Rattle.type_terms.specs.Facts.{FactTable, NameTable}
use Rattle.type_terms.specs.Rows.{RowTable}
use Rattle.type_terms.specs.declared.atom.Atom.{Atom, out-Atom}
use Rattle.type_terms.specs.declared.atom.Atom.TheOpen.{Atom-F}
use Rattle.value_terms.specs.Outcome.{Outcome, gives}
use Rattle.value_terms.specs.Term.{Term, fixed, member, never}
use Rattle.value_terms.specs.declared.ask.Ask.{Ask}
use Rattle.op_rules.specs.declared.facts.Hiding.{Hiding}
use Rattle.type_terms.specs.declared.atom.Atom.TheVariants as atom

-- what is known of names, and of the symbols of members

pub record MemberTable : Type 0 where
  -- the name begins and ends with two underscores
  pub is_dunder : NameId → Bool
  pub hiding : SymId → Hiding

pub record World : Type 0 where
  -- the classes with their orders and members
  pub classes : List ClassRow
  -- what names name, and the members of enums
  pub names : NameTable
  -- the functions as they are written, and how many slots a site has
  pub facts : FactTable
  -- what the language brings along
  pub builtins : RowTable
  pub members : MemberTable

-- a type, by the types that it asks for
abbrev pub Value : Type 0
Value = Term Ask Atom

-- what an operation gives, and whether it is a fault
abbrev pub Rule : Type 0
Rule = Outcome Ask Atom

abbrev pub unknown : Value
unknown = member atom.Unknown

-- Unknown and a fault
abbrev pub refused : Rule
refused = record { gives = unknown; fails = unknown }

-- nothing and a fault, as for None
abbrev pub none_refused : Rule
none_refused = record { gives = never; fails = member atom.None }

-- the type, or Unknown where there is none
abbrev pub known : Option (List Atom) → Value
known (Some type) = fixed type
known None = unknown

-- the value, or Unknown and a fault where there is none
abbrev pub or_refused : Option Value → Rule
or_refused (Some x) = gives x
or_refused None = refused

-- the value, or nothing and a fault for None, and else Unknown and a fault
abbrev pub level_fault : Atom-F Atom → Rule
level_fault Atom-F.None = none_refused
level_fault _ = refused

abbrev pub or_fault : Atom → Option Value → Rule
or_fault a (Some x) = gives x
or_fault a None = level_fault (out-Atom a)

-- the value, or Unknown without a fault
abbrev pub or_unknown : Option Value → Value
or_unknown (Some x) = x
or_unknown None = unknown

-- a rule whose faults count, or don't
abbrev pub with_faults : Bool → Rule → Rule
with_faults true rule = rule
with_faults false rule = gives rule.gives

-- the rule of a value that is there
abbrev pub ruled : Option Value → Option Rule
ruled (Some x) = Some (gives x)
ruled None = None

-- the first of two rules that applies, as in a table that is read from the top
abbrev pub or_else : Option Rule → Rule → Rule
or_else (Some rule) next = rule
or_else None next = next

-- the first of two that is there
abbrev pub first_of : {X : Type 0} → Option X → Option X → Option X
first_of (Some x) next = Some x
first_of None next = next

-- this one, where the row of the table holds
abbrev pub when : {X : Type 0} → Bool → X → Option X
when true x = Some x
when false x = None
