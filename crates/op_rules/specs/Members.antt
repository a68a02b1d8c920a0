-- Which symbols count for the name of a member: those of the classes of the order that have it, up to the first that hides what stands behind it. One
-- that is only set through instances, and never in an `__init__`, doesn't; where the one that hides is declared, its declaration alone counts (Python
-- language reference, 6.3.1, attribute references; 3.3.3, class creation).
use Rattle.std.specs.Prelude.{List, None, Option, Some, [], drop, false, if◌then◌else◌, is_some, map, true, ℕ, ◌==◌, ◌∷◌}
use Rattle.std.specs.List.{position}
use Rattle.class_rows.specs.Rows.{order_of, own_member_of}
use Rattle.py_base.specs.declared.ids.ClassId.{ClassId}
use Rattle.py_base.specs.declared.ids.NameId.{NameId}
use Rattle.py_base.specs.declared.ids.SymId.{SymId}
use Rattle.type_terms.specs.declared.atom.Atom.{Atom}
use Rattle.value_terms.specs.Term.{join, several}
use Rattle.op_rules.specs.World.{Value, World}
use Rattle.op_rules.specs.declared.facts.Hiding.{Hiding}
use Rattle.op_rules.specs.declared.members.Seen.{Seen}
use Rattle.type_terms.specs.declared.atom.Atom.TheVariants as atom
use Rattle.op_rules.specs.declared.facts.Hiding.TheVariants as hiding
use Rattle.type_terms.specs.declared.literal.Literal.TheVariants as literal

abbrev pub nothing_seen : Seen
nothing_seen = record { symbols = []; hidden = false; declared = false }

-- a symbol that joins what stands behind it, where that isn't declared
abbrev pub joined_to : SymId → Seen → Seen
joined_to sym rest = record { symbols = if rest.declared then rest.symbols else sym ∷ rest.symbols; hidden = rest.hidden; declared = rest.declared }

-- a symbol before those that stand behind it
abbrev pub seen_first : SymId → Hiding → Seen → Seen
seen_first sym hiding.Joins rest = joined_to sym rest
seen_first sym hiding.Hides rest = record { symbols = sym ∷ []; hidden = true; declared = false }
seen_first sym hiding.Declares rest = record { symbols = sym ∷ []; hidden = true; declared = true }

abbrev pub seen_of : World → List SymId → Seen
seen_of w [] = nothing_seen
seen_of w (sym ∷ syms) = seen_first sym (w.members.hiding sym) (seen_of w syms)

-- the symbols of a name that classes have of their own
abbrev pub with_symbol : Option SymId → List SymId → List SymId
with_symbol (Some sym) syms = sym ∷ syms
with_symbol None syms = syms

abbrev pub symbols_of : World → List ClassId → NameId → List SymId
symbols_of w [] name = []
symbols_of w (c ∷ cs) name = with_symbol (own_member_of w.classes c name) (symbols_of w cs name)

abbrev pub seen_in : World → List ClassId → NameId → Seen
seen_in w order name = seen_of w (symbols_of w order name)

-- of a class, and of what stands behind it in its order
abbrev pub members_seen : World → ClassId → NameId → Seen
members_seen w class name = seen_in w (order_of w.classes class) name

abbrev pub members_behind : World → ClassId → NameId → Seen
members_behind w class name = seen_in w (drop 1 (order_of w.classes class)) name

-- what the symbols give, each seen in the same way
abbrev pub through_all : (SymId → Value) → List SymId → Value
through_all through syms = several (map through syms)

-- and what stands behind them, where there is something
abbrev pub with_behind : Value → Option Value → Value
with_behind x (Some y) = join x y
with_behind x None = x

-- where nothing is hidden: what the symbols give with what stands behind them, or this where there are none
abbrev pub unhidden : (SymId → Value) → List SymId → Option Value → Option Value → Option Value
unhidden through [] behind other = other
unhidden through (sym ∷ syms) behind other = Some (with_behind (through_all through (sym ∷ syms)) behind)

abbrev pub by_members : (SymId → Value) → Seen → Option Value → Option Value → Option Value
by_members through seen behind other = if seen.hidden then Some (through_all through seen.symbols) else unhidden through seen.symbols behind other

-- the place of a name in a list
abbrev pub place_of : NameId → List NameId → Option ℕ
place_of name names = position (λ other. name.0 == other.0) names

-- the first class of an order that has the name of its own
abbrev pub owner_in : World → List ClassId → NameId → Option ClassId
owner_in w [] name = None
owner_in w (c ∷ cs) name = if is_some (own_member_of w.classes c name) then Some c else owner_in w cs name

-- the member of an enum with this name, where the first class that has the name is an enum
abbrev pub literal_of : ClassId → Option ℕ → Option Atom
literal_of class (Some place) = Some (atom.Lit (literal.Member class place))
literal_of class None = None

abbrev pub member_in : World → NameId → Option ClassId → Option Atom
member_in w name (Some class) = literal_of class (place_of name (w.names.enum_members class))
member_in w name None = None

abbrev pub enum_member : World → ClassId → NameId → Option Atom
enum_member w class name = member_in w name (owner_in w (order_of w.classes class) name)
