-- The symbols that count, found from the front of an order on, are those that count.
use Rattle.std.proofs.Common.{◌≡◌, Bool, true, false, List, [], ◌∷◌, ◌++◌, Option, Some, None, refl, sym, ap, ◌∙◌, if◌then◌else◌}
use Rattle.std.proofs.lemmas.List.{append-nil, append_assoc}
use Rattle.py_base.specs.declared.ids.ClassId.{ClassId}
use Rattle.py_base.specs.declared.ids.NameId.{NameId}
use Rattle.py_base.specs.declared.ids.SymId.{SymId}
use Rattle.class_rows.specs.Rows.{own_member_of}
use Rattle.op_rules.specs.World.{World}
use Rattle.op_rules.specs.Members.{joined_to, seen_first, seen_of, with_symbol, symbols_of, seen_in}
use Rattle.op_rules.specs.declared.facts.Hiding.{Hiding}
use Rattle.op_rules.specs.declared.facts.Hiding.TheVariants as hiding
use Rattle.op_rules.specs.declared.members.Seen.{Seen}

abbrev pub from_symbol : List SymId → SymId → Hiding → (List SymId → Seen) → Seen
from_symbol found symbol hiding.Joins next = next (found ++ symbol ∷ [])
from_symbol found symbol hiding.Hides next = record { symbols = found ++ symbol ∷ []; hidden = true; declared = false }
from_symbol found symbol hiding.Declares next = record { symbols = symbol ∷ []; hidden = true; declared = true }

abbrev pub from_member : World → List SymId → Option SymId → (List SymId → Seen) → Seen
from_member w found None next = next found
from_member w found (Some symbol) next = from_symbol found symbol (w.members.hiding symbol) next

-- where some joined so far
abbrev pub seen_from : World → List SymId → List ClassId → NameId → Seen
seen_from w found [] name = record { symbols = found; hidden = false; declared = false }
seen_from w found (c ∷ cs) name = from_member w found (own_member_of w.classes c name) (λ more. seen_from w more cs name)

abbrev pub after : List SymId → Seen → Seen
after found seen = record { symbols = if seen.declared then seen.symbols else found ++ seen.symbols; hidden = seen.hidden; declared = seen.declared }

one_more : (found : List SymId) (symbol : SymId) (syms : List SymId) (declared : Bool)
    → (if declared then syms else (found ++ symbol ∷ []) ++ syms) ≡ (if declared then (if declared then syms else symbol ∷ syms) else found ++ (if declared then syms else symbol ∷ syms))
one_more found symbol syms true = refl
one_more found symbol syms false = append_assoc found (symbol ∷ []) syms

joins : (found : List SymId) (symbol : SymId) (rest : Seen) → after (found ++ symbol ∷ []) rest ≡ after found (joined_to symbol rest)
joins found symbol rest = ap (λ syms. record { symbols = syms; hidden = rest.hidden; declared = rest.declared }) (one_more found symbol rest.symbols rest.declared)

by_hiding : (found : List SymId) (symbol : SymId) (h : Hiding) (next : List SymId → Seen) (rest : Seen) → ((more : List SymId) → next more ≡ after more rest)
    → from_symbol found symbol h next ≡ after found (seen_first symbol h rest)
by_hiding found symbol hiding.Joins next rest is = is (found ++ symbol ∷ []) ∙ joins found symbol rest
by_hiding found symbol hiding.Hides next rest is = refl
by_hiding found symbol hiding.Declares next rest is = refl

by_member : (w : World) (found : List SymId) (own : Option SymId) (next : List SymId → Seen) (syms : List SymId) → ((more : List SymId) → next more ≡ after more (seen_of w syms))
    → from_member w found own next ≡ after found (seen_of w (with_symbol own syms))
by_member w found None next syms is = is found
by_member w found (Some symbol) next syms is = by_hiding found symbol (w.members.hiding symbol) next (seen_of w syms) is

seen_after : (w : World) (found : List SymId) (order : List ClassId) (name : NameId) → seen_from w found order name ≡ after found (seen_in w order name)
seen_after w found [] name = ap (λ syms. record { symbols = syms; hidden = false; declared = false }) (sym (append-nil found))
seen_after w found (c ∷ cs) name = by_member w found (own_member_of w.classes c name) (λ more. seen_from w more cs name) (symbols_of w cs name) (λ more. seen_after w more cs name)

first_hiding : (symbol : SymId) (h : Hiding) (next : List SymId → Seen) (rest : Seen) → ((more : List SymId) → next more ≡ after more rest)
    → from_symbol [] symbol h next ≡ seen_first symbol h rest
first_hiding symbol hiding.Joins next rest is = is (symbol ∷ [])
first_hiding symbol hiding.Hides next rest is = refl
first_hiding symbol hiding.Declares next rest is = refl

first_member : (w : World) (own : Option SymId) (next : List SymId → Seen) (syms : List SymId) → ((more : List SymId) → next more ≡ after more (seen_of w syms)) → next [] ≡ seen_of w syms
    → from_member w [] own next ≡ seen_of w (with_symbol own syms)
first_member w None next syms is none = none
first_member w (Some symbol) next syms is none = first_hiding symbol (w.members.hiding symbol) next (seen_of w syms) is

pub seen_from_nothing : (w : World) (order : List ClassId) (name : NameId) → seen_from w [] order name ≡ seen_in w order name
seen_from_nothing w [] name = refl
seen_from_nothing w (c ∷ cs) name =
    first_member w (own_member_of w.classes c name) (λ more. seen_from w more cs name) (symbols_of w cs name) (λ more. seen_after w more cs name) (seen_from_nothing w cs name)
