-- Widened members as a type.
use Rattle.std.proofs.Common.{◌≡◌, List, [], ◌∷◌, ◌++◌, refl, sym, ap, subst, ◌∙◌}
use Rattle.std.specs.List.{flat_map}
use Rattle.std.proofs.lemmas.List.{append-nil}
use Rattle.py_base.specs.declared.ids.ClassId.{ClassId}
use Rattle.type_terms.specs.Facts.{NameTable}
use Rattle.type_terms.specs.Types.{type_of}
use Rattle.type_terms.specs.Widen.{all_members, level_widened, widen, widened}
use Rattle.type_terms.specs.declared.atom.Atom.{Atom}
use Rattle.type_terms.specs.declared.atom.Atom.TheVariants as atom
use Rattle.type_terms.specs.declared.literal.Literal.TheVariants as literal
use Rattle.value_terms.specs.Laws.{IsInside}
use Rattle.value_terms.specs.Told.{IsAlike}
use Rattle.value_terms.proofs.ToldLemmas.{alike_is, alike_then}
use Rattle.op_rules.proofs.OutOf.{out-Lit}

-- a member alone
pub widened_alone : ((xs : List Atom) → IsInside xs (type_of xs)) → ((xs : List Atom) → IsInside (type_of xs) xs) → (names : NameTable) (a : Atom) → IsAlike (widen names (a ∷ [])) (widened names a)
unfolding widen
widened_alone more fewer names a =
    let whole = widened names a ++ [] in
    alike_then (type_of whole) whole (widened names a) (fewer whole, more whole) (alike_is whole (widened names a) (append-nil (widened names a)))

-- the first member of an enum becomes all of them
first_is_all : (names : NameTable) (class : ClassId) → widened names (atom.Lit (literal.Member class 0)) ≡ all_members names class
unfolding widened
first_is_all names class = ap (level_widened names (atom.Lit (literal.Member class 0))) (out-Lit (literal.Member class 0))

pub all_of_first : ((xs : List Atom) → IsInside xs (type_of xs)) → ((xs : List Atom) → IsInside (type_of xs) xs) → (names : NameTable) (class : ClassId) → IsAlike (widen names (atom.Lit (literal.Member class 0) ∷ [])) (all_members names class)
all_of_first more fewer names class =
    subst (λ xs. IsAlike (widen names (atom.Lit (literal.Member class 0) ∷ [])) xs) (first_is_all names class) (widened_alone more fewer names (atom.Lit (literal.Member class 0)))
