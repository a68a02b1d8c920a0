-- The texts of types with one member or none.
use Rattle.std.proofs.Common.{◌≡◌, ℕ, ℤ, false, true, List, [], ◌∷◌, ◌++◌, refl, ap, ◌∙◌}
use Rattle.std.specs.Prelude.{codes}
use Rattle.std.specs.List.{flat_map}
use Rattle.std.proofs.lemmas.List.{append-nil}
use Rattle.py_base.specs.Builtins.{id_of}
use Rattle.py_base.specs.declared.builtin.Builtin.TheVariants as builtin
use Rattle.type_terms.specs.declared.literal.Literal.{Literal}
use Rattle.type_terms.specs.declared.literal.Literal.TheVariants as literal
use Rattle.type_terms.specs.declared.atom.Atom.{Atom}
use Rattle.type_terms.specs.declared.atom.Atom.TheVariants as atom
use Rattle.type_terms.specs.declared.show.Shown.TheVariants.{Itself}
use Rattle.type_terms.specs.LiteralText.{literal_text}
use Rattle.type_terms.specs.Order.{atom_cmp}
use Rattle.type_terms.specs.Pieces.{said, atom_pieces}
use Rattle.type_terms.specs.Text.{text, shown, shown_pieces, member_text, piece_text}
use Rattle.type_terms.specs.Types.{has}
use Rattle.type_terms.specs.View.{Meaning}
use Rattle.type_terms.proofs.KeyOf.{key-Lit, key-Inst}
use Rattle.type_terms.proofs.OutOf.{out-Lit, out-Unknown, out-None}

text-one : (m : Meaning) (a : Atom) (word : List ℕ) → shown m (a ∷ []) a ≡ Itself → atom_pieces m 64 a ≡ said word → text m 4 (a ∷ []) ≡ word
text-one m a word itself pieces =
    let opened : member_text m 3 (text m 3) (a ∷ []) a ≡ flat_map (piece_text m (text m 3)) (atom_pieces m 64 a) = ap (λ s. flat_map (piece_text m (text m 3)) (shown_pieces m 3 a s)) itself in
    let kept : text m 4 (a ∷ []) ≡ flat_map (piece_text m (text m 3)) (atom_pieces m 64 a) ++ [] = rw itself (ap (λ w. w ++ []) opened) in
    kept ∙ append-nil (flat_map (piece_text m (text m 3)) (atom_pieces m 64 a)) ∙ ap (flat_map (piece_text m (text m 3))) pieces ∙ append-nil word

pub text-none : (m : Meaning) → text m 4 [] ≡ codes "Never"
text-none m = refl

shown-Unknown : (m : Meaning) (type : List Atom) → shown m type atom.Unknown ≡ Itself
unfolding shown
shown-Unknown m type = rw out-Unknown refl

pieces-Unknown : (m : Meaning) → atom_pieces m 64 atom.Unknown ≡ said (codes "Unknown")
unfolding atom_pieces
pieces-Unknown m = rw out-Unknown refl

pub text-Unknown : (m : Meaning) → text m 4 (atom.Unknown ∷ []) ≡ codes "Unknown"
text-Unknown m = text-one m atom.Unknown (codes "Unknown") (shown-Unknown m (atom.Unknown ∷ [])) (pieces-Unknown m)

shown-None : (m : Meaning) (type : List Atom) → shown m type atom.None ≡ Itself
unfolding shown
shown-None m type = rw out-None refl

pieces-None : (m : Meaning) → atom_pieces m 64 atom.None ≡ said (codes "None")
unfolding atom_pieces
pieces-None m = rw out-None refl

pub text-None : (m : Meaning) → text m 4 (atom.None ∷ []) ≡ codes "None"
text-None m = text-one m atom.None (codes "None") (shown-None m (atom.None ∷ [])) (pieces-None m)

pieces-Lit : (m : Meaning) (value : Literal) → atom_pieces m 64 (atom.Lit value) ≡ said (literal_text m value)
unfolding atom_pieces
pieces-Lit m value = rw (out-Lit value) refl

apart-Int : (z : ℤ) → has (atom.Lit (literal.Int z) ∷ []) (atom.Inst (id_of builtin.Int)) ≡ false
unfolding has atom_cmp
apart-Int z = rw (key-Inst (id_of builtin.Int), key-Lit (literal.Int z)) refl

apart-Str : (t : List ℕ) → has (atom.Lit (literal.Str t) ∷ []) (atom.Inst (id_of builtin.Str)) ≡ false
unfolding has atom_cmp
apart-Str t = rw (key-Inst (id_of builtin.Str), key-Lit (literal.Str t)) refl

apart-True : has (atom.Lit (literal.Bool true) ∷ []) (atom.Lit (literal.Bool false)) ≡ false
unfolding has atom_cmp
apart-True = rw (key-Lit (literal.Bool false), key-Lit (literal.Bool true)) refl

shown-Int : (m : Meaning) (z : ℤ) → shown m (atom.Lit (literal.Int z) ∷ []) (atom.Lit (literal.Int z)) ≡ Itself
unfolding shown
shown-Int m z = rw (out-Lit (literal.Int z), apart-Int z) refl

shown-Str : (m : Meaning) (t : List ℕ) → shown m (atom.Lit (literal.Str t) ∷ []) (atom.Lit (literal.Str t)) ≡ Itself
unfolding shown
shown-Str m t = rw (out-Lit (literal.Str t), apart-Str t) refl

shown-True : (m : Meaning) → shown m (atom.Lit (literal.Bool true) ∷ []) (atom.Lit (literal.Bool true)) ≡ Itself
unfolding shown
shown-True m = rw (out-Lit (literal.Bool true), apart-True) refl

pub text-Int : (m : Meaning) (z : ℤ) → text m 4 (atom.Lit (literal.Int z) ∷ []) ≡ literal_text m (literal.Int z)
text-Int m z = text-one m (atom.Lit (literal.Int z)) (literal_text m (literal.Int z)) (shown-Int m z) (pieces-Lit m (literal.Int z))

pub text-Str : (m : Meaning) (t : List ℕ) → text m 4 (atom.Lit (literal.Str t) ∷ []) ≡ literal_text m (literal.Str t)
text-Str m t = text-one m (atom.Lit (literal.Str t)) (literal_text m (literal.Str t)) (shown-Str m t) (pieces-Lit m (literal.Str t))

pub text-True : (m : Meaning) → text m 4 (atom.Lit (literal.Bool true) ∷ []) ≡ codes "Literal[True]"
text-True m = text-one m (atom.Lit (literal.Bool true)) (literal_text m (literal.Bool true)) (shown-True m) (pieces-Lit m (literal.Bool true))
