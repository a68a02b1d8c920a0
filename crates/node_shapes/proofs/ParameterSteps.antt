-- Parameters by how many `/` stand from here on, and whether a star stood before.
use Rattle.std.proofs.Common.{◌≡◌, ℕ, suc, ◌-◌, nat_lt, Bool, true, false, ◌||◌, List, [], ◌∷◌, ◌++◌, length, filter, refl, sym, ◌∙◌, ap, lt-ltb, arith}
use Rattle.std.specs.Option.{option_to_list}
use Rattle.py_base.specs.declared.ids.NodeId.{NodeId}
use Rattle.py_base.specs.declared.node.Node.{Node}
use Rattle.py_base.specs.Nodes.{kind_at, parts_at}
use Rattle.node_shapes.specs.declared.parameters.Parameter.{Parameter}
use Rattle.node_shapes.specs.Parameters.{is_slash, is_star, has_kind, filled_by, parameter_by, parameters_among}

abbrev pub one_if : Bool → ℕ
one_if true = 1
one_if false = 0

abbrev pub parameters_with : List Node → ℕ → Bool → List NodeId → List Parameter
parameters_with nodes slashes star [] = []
parameters_with nodes slashes star (p ∷ behind) =
    option_to_list (parameter_by (filled_by (nat_lt 0 (slashes - one_if (is_slash (kind_at nodes p)))) star) p (kind_at nodes p) (parts_at nodes p)) ++ parameters_with nodes (slashes - one_if (is_slash (kind_at nodes p))) (star || is_star (kind_at nodes p)) behind

abbrev pub slashes_in : List Node → List NodeId → ℕ
slashes_in nodes ps = length (filter (λ p. is_slash (kind_at nodes p)) ps)

any_slash_at : (nodes : List Node) (p : NodeId) (ps : List NodeId) (b : Bool) → is_slash (kind_at nodes p) ≡ b → nat_lt 0 (slashes_in nodes ps) ≡ has_kind nodes is_slash ps → nat_lt 0 (slashes_in nodes (p ∷ ps)) ≡ has_kind nodes is_slash (p ∷ ps)
any_slash_at nodes p ps true e rest = rw e (lt-ltb 0 (suc (slashes_in nodes ps)) (omega arith))
any_slash_at nodes p ps false e rest = rw e rest

any_slash : (nodes : List Node) (ps : List NodeId) → nat_lt 0 (slashes_in nodes ps) ≡ has_kind nodes is_slash ps
any_slash nodes [] = refl
any_slash nodes (p ∷ ps) = any_slash_at nodes p ps (is_slash (kind_at nodes p)) refl (any_slash nodes ps)

behind_at : (nodes : List Node) (p : NodeId) (ps : List NodeId) (b : Bool) → is_slash (kind_at nodes p) ≡ b → slashes_in nodes (p ∷ ps) - one_if (is_slash (kind_at nodes p)) ≡ slashes_in nodes ps
behind_at nodes p ps true e = rw e (omega arith)
behind_at nodes p ps false e = rw e (omega arith)

slashes_behind : (nodes : List Node) (p : NodeId) (ps : List NodeId) → slashes_in nodes (p ∷ ps) - one_if (is_slash (kind_at nodes p)) ≡ slashes_in nodes ps
slashes_behind nodes p ps = behind_at nodes p ps (is_slash (kind_at nodes p)) refl

or_false : (b : Bool) → (b || false) ≡ b
or_false true = refl
or_false false = refl

or_assoc : (a b c : Bool) → ((a || b) || c) ≡ (a || (b || c))
or_assoc true b c = refl
or_assoc false b c = refl

star_until : (nodes : List Node) (before : List NodeId) (p : NodeId) → (has_kind nodes is_star before || is_star (kind_at nodes p)) ≡ has_kind nodes is_star (before ++ p ∷ [])
star_until nodes [] p = sym (or_false (is_star (kind_at nodes p)))
star_until nodes (x ∷ xs) p =
    or_assoc (is_star (kind_at nodes x)) (has_kind nodes is_star xs) (is_star (kind_at nodes p)) ∙ ap (λ b. is_star (kind_at nodes x) || b) (star_until nodes xs p)

parameters_with_all : (nodes : List Node) (before ps : List NodeId) → parameters_with nodes (slashes_in nodes ps) (has_kind nodes is_star before) ps ≡ parameters_among nodes before ps
parameters_with_all nodes before [] = refl
parameters_with_all nodes before (p ∷ ps) =
    rw (slashes_behind nodes p ps, any_slash nodes ps, star_until nodes before p, parameters_with_all nodes (before ++ p ∷ []) ps) refl

pub parameters_with_start : (nodes : List Node) (ps : List NodeId) → parameters_with nodes (slashes_in nodes ps) false ps ≡ parameters_among nodes [] ps
parameters_with_start nodes ps = parameters_with_all nodes [] ps
