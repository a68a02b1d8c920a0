-- An outcome's type as one term.
use Rattle.std.proofs.Common.{◌≡◌, [], ◌++◌, refl, ap, ◌∙◌, append-nil}
use Rattle.value_terms.specs.Term.{Assignment, eval, reads}
use Rattle.value_terms.specs.Outcome.{Outcome, named, type_term}
use Rattle.value_terms.proofs.ListLemmas.{flat_none}

module _ {K A : Type 0} where
  pub type_term_gives : (o : Outcome K A) (s : Assignment K A) → eval (type_term o) s ≡ eval o.gives s
  type_term_gives o s = ap (λ xs. eval o.gives s ++ xs) (flat_none (λ a. []) (λ a. refl) (eval o.fails s)) ∙ append-nil (eval o.gives s)

  pub type_term_names : (o : Outcome K A) (s : Assignment K A) → reads (type_term o) s ≡ named o s
  type_term_names o s = ap (λ ks. reads o.gives s ++ (reads o.fails s ++ ks)) (flat_none (λ a. []) (λ a. refl) (eval o.fails s)) ∙ ap (λ ks. reads o.gives s ++ ks) (append-nil (reads o.fails s))
