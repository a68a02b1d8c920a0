use Rattle.std.proofs.Common.{List, length, subst, ◌∙◌}
use Rattle.std.specs.List.Sorted.{IsSearchInRange, IsBinarySearchResult}
use Rattle.type_terms.specs.declared.atom.Atom.{Atom}
use Rattle.type_terms.specs.Order.{atom_cmp}
use Rattle.type_terms.proofs.TypeLaws.{searched}
use Rattle.type_terms.proofs.types.Type.contains.Goals as goal

pub returns : goal.returns
returns c =
    let atom = c.args.atom.now in
    let answer = c.binary_search.result in
    let WithinOf : List Atom → Type 0 = λ xs. IsSearchInRange answer (length xs) in
    let FoundIn : List Atom → Type 0 = λ xs. IsBinarySearchResult (λ member. atom_cmp member atom) xs answer in
    c.is_ok.ensures.value
    ∙ rw (← c.self.view_is) (searched c.self.inside.members atom answer c.self.invariant
    (subst WithinOf c.as_slice.ensures c.binary_search.ensures.bound) (subst FoundIn c.as_slice.ensures c.binary_search.ensures.position))
