use Rattle.std.proofs.Common.{◌≡◌, Bool, true, sym, subst, ◌∙◌}
use Rattle.std.specs.List.{filter}
use Rattle.type_terms.specs.declared.atom.Atom.{Atom}
use Rattle.narrow_rules.specs.Ground.{is_under}
use Rattle.narrow_rules.proofs.ListLemmas.{on_err, one_kept}
use Rattle.narrow_rules.proofs.RowLemmas.{others_of}
use Rattle.narrow_rules.proofs.written.those_under.Goals as goal

pub returns-in_err-copy-clause-free : goal.returns-in_err-copy-clause-free
returns-in_err-copy-clause-free c =
    let members = c.args.members.now in
    let p : Atom → Bool = λ member. is_under c.args.classes.now member c.args.atom.now in
    let x = c.member-item.result in
    let e : p x ≡ true = sym c.is_under.ensures ∙ c.if-is_under.true in
    on_err _ (others_of (filter p members) (one_kept p members c.loop-member.member-index x c.loop-member-test.true (subst (λ y. p y ≡ true) c.member-item.is e)))

pub returns-in_err-push-clause-free : goal.returns-in_err-push-clause-free
returns-in_err-push-clause-free c =
    let members = c.args.members.now in
    let p : Atom → Bool = λ member. is_under c.args.classes.now member c.args.atom.now in
    let x = c.member-item.result in
    let e : p x ≡ true = sym c.is_under.ensures ∙ c.if-is_under.true in
    on_err _ (others_of (filter p members) (one_kept p members c.loop-member.member-index x c.loop-member-test.true (subst (λ y. p y ≡ true) c.member-item.is e)))
