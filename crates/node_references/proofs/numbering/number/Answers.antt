use Rattle.std.proofs.Common.{◌≡◌, false, rules}
use Rattle.std.specs.List.{list_any}
use Rattle.node_references.specs.contracts.numbering.LinkPartialEq.TheImpl.{eq-value}
use Rattle.node_references.proofs.Links.{new_at, new_linked, keeps_snoc, grows_by}
use Rattle.node_references.proofs.numbering.number.Goals as goal

pub returns-clause-at : goal.returns-clause-at
returns-clause-at c =
    let (r, of, pushed) = c.in_ok-push_link.ensures in
    let off : list_any (eq-value.it c.args.link) c.args.numbering.now.links.keys ≡ false = search (c.in_ok-at.ensures.added, c.if-not-is_new.false, rules) in (
      r,
      new_at c.args.numbering.now.links.keys c.insert_full.new.self.keys c.args.numbering.now.list c.push_link.new.list c.args.link r c.in_ok-at.at
          c.requires.linked off c.in_ok-at.ensures.keys pushed c.in_ok-at.ensures.stored,
      of,
    )

pub returns-clause-alone : goal.returns-clause-alone
returns-clause-alone c =
    let (r, of, pushed) = c.in_ok-push_link.ensures in
    grows_by c.args.numbering.now.list c.push_link.new.list r (record { 0 = c.in_ok-at.at }) pushed
    (new_at c.args.numbering.now.links.keys c.insert_full.new.self.keys c.args.numbering.now.list c.push_link.new.list c.args.link r c.in_ok-at.at
    c.requires.linked (search (c.in_ok-at.ensures.added, c.if-not-is_new.false, rules)) c.in_ok-at.ensures.keys pushed c.in_ok-at.ensures.stored)

pub returns-clause-keeps : goal.returns-clause-keeps
returns-clause-keeps c = let (r, of, pushed) = c.in_ok-push_link.ensures in keeps_snoc c.args.numbering.now.list c.push_link.new.list r pushed

pub returns-clause-linked : goal.returns-clause-linked
returns-clause-linked c =
    let (r, of, pushed) = c.in_ok-push_link.ensures in
    let off : list_any (eq-value.it c.args.link) c.args.numbering.now.links.keys ≡ false = search (c.in_ok-at.ensures.added, c.if-not-is_new.false, rules) in
    new_linked c.args.numbering.now.links.keys c.insert_full.new.self.keys c.args.numbering.now.list c.push_link.new.list c.args.link r
    c.requires.linked off of c.in_ok-at.ensures.keys pushed
