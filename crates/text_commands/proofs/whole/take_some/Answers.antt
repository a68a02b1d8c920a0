use Rattle.std.proofs.Common.{◌≡◌, length, rules}
use Rattle.text_commands.proofs.Taking.{takes_piece}
use Rattle.text_commands.proofs.whole.take_some.Goals as goal

pub returns-in-Ok-fill-clause-takes : goal.returns-in-Ok-fill-clause-takes
returns-in-Ok-fill-clause-takes g c =
    let len : c.len-len.result ≡ length c.args.bytes.now.items = search rules in
    takes_piece c.args.bytes.now.items c.fill.new.bytes.items c.truncate.new.self.items c.args.room (rw (len, c.in-Ok.ensures.ok) at c.in-Ok-fill.ensures.kept) (rw c.in-Ok.ensures.ok at c.in-Ok-fill.ensures.whole) c.in-Ok-fill.count _ _ _
    (rw (len, c.in-Ok.ensures.ok) at c.in-Ok-fill.ensures.within) (rw len at c.in-Ok-fill.ensures.bytes) c.in-Ok-fill.ensures.ended (rw len at c.truncate.ensures.items)
