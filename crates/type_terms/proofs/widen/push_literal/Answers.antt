use Rattle.type_terms.proofs.WidenLemmas.{last_pushed}
use Rattle.type_terms.proofs.widen.push_literal.Goals as goal

pub returns-in-Int-clause-last : goal.returns-in-Int-clause-last
returns-in-Int-clause-last g c = last_pushed c.push.result (g.F.Names.names c.args.facts.now) c.args.last.now c.args.atoms.now.items c.push.new.atoms.items _ c.requires c.push.ensures

pub returns-in-Bool-clause-last : goal.returns-in-Bool-clause-last
returns-in-Bool-clause-last g c = last_pushed c.push_bools.result (g.F.Names.names c.args.facts.now) c.args.last.now c.args.atoms.now.items c.push_bools.new.atoms.items _ c.requires c.push_bools.ensures

pub returns-in-Str-clause-last : goal.returns-in-Str-clause-last
returns-in-Str-clause-last g c = last_pushed c.push-in-Str.result (g.F.Names.names c.args.facts.now) c.args.last.now c.args.atoms.now.items c.push-in-Str.new.atoms.items _ c.requires c.push-in-Str.ensures

pub returns-in-Bytes-clause-last : goal.returns-in-Bytes-clause-last
returns-in-Bytes-clause-last g c = last_pushed c.push-in-Bytes.result (g.F.Names.names c.args.facts.now) c.args.last.now c.args.atoms.now.items c.push-in-Bytes.new.atoms.items _ c.requires c.push-in-Bytes.ensures
