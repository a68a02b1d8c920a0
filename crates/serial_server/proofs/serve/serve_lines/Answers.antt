use Rattle.std.proofs.Common.{◌≡◌, ◌∙◌, inl, inr, refl, arith, false, true, ap, sym, ◌+◌}
use Rattle.session_core.specs.Journal.{says_end}
use Rattle.serial_server.specs.Bytes.{read_bytes}
use Rattle.serial_server.proofs.Sessions.{marks, begins, hands_line, few_lines, counts_line, goes_on, stops_at_end, stops_read_fault, stops_too_long, stops_reading, stops_ended, stops_within}
use Rattle.serial_server.proofs.serve.serve_lines.Goals as goal

pub lines-init : goal.lines-init
lines-init g c = record {
  so_far = begins _ _ c.args.reader.now c.args.session.now _ _ c.requires.session c.requires.new;
  counted = ap (λ v. v.state.taken) c.requires.session;
  within = (let n = c.requires.new.taken in omega arith);
  most = c.requires.new.most;
  fault = c.requires.new.fault;
  at_end = inl (refl, c.requires.new.at_end);
  reads = refl;
  writes = refl;
}

pub returns-in-Ok-None-clause-account : goal.returns-in-Ok-None-clause-account
returns-in-Ok-None-clause-account g c =
    stops_at_end _ _ c.lines.reader c.lines.session _ _ _ _ c.lines.invariant.so_far c.next_line.new.self _ (rw c.in-Ok-None.field-0-is at (c.in-Ok-None.ensures.answer c.lines.invariant.fault))

pub returns-in-Err-ReadFault-clause-account : goal.returns-in-Err-ReadFault-clause-account
returns-in-Err-ReadFault-clause-account g c =
    stops_read_fault _ _ c.lines.reader c.lines.session _ _ _ _ c.lines.invariant.so_far c.next_line.new.self _ (rw c.in-Err-ReadFault.field-0-is at (c.in-Err-ReadFault.ensures.answer c.lines.invariant.fault))

pub returns-in-Err-TooLong-clause-account : goal.returns-in-Err-TooLong-clause-account
returns-in-Err-TooLong-clause-account g c =
    stops_too_long _ _ c.lines.reader c.lines.session _ _ _ _ c.lines.invariant.so_far c.next_line.new.self _ (c.next_line.ensures.most ∙ c.lines.invariant.most) (rw c.in-Err-TooLong.field-0-is at (c.in-Err-TooLong.ensures.answer c.lines.invariant.fault))

pub returns-in-Err-Memory-clause-account : goal.returns-in-Err-Memory-clause-account
returns-in-Err-Memory-clause-account g c =
    stops_reading _ _ c.lines.reader c.lines.session _ _ _ _ c.lines.invariant.so_far c.next_line.new.self _ (rw c.in-Err-Memory.field-0-is at (c.in-Err-Memory.ensures.answer c.lines.invariant.fault))

pub serve_line-requires : goal.serve_line-requires
serve_line-requires g c =
    let far = c.lines.invariant.so_far in
    let answer = rw c.in-Ok-Some.field-0-is at (c.in-Ok-Some.ensures.answer c.lines.invariant.fault) in
    let (line, is, _) = answer.cuts far.handed.bytes far.lines far.handed.cut in
    let handed = hands_line far.lines c.in-Ok-Some.line c.lines.reader c.next_line.new.self _ _ _ far.handed answer in
    record {
      rest = far.at_rest;
      fresh = far.fresh;
      going = far.going;
      few = (let few = few_lines far.lines line c.next_line.new.self _ _ handed c.next_line.ensures.within (c.next_line.ensures.most ∙ c.lines.invariant.most) in rw far.number few);
    }

pub returns-in-Ok-true-clause-account : goal.returns-in-Ok-true-clause-account
returns-in-Ok-true-clause-account g c =
    let far = c.lines.invariant.so_far in
    let answer = rw c.in-Ok-Some.field-0-is at (c.in-Ok-Some.ensures.answer c.lines.invariant.fault) in
    let (line, is, _) = answer.cuts far.handed.bytes far.lines far.handed.cut in
    let handed = hands_line far.lines c.in-Ok-Some.line c.lines.reader c.next_line.new.self _ _ _ far.handed answer in
    let last : says_end (read_bytes line) ≡ true = sym (c.in-Ok-true.ensures.ends line is) ∙ c.in-Ok-true.field-0-test in
    stops_ended _ _ line c.lines.reader c.next_line.new.self c.lines.session c.serve_line.new.session _ _ _ _ _ _ far handed (c.in-Ok-true.ensures.ok line is) last

pub returns-in-Err-WriteFault-clause-account : goal.returns-in-Err-WriteFault-clause-account
returns-in-Err-WriteFault-clause-account g c =
    let far = c.lines.invariant.so_far in
    let answer = rw c.in-Ok-Some.field-0-is at (c.in-Ok-Some.ensures.answer c.lines.invariant.fault) in
    let (line, is, _) = answer.cuts far.handed.bytes far.lines far.handed.cut in
    let handed = hands_line far.lines c.in-Ok-Some.line c.lines.reader c.next_line.new.self _ _ _ far.handed answer in
    stops_within _ _ line c.lines.reader c.next_line.new.self c.lines.session c.serve_line.new.session _ _ _ _ _ _ far handed _ (inl refl) (c.in-Err-WriteFault.ensures.err line is)

pub returns-in-Err-Memory-serve_line-clause-account : goal.returns-in-Err-Memory-serve_line-clause-account
returns-in-Err-Memory-serve_line-clause-account g c =
    let far = c.lines.invariant.so_far in
    let answer = rw c.in-Ok-Some.field-0-is at (c.in-Ok-Some.ensures.answer c.lines.invariant.fault) in
    let (line, is, _) = answer.cuts far.handed.bytes far.lines far.handed.cut in
    let handed = hands_line far.lines c.in-Ok-Some.line c.lines.reader c.next_line.new.self _ _ _ far.handed answer in
    stops_within _ _ line c.lines.reader c.next_line.new.self c.lines.session c.serve_line.new.session _ _ _ _ _ _ far handed _ (inr refl) (c.in-Err-Memory-serve_line.ensures.err line is)

pub lines-preserved : goal.lines-preserved
lines-preserved g c =
    let far = c.lines.invariant.so_far in
    let answer = rw c.in-Ok-Some.field-0-is at (c.in-Ok-Some.ensures.answer c.lines.invariant.fault) in
    let (line, is, _) = answer.cuts far.handed.bytes far.lines far.handed.cut in
    let handed = hands_line far.lines c.in-Ok-Some.line c.lines.reader c.next_line.new.self _ _ _ far.handed answer in
    let more : says_end (read_bytes line) ≡ false = sym (c.in-Ok-false.ensures.ends line is) ∙ c.in-Ok-false.field-0-test in
    let next = goes_on _ _ line c.lines.reader c.next_line.new.self c.lines.session c.serve_line.new.session _ _ _ _ _ _ far handed (c.in-Ok-false.ensures.ok line is) more in
    record {
      so_far = next;
      counted = counts_line _ _ line c.lines.reader c.next_line.new.self c.lines.session c.serve_line.new.session _ _ _ _ _ _ far handed (c.in-Ok-false.ensures.ok line is) ∙ ap (λ n. n + 1) c.lines.invariant.counted;
      within = c.next_line.ensures.within;
      most = c.next_line.ensures.most ∙ c.lines.invariant.most;
      fault = c.in-Ok-Some.ensures.fault;
      at_end = marks g.S.Source.ended c.args.source.now _ _ _ _ c.lines.invariant.at_end c.next_line.ensures.ends;
      reads = c.next_line.ensures.quiet (λ e. cc (c.in-Ok-Some.is)) ∙ c.lines.invariant.reads;
      writes = c.serve_line.ensures.quiet (λ e. cc (c.in-Ok-false.is)) ∙ c.lines.invariant.writes;
    }

pub returns-in-Ok-None-clause-at_end : goal.returns-in-Ok-None-clause-at_end
returns-in-Ok-None-clause-at_end g c = marks g.S.Source.ended c.args.source.now _ _ _ _ c.lines.invariant.at_end c.next_line.ensures.ends

pub returns-in-Err-ReadFault-clause-at_end : goal.returns-in-Err-ReadFault-clause-at_end
returns-in-Err-ReadFault-clause-at_end g c = marks g.S.Source.ended c.args.source.now _ _ _ _ c.lines.invariant.at_end c.next_line.ensures.ends

pub returns-in-Err-TooLong-clause-at_end : goal.returns-in-Err-TooLong-clause-at_end
returns-in-Err-TooLong-clause-at_end g c = marks g.S.Source.ended c.args.source.now _ _ _ _ c.lines.invariant.at_end c.next_line.ensures.ends

pub returns-in-Err-Memory-clause-at_end : goal.returns-in-Err-Memory-clause-at_end
returns-in-Err-Memory-clause-at_end g c = marks g.S.Source.ended c.args.source.now _ _ _ _ c.lines.invariant.at_end c.next_line.ensures.ends

pub returns-in-Ok-true-clause-at_end : goal.returns-in-Ok-true-clause-at_end
returns-in-Ok-true-clause-at_end g c = marks g.S.Source.ended c.args.source.now _ _ _ _ c.lines.invariant.at_end c.next_line.ensures.ends

pub returns-in-Err-WriteFault-clause-at_end : goal.returns-in-Err-WriteFault-clause-at_end
returns-in-Err-WriteFault-clause-at_end g c = marks g.S.Source.ended c.args.source.now _ _ _ _ c.lines.invariant.at_end c.next_line.ensures.ends

pub returns-in-Err-Memory-serve_line-clause-at_end : goal.returns-in-Err-Memory-serve_line-clause-at_end
returns-in-Err-Memory-serve_line-clause-at_end g c = marks g.S.Source.ended c.args.source.now _ _ _ _ c.lines.invariant.at_end c.next_line.ensures.ends

pub returns-in-Err-ReadFault-clause-below : goal.returns-in-Err-ReadFault-clause-below
returns-in-Err-ReadFault-clause-below g c =
    let far = c.lines.invariant.so_far in
    let answer = rw c.in-Err-ReadFault.field-0-is at (c.in-Err-ReadFault.ensures.answer c.lines.invariant.fault) in
    let less = (answer.cuts far.handed.bytes far.lines far.handed.cut).1 in
    λ _. omega (arith, less, c.next_line.ensures.most, c.lines.invariant.most)
