use Rattle.std.proofs.Common.{◌≡◌, ◌∙◌, inl, inr, refl, arith, false, true}
use Rattle.serial_session.specs.Journal.{is_end_line}
use Rattle.serial_session.proofs.Ends.{marks}
use Rattle.serial_session.proofs.Sessions.{begins, hands_line, goes_on, stops_at_end, stops_read_fault, stops_too_long, stops_reading, stops_ended, stops_within}
use Rattle.serial_session.proofs.serve.serve_lines.Goals as goal

pub lines-init : goal.lines-init
lines-init g c = record {
  so_far = rw (c.requires.journal, c.requires.opened) (begins c.args.reader.now _ _ c.requires.new);
  within = (let n = c.requires.new.taken in omega arith);
  most = c.requires.new.most;
  fault = c.requires.new.fault;
  at_end = inl (refl, c.requires.new.at_end);
  reads = refl;
  writes = refl;
}

pub returns-in-Ok-None-clause-account : goal.returns-in-Ok-None-clause-account
returns-in-Ok-None-clause-account g c =
    stops_at_end c.lines.number c.lines.reader c.next_line.new.self _ _ _ _ _ _ _ c.lines.invariant.so_far (rw c.in-Ok-None.field-0-is at (c.in-Ok-None.ensures.answer c.lines.invariant.fault))

pub returns-in-Err-ReadFault-clause-account : goal.returns-in-Err-ReadFault-clause-account
returns-in-Err-ReadFault-clause-account g c =
    stops_read_fault c.lines.number c.lines.reader c.next_line.new.self _ _ _ _ _ _ _ c.lines.invariant.so_far (rw c.in-Err-ReadFault.field-0-is at (c.in-Err-ReadFault.ensures.answer c.lines.invariant.fault))

pub returns-in-Err-TooLong-clause-account : goal.returns-in-Err-TooLong-clause-account
returns-in-Err-TooLong-clause-account g c =
    stops_too_long c.lines.number c.lines.reader c.next_line.new.self _ _ _ _ _ _ _ (c.next_line.ensures.most ∙ c.lines.invariant.most) c.lines.invariant.so_far (rw c.in-Err-TooLong.field-0-is at (c.in-Err-TooLong.ensures.answer c.lines.invariant.fault))

pub returns-in-Err-Memory-clause-account : goal.returns-in-Err-Memory-clause-account
returns-in-Err-Memory-clause-account g c =
    stops_reading c.lines.number c.lines.reader c.next_line.new.self _ _ _ _ _ _ _ c.lines.invariant.so_far (rw c.in-Err-Memory.field-0-is at (c.in-Err-Memory.ensures.answer c.lines.invariant.fault))

pub returns-in-Ok-true-clause-account : goal.returns-in-Ok-true-clause-account
returns-in-Ok-true-clause-account g c =
    let far = c.lines.invariant.so_far in
    let answer = rw c.in-Ok-Some.field-0-is at (c.in-Ok-Some.ensures.answer c.lines.invariant.fault) in
    let (line, is, _) = answer.cuts far.handed.bytes far.lines far.handed.cut in
    let handed = hands_line far.lines c.in-Ok-Some.line c.lines.reader c.next_line.new.self _ _ _ far.handed answer in
    let took = c.in-Ok-true.ensures.took line is in
    let last : is_end_line line ≡ true = cc (took.0) in
    stops_ended c.lines.number line c.lines.reader c.next_line.new.self _ _ _ _ _ _ _ _ _ far handed last took.1 took.2

pub returns-in-Err-WriteFault-clause-account : goal.returns-in-Err-WriteFault-clause-account
returns-in-Err-WriteFault-clause-account g c =
    let far = c.lines.invariant.so_far in
    let answer = rw c.in-Ok-Some.field-0-is at (c.in-Ok-Some.ensures.answer c.lines.invariant.fault) in
    let (line, is, _) = answer.cuts far.handed.bytes far.lines far.handed.cut in
    let handed = hands_line far.lines c.in-Ok-Some.line c.lines.reader c.next_line.new.self _ _ _ far.handed answer in
    stops_within _ c.lines.number line c.lines.reader c.next_line.new.self _ _ _ _ _ _ _ _ _ (inl refl) far handed (c.in-Err-WriteFault.ensures.took line is)

pub returns-in-Err-Memory-take_line-clause-account : goal.returns-in-Err-Memory-take_line-clause-account
returns-in-Err-Memory-take_line-clause-account g c =
    let far = c.lines.invariant.so_far in
    let answer = rw c.in-Ok-Some.field-0-is at (c.in-Ok-Some.ensures.answer c.lines.invariant.fault) in
    let (line, is, _) = answer.cuts far.handed.bytes far.lines far.handed.cut in
    let handed = hands_line far.lines c.in-Ok-Some.line c.lines.reader c.next_line.new.self _ _ _ far.handed answer in
    stops_within _ c.lines.number line c.lines.reader c.next_line.new.self _ _ _ _ _ _ _ _ _ (inr refl) far handed (c.in-Err-Memory-take_line.ensures.took line is)

pub lines-preserved : goal.lines-preserved
lines-preserved g c =
    let far = c.lines.invariant.so_far in
    let answer = rw c.in-Ok-Some.field-0-is at (c.in-Ok-Some.ensures.answer c.lines.invariant.fault) in
    let (line, is, _) = answer.cuts far.handed.bytes far.lines far.handed.cut in
    let handed = hands_line far.lines c.in-Ok-Some.line c.lines.reader c.next_line.new.self _ _ _ far.handed answer in
    let took = c.in-Ok-false.ensures.took line is in
    let more : is_end_line line ≡ false = cc (took.0) in
    record {
      so_far = goes_on c.lines.number line c.lines.reader c.next_line.new.self _ _ _ _ _ _ _ _ _ _ far handed more took.1 took.2 (c.in-Ok-false.ensures.opened line is);
      within = c.next_line.ensures.within;
      most = c.next_line.ensures.most ∙ c.lines.invariant.most;
      fault = c.in-Ok-Some.ensures.fault;
      at_end = marks g.S.Source.ended c.args.source.now _ _ _ _ c.lines.invariant.at_end c.next_line.ensures.ends;
      reads = c.next_line.ensures.quiet (λ e. cc (c.in-Ok-Some.is)) ∙ c.lines.invariant.reads;
      writes = c.take_line.ensures.quiet (λ e. cc (c.in-Ok-false.is)) ∙ c.lines.invariant.writes;
    }

pub returns-in-Ok-None-clause-at_end : goal.returns-in-Ok-None-clause-at_end
returns-in-Ok-None-clause-at_end g c = marks g.S.Source.ended c.args.source.now _ _ _ _ c.lines.invariant.at_end c.next_line.ensures.ends

pub returns-in-Err-ReadFault-clause-at_end : goal.returns-in-Err-ReadFault-clause-at_end
returns-in-Err-ReadFault-clause-at_end g c = marks g.S.Source.ended c.args.source.now _ _ _ _ c.lines.invariant.at_end c.next_line.ensures.ends

pub returns-in-Err-TooLong-clause-at_end : goal.returns-in-Err-TooLong-clause-at_end
returns-in-Err-TooLong-clause-at_end g c = marks g.S.Source.ended c.args.source.now _ _ _ _ c.lines.invariant.at_end c.next_line.ensures.ends

pub returns-in-Err-Memory-clause-at_end : goal.returns-in-Err-Memory-clause-at_end
returns-in-Err-Memory-clause-at_end g c = marks g.S.Source.ended c.args.source.now _ _ _ _ c.lines.invariant.at_end c.next_line.ensures.ends

pub returns-in-Ok-true-clause-at_end : goal.returns-in-Ok-true-clause-at_end
returns-in-Ok-true-clause-at_end g c = marks g.S.Source.ended c.args.source.now _ _ _ _ c.lines.invariant.at_end c.next_line.ensures.ends

pub returns-in-Err-WriteFault-clause-at_end : goal.returns-in-Err-WriteFault-clause-at_end
returns-in-Err-WriteFault-clause-at_end g c = marks g.S.Source.ended c.args.source.now _ _ _ _ c.lines.invariant.at_end c.next_line.ensures.ends

pub returns-in-Err-Memory-take_line-clause-at_end : goal.returns-in-Err-Memory-take_line-clause-at_end
returns-in-Err-Memory-take_line-clause-at_end g c = marks g.S.Source.ended c.args.source.now _ _ _ _ c.lines.invariant.at_end c.next_line.ensures.ends

pub returns-in-Err-ReadFault-clause-below : goal.returns-in-Err-ReadFault-clause-below
returns-in-Err-ReadFault-clause-below g c =
    let far = c.lines.invariant.so_far in
    let answer = rw c.in-Err-ReadFault.field-0-is at (c.in-Err-ReadFault.ensures.answer c.lines.invariant.fault) in
    let less = (answer.cuts far.handed.bytes far.lines far.handed.cut).1 in
    λ _. omega (arith, less, c.next_line.ensures.most, c.lines.invariant.most)
