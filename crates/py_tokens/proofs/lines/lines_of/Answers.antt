use Rattle.std.proofs.Common.{arith, length, [], filter_map}
use Rattle.std.proofs.lemmas.List.Elements.{All-nil, All-same}
use Rattle.py_tokens.specs.Lines.{IsWithin, placed, mark, line_of, groups}
use Rattle.py_tokens.specs.Spans.{IsLineIn}
use Rattle.py_tokens.proofs.LineLaws.{told_none, told_all}
use Rattle.py_tokens.proofs.SpanLaws.{lines-in}
use Rattle.py_tokens.proofs.lines.lines_of.Goals as goal

pub loop-piece-init : goal.loop-piece-init
loop-piece-init c = record {
  told = told_none c.args.text.now c.new.result c.new-2.result.items c.args.start c.new-3.result.items (placed c.args.start c.args.pieces.now) c.new.ensures c.new-2.ensures.items c.new-3.ensures.items;
  within = All-same (IsWithin c.args.start (length c.args.text.now)) c.new-3.result.items [] c.new-3.ensures.items (All-nil (IsWithin c.args.start (length c.args.text.now)));
  start = omega arith;
  room = c.requires.within;
}

pub returns-clause-lines : goal.returns-clause-lines
returns-clause-lines c =
    told_all c.args.text.now c.loop-piece.lines.done c.end_line.new.lines.done (mark [] (filter_map (line_of c.args.text.now) (groups c.args.start (placed c.args.start c.args.pieces.now)))) c.loop-piece.lines.blocks.items c.end_line.new.lines.blocks.items c.loop-piece.lines.start c.loop-piece.at c.loop-piece.lines.line.items c.args.pieces.now c.loop-piece.piece-index c.loop-piece-test.false c.loop-piece.invariant.told (c.in_ok-end_line.ensures.told [])

pub returns-clause-within : goal.returns-clause-within
returns-clause-within c =
    let same = told_all c.args.text.now c.loop-piece.lines.done c.end_line.new.lines.done (mark [] (filter_map (line_of c.args.text.now) (groups c.args.start (placed c.args.start c.args.pieces.now)))) c.loop-piece.lines.blocks.items c.end_line.new.lines.blocks.items c.loop-piece.lines.start c.loop-piece.at c.loop-piece.lines.line.items c.args.pieces.now c.loop-piece.piece-index c.loop-piece-test.false c.loop-piece.invariant.told (c.in_ok-end_line.ensures.told []) in
    All-same (IsLineIn (length c.args.text.now)) c.end_line.new.lines.done (mark [] (filter_map (line_of c.args.text.now) (groups c.args.start (placed c.args.start c.args.pieces.now)))) same
    (lines-in c.args.text.now c.args.start c.args.pieces.now c.requires.within)
