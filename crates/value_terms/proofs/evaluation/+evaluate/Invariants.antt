use Rattle.std.proofs.Common.{◌≡◌, ◌+◌, ◌*◌, ◌≤◌, drop, length}
use Rattle.value_terms.specs.Ranks.{part_rank}
use Rattle.value_terms.specs.Told.{gathered, parts_told, rows_told}
use Rattle.value_terms.proofs.RankLemmas.{deepest}
use Rattle.value_terms.proofs.ToldLemmas.{LeadsTo}
use Rattle.value_terms.proofs.evaluation.+evaluate.Given as goal

-- all parts, one of them, the members of its key, one of these, whose parts go less deep
abbrev pub decreases-add_parts : goal.decreases-add_parts
decreases-add_parts g l = 4 * deepest (g.R.Rows.rank l.rows.now) l.parts + 3

abbrev pub decreases-add_part : goal.decreases-add_part
decreases-add_part g l = 4 * part_rank (g.R.Rows.rank l.rows.now) l.part + 2

abbrev pub decreases-add_rows : goal.decreases-add_rows
decreases-add_rows g l = 4 * g.R.Rows.rank l.rows.now l.row.now + 5

abbrev pub decreases-add_row : goal.decreases-add_row
decreases-add_row g l = 4 * g.R.Rows.rank l.rows.now l.row.now + 4

abbrev pub decreases-add_parts-loop-part : goal.decreases-add_parts-loop-part
decreases-add_parts-loop-part g l = length l.left

-- what is left to be said makes up the whole
abbrev pub invariant-add_parts-loop-part : goal.invariant-add_parts-loop-part
invariant-add_parts-loop-part g l =
    let s = g.T.Types.assignment l.initial.types in
    record {
      same : g.T.Types.assignment l.types ≡ s;
      leads : LeadsTo (parts_told (g.R.Rows.rule l.rows) l.left s) (parts_told (g.R.Rows.rule l.rows) l.initial.left s)
          (gathered l.atoms.items l.fault (g.T.Types.asked l.types)) (gathered l.initial.atoms.items l.initial.fault (g.T.Types.asked l.initial.types));
      deep : deepest (g.R.Rows.rank l.rows) l.left ≤ deepest (g.R.Rows.rank l.rows) l.initial.left;
      stays : g.T.Types.stays l.initial.types l.types;
      later : g.T.Types.seen l.initial.types ≤ g.T.Types.seen l.types;
    }

abbrev pub invariant-add_rows-loop-member : goal.invariant-add_rows-loop-member
invariant-add_rows-loop-member g l =
    let s = g.T.Types.assignment l.initial.types in
    record {
      same : g.T.Types.assignment l.types ≡ s;
      leads : LeadsTo (rows_told (g.R.Rows.rule l.rows) l.row (drop l.member-index l.members) s) (rows_told (g.R.Rows.rule l.rows) l.row l.members s)
          (gathered l.atoms.items l.fault (g.T.Types.asked l.types)) (gathered l.initial.atoms.items l.initial.fault (g.T.Types.asked l.initial.types));
      stays : g.T.Types.stays l.initial.types l.types;
      later : g.T.Types.seen l.initial.types ≤ g.T.Types.seen l.types;
    }
