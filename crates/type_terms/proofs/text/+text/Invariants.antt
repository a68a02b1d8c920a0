use Rattle.std.proofs.Common.{◌≡◌, ◌+◌, ◌*◌, ◌≤◌, take, map, string_bytes}
use Rattle.std.specs.List.{flat_map}
use Rattle.type_terms.specs.Asked.{AsksSome}
use Rattle.type_terms.specs.Text.{piece_text, piece_keys, member_text, member_keys, text, text_keys, distinct}
use Rattle.type_terms.specs.View.{meaning_of}
use Rattle.type_terms.proofs.text.+text.Given as goal

-- a type, its members together, each for itself, one of them, its pieces, one of these, and the type that
-- it stands for, which has a level less
abbrev pub decreases-text_of : goal.decreases-text_of
decreases-text_of g l = 7 * l.levels

abbrev pub decreases-typed_text : goal.decreases-typed_text
decreases-typed_text g l = 7 * l.levels + 1

abbrev pub decreases-piece_text : goal.decreases-piece_text
decreases-piece_text g l = 7 * l.levels + 2

abbrev pub decreases-pieces_text : goal.decreases-pieces_text
decreases-pieces_text g l = 7 * l.levels + 3

abbrev pub decreases-member_text : goal.decreases-member_text
decreases-member_text g l = 7 * l.levels + 4

abbrev pub decreases-member_texts : goal.decreases-member_texts
decreases-member_texts g l = 7 * l.levels + 5

abbrev pub decreases-members_text : goal.decreases-members_text
decreases-members_text g l = 7 * l.levels + 6

-- the pieces before this one are written, and what they name may have been asked
abbrev pub invariant-pieces_text-loop-piece : goal.invariant-pieces_text-loop-piece
invariant-pieces_text-loop-piece g l =
    let m = meaning_of (g.V.Types.assignment l.initial.view) (g.V.Names.names l.initial.view) (g.V.Facts.facts l.initial.view) (g.V.View.view l.initial.view) in
    record {
      same : meaning_of (g.V.Types.assignment l.view) (g.V.Names.names l.view) (g.V.Facts.facts l.view) (g.V.View.view l.view) ≡ m;
      written : string_bytes l.all ≡ flat_map (piece_text m (text m l.levels)) (take l.piece-index l.pieces);
      asked : AsksSome (g.V.Types.asked l.initial.view) (flat_map (piece_keys m l.levels (text_keys m l.levels)) (take l.piece-index l.pieces)) (g.V.Types.asked l.view);
      stays : g.V.Types.stays l.initial.view l.view;
      later : g.V.Types.seen l.initial.view ≤ g.V.Types.seen l.view;
    }

-- the members before this one are written, each text once
abbrev pub invariant-member_texts-loop-member : goal.invariant-member_texts-loop-member
invariant-member_texts-loop-member g l =
    let m = meaning_of (g.V.Types.assignment l.initial.view) (g.V.Names.names l.initial.view) (g.V.Facts.facts l.initial.view) (g.V.View.view l.initial.view) in
    record {
      same : meaning_of (g.V.Types.assignment l.view) (g.V.Names.names l.view) (g.V.Facts.facts l.view) (g.V.View.view l.view) ≡ m;
      written : l.texts ≡ distinct (map (member_text m l.levels (text m l.levels) l.ty) (take l.member-index l.members));
      asked : AsksSome (g.V.Types.asked l.initial.view) (flat_map (member_keys m l.levels (text_keys m l.levels) l.ty) (take l.member-index l.members)) (g.V.Types.asked l.view);
      stays : g.V.Types.stays l.initial.view l.view;
      later : g.V.Types.seen l.initial.view ≤ g.V.Types.seen l.view;
    }
