use Rattle.std.proofs.Common.{◌≡◌, ◌≤◌, ◌++◌, length, drop}
use Rattle.std.specs.List.{filter}
use Rattle.type_terms.specs.Text.{IsLooked, keeps, kept}
use Rattle.type_terms.specs.View.{meaning_of}
use Rattle.type_terms.proofs.shown.first_members.Given as goal

-- the members found, and those that are kept behind them
abbrev pub invariant-loop-atom : goal.invariant-loop-atom
invariant-loop-atom g l =
    let m = meaning_of (g.V.Types.assignment l.view) (g.V.Names.names l.view) (g.V.Facts.facts l.view) (g.V.View.view l.view) in
    record {
      all : l.atom-items ≡ l.ty;
      looked : IsLooked m l.ty l.looked;
      few : length l.members.items ≤ l.most;
      found : l.members.items ++ filter (keeps m l.ty) (drop l.atom-index l.ty) ≡ kept m l.ty;
    }
