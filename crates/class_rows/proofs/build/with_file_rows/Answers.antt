use Rattle.std.proofs.Common.{◌<◌, ◌+◌, ℕ, List, [], ◌∷◌, ◌++◌, length, take, subst, sym, ap, ◌∙◌, arith}
use Rattle.std.proofs.lemmas.List.{take_more, length_push}
use Rattle.class_rows.specs.declared.head.ClassHead.{ClassHead}
use Rattle.class_rows.specs.Classes.{class_of, known}
use Rattle.class_rows.specs.Rows.{ClassRow, IsRow, order_of}
use Rattle.class_rows.specs.Waits.{AreBelow}
use Rattle.class_rows.proofs.BuiltinRows.{built_builtins}
use Rattle.class_rows.proofs.KnownBases.{or_object_below}
use Rattle.class_rows.proofs.Growing.{IsBuilt, built_more}
use Rattle.class_rows.proofs.build.with_file_rows.Goals as goal

pub loop-head-init : goal.loop-head-init
loop-head-init c =
    let P : List ClassRow → Type 0 = IsBuilt [] in
    record {
      built = subst P (sym c.requires.builtin) built_builtins;
      count = ap length c.requires.builtin;
      places = c.requires.places;
      held = c.requires.held;
      clear = c.requires.clear;
    }

pub loop-head-preserved : goal.loop-head-preserved
loop-head-preserved c =
    let heads = c.args.heads.now in
    let i = c.loop-head.head-index in
    let head = c.head-item.result in
    let rows = c.loop-head.rows in
    let within : i < length heads = omega arith in
    let B : ClassHead → Type 0 = λ h. AreBelow (53 + i) (known h.bases) in
    let N : ℕ → Type 0 = λ n. AreBelow n (class_of head).bases in
    let known_below = subst B (sym c.head-item.is) (c.requires.earlier i head within) in
    let below = subst N (sym c.loop-head.invariant.count) (or_object_below (53 + i) (known head.bases) (omega arith) known_below) in
    let Q : List ClassRow → Type 0 = λ rs. IsRow (order_of rs) (record { 0 = length rs }) (class_of head) c.in_ok-row.row in
    let more = built_more (take i heads) head rows c.in_ok-row.row c.loop-head.invariant.built (omega (arith, c.loop-head.invariant.count)) below (subst Q c.as_slice.ensures c.in_ok-row.ensures.row) in
    let H : List ClassHead → Type 0 = λ hs. IsBuilt hs c.push.new.self in
    let R : List ClassRow → Type 0 = IsBuilt (take i heads ++ head ∷ []) in
    let taken = take_more heads i head within ∙ ap (λ h. take i heads ++ h ∷ []) (sym c.head-item.is) in
    record {
      built = subst H (sym taken) (subst R (sym c.in_ok-push.ensures.ok) more);
      count = ap length c.in_ok-push.ensures.ok ∙ length_push rows c.in_ok-row.row ∙ omega (arith, c.loop-head.invariant.count);
      places = c.file_row.ensures.length ∙ c.loop-head.invariant.places;
      held = c.file_row.ensures.holders ∙ c.loop-head.invariant.held;
      clear = c.in_ok-row.ensures.clear;
    }
