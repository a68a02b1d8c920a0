use Rattle.std.proofs.Common.{refl, ap, ◌∙◌, arith, length, map}
use Rattle.std.proofs.lemmas.Option.{slice_get_read}
use Rattle.py_scopes.specs.Occurrences.{first_ids}
use Rattle.py_scopes.specs.Tables.{no_annotation}
use Rattle.py_scopes.proofs.Outward.{all-dropped, length-made}
use Rattle.py_scopes.proofs.Passes.{annotations-start, annotations-next, annotations-end}
use Rattle.py_scopes.proofs.build.annotations.Goals as goal

pub loop-occurrence-init : goal.loop-occurrence-init
loop-occurrence-init c =
    let keys = c.args.numbers.now.keys in
    let made = c.in_ok-earliest.ensures ∙ ap (λ n. map no_annotation (first_ids n)) c.len.ensures.len in
    record {
      rest = annotations-start c.args.instances.now c.occurrences-all.result.now keys c.in_ok-earliest.earliest c.occurrences-all.ensures made;
      count = ap length made ∙ length-made no_annotation (length keys);
    }

pub loop-occurrence-preserved : goal.loop-occurrence-preserved
loop-occurrence-preserved c =
    let all = c.occurrences-all.result.now in
    let o = c.occurrence-item.result in
    record {
      rest = annotations-next c.args.instances.now all c.args.numbers.now.keys c.loop-occurrence.occurrence-index o c.loop-occurrence.earliest c.add_annotation.new.earliest
          (slice_get_read all (length all) c.loop-occurrence.occurrence-index o refl (omega arith) c.occurrence-item.is) c.add_annotation.ensures.adds c.loop-occurrence.invariant.rest;
      count = c.add_annotation.ensures.count ∙ c.loop-occurrence.invariant.count;
    }

pub returns : goal.returns
returns c =
    let all = c.occurrences-all.result.now in
    annotations-end c.args.instances.now _ c.args.numbers.now.keys c.loop-occurrence.earliest (all-dropped all c.loop-occurrence.occurrence-index (omega arith)) c.loop-occurrence.invariant.count c.loop-occurrence.invariant.rest
