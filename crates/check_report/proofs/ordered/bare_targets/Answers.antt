use Rattle.check_report.proofs.Prelude.{Bor, flat_map-map, map, sym, take, [], ◌+◌, ◌∙◌}
use Rattle.check_report.specs.Order.{bare_of}
use Rattle.check_report.specs.declared.value.Broken.{Broken}
use Rattle.check_report.proofs.Adding.{flat_more}
use Rattle.check_report.proofs.ordered.bare_targets.Goals as goal

pub loop-target-preserved : goal.loop-target-preserved
loop-target-preserved c =
    let of = λ (t : Bor Broken). t.now in
    let targets = c.args.targets.now in
    let k = c.loop-target.target-index in
    flat_more (λ (t : Bor Broken). bare_of t.now) [] (map of c.loop-target.bare.items) (map of c.push_bare.new.bare.items) targets k c.target-item.result c.loop-target-test.true c.target-item.is
    (c.loop-target.invariant ∙ flat_map-map bare_of of (take k targets)) c.in_ok-push_bare.ensures
    ∙ sym (flat_map-map bare_of of (take (k + 1) targets))
