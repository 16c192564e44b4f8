use Rattle.check_report.proofs.Prelude.{Bor, ap, map, map_more, sym, [], ◌∷◌, ◌++◌, ◌∙◌}
use Rattle.std.proofs.lemmas.List.{map-append}
use Rattle.check_report.specs.declared.ordered.Named.{Named}
use Rattle.check_report.specs.declared.value.Broken.{Broken}
use Rattle.check_report.proofs.ordered.targets_of.Goals as goal

pub loop-one-preserved : goal.loop-one-preserved
loop-one-preserved c =
    let of = λ (t : Bor Broken). t.now in
    let named = λ (n : Named). n.broken.now in
    let one = c.one-item.result in
    ap (map of) c.in_ok-push.ensures.items ∙ map-append of c.loop-one.all.items (one.broken ∷ []) ∙ (λ i. c.loop-one.invariant i ++ ap named c.one-item.is i ∷ [])
    ∙ sym (map_more named c.args.named.now c.loop-one.one-index one c.loop-one-test.true)
