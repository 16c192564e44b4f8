use Rattle.check_report.proofs.Prelude.{Bor, map, []}
use Rattle.check_report.specs.Order.{link_of, links_to}
use Rattle.check_report.specs.declared.value.Broken.{Broken}
use Rattle.check_report.proofs.Adding.{flat_more}
use Rattle.check_report.proofs.ordered.links_to_all.Goals as goal

pub loop-target-preserved : goal.loop-target-preserved
loop-target-preserved c =
    flat_more (λ (t : Bor Broken). links_to c.args.all t.now) [] (map link_of c.loop-target.links.items) (map link_of c.push_links.new.links.items) c.args.targets.now c.loop-target.target-index c.target-item.result
    c.loop-target-test.true c.target-item.is c.loop-target.invariant c.in_ok-push_links.ensures
