use Rattle.check_report.specs.Junit.{link_case}
use Rattle.check_report.specs.Order.{link_of}
use Rattle.check_report.specs.declared.ordered.Link.{Link}
use Rattle.check_report.proofs.Adding.{flat_more}
use Rattle.check_report.proofs.as_junit.put_cases.Goals as goal

pub loop-link-preserved : goal.loop-link-preserved
loop-link-preserved c =
    flat_more (λ (k : Link). link_case c.args.folder.now (link_of k)) c.args.out.now.items c.loop-link.out.items c.put_link_case.new.out.items c.args.links.now c.loop-link.link-index c.link-item.result
    c.loop-link-test.true c.link-item.is c.loop-link.invariant c.in_ok-put_link_case.ensures
