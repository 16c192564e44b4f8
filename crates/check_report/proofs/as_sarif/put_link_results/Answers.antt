use Rattle.check_report.proofs.Prelude.{◌∙◌}
use Rattle.json.specs.Tree.{json_tokens}
use Rattle.check_report.specs.Order.{link_of}
use Rattle.check_report.specs.declared.ordered.Link.{Link}
use Rattle.check_report.specs.Sarif.{link_result}
use Rattle.check_report.proofs.Adding.{flat_more}
use Rattle.check_report.proofs.as_sarif.put_link_results.Goals as goal

pub loop-link-preserved : goal.loop-link-preserved
loop-link-preserved c = record {
  tokens =
      flat_more (λ (k : Link). json_tokens (link_result c.args.contents (link_of k))) c.args.out.now.tokens c.loop-link.out.tokens c.put_link.new.out.tokens c.args.links.now c.loop-link.link-index c.link-item.result
      c.loop-link-test.true c.link-item.is c.loop-link.invariant.tokens c.in_ok-put_link.ensures.tokens;
  before = c.in_ok-put_link.ensures.before ∙ c.loop-link.invariant.before;
}
