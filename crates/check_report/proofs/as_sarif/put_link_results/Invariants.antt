use Rattle.check_report.proofs.Prelude.{◌≡◌, ◌++◌, flat_map, take}
use Rattle.json.specs.Tree.{json_tokens}
use Rattle.check_report.specs.Order.{link_of}
use Rattle.check_report.specs.declared.ordered.Link.{Link}
use Rattle.check_report.specs.Sarif.{link_result}
use Rattle.check_report.proofs.as_sarif.put_link_results.Given as goal

abbrev pub invariant-loop-link : goal.invariant-loop-link
invariant-loop-link l = record {
  tokens : l.out.tokens ≡ l.fn.out.tokens ++ flat_map (λ (k : Link). json_tokens (link_result l.fn.contents (link_of k))) (take l.link-index l.links);
  before : l.out.before ≡ l.fn.out.before;
}
