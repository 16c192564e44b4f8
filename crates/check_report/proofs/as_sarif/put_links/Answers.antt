use Rattle.check_report.proofs.Prelude.{List, ap, flat_map, ◌++◌, ◌∙◌}
use Rattle.json.specs.Tree.{json_tokens}
use Rattle.check_report.specs.Order.{link_of}
use Rattle.check_report.specs.Sarif.{link_result}
use Rattle.check_report.specs.declared.ordered.Link.{Link}
use Rattle.check_report.proofs.Adding.{then_ok}
use Rattle.check_report.proofs.Results.{links_written}
use Rattle.check_report.proofs.as_sarif.put_links.Goals as goal

pub returns-clause-tokens : goal.returns-clause-tokens
returns-clause-tokens c =
    let written = λ (ls : List Link). flat_map (λ (l : Link). json_tokens (link_result c.args.contents (link_of l))) ls in
    then_ok c.put_link_results.result
    (λ is. is ∙ ap (λ ts. c.args.out.now.tokens ++ ts) (ap written c.as_slice.ensures.value ∙ links_written c.args.contents c.in_ok-links.links.items _ c.in_ok-links.ensures)) c.put_link_results.ensures.tokens
