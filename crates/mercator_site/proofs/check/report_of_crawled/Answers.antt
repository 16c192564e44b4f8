use Rattle.mercator_site.proofs.Prelude.{map, row_of}
use Rattle.std.specs.Prelude.{option_map}
use Rattle.mercator_site.proofs.check.report_of_crawled.Goals as goal

pub returns-clause-findings : goal.returns-clause-findings
returns-clause-findings g c = record {
  missing = c.in_ok-is_wrong.ensures.none c.if-is_wrong.false;
  checked = c.in_ok-checked.checked;
  results = c.in_ok-checked.ensures;
  others = option_map (λ urls. map row_of urls.items) c.in_ok-others.others;
  are_others = c.in_ok-others.ensures;
  report = c.in_ok-report.ensures;
}
