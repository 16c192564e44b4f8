use Rattle.check_report.proofs.Prelude.{ap, code, codes, counted, counted_some, plain, ◌++◌, ◌∙◌}
use Rattle.check_report.proofs.Adding.{then_ok}
use Rattle.check_report.proofs.as_text.put_broken_total.Goals as goal

pub returns : goal.returns
returns c =
    let t = c.args.totals in
    let colour = c.args.colour in
    then_ok c.put_all.result
    (λ is. is
    ∙ ap (λ w. c.args.out.now.items
    ++ (code colour w ++ counted (codes "broken links ") t.broken_links ++ code colour plain ++ counted (codes ", missing pages ") t.broken_urls ++ counted (codes ", missing anchors ") t.broken_anchors
    ++ counted_some (codes ", invalid links ") t.invalid_links ++ counted_some (codes ", leaving links ") t.leaving_links ++ codes "\n")) c.verdict.ensures)
    c.put_all.ensures
