use Rattle.site_check.proofs.Prelude.{◌∙◌, totals_by}
use Rattle.site_check.proofs.totals.totals_of.Goals as goal

pub returns : goal.returns
returns c =
    c.totals_by-totals.ensures
    ∙ (λ i. totals_by (λ url. c.in_ok-others.ensures url i) (λ url. c.in_ok-texts.ensures url i) c.args.results.now c.args.broken.now c.args.redirects.now)
