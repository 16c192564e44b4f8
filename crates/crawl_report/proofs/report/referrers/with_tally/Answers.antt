use Rattle.crawl_report.proofs.Prelude.{[], ◌∷◌, map, pointed}
use Rattle.std.specs.Option.{option_map}
use Rattle.crawl_report.specs.Lines as line
use Rattle.crawl_report.proofs.Adding.{then_more}
use Rattle.crawl_report.proofs.report.referrers.with_tally.Goals as goal

pub returns : goal.returns
returns c =
    let url = c.args.url.now in
    then_more c.with_links.result c.args.out c.in_ok-out.out (line.from c.count.result (option_map (λ p. p.now) c.page.result) url ∷ []) (map (λ page. line.link page url) (pointed c.all.result.now)) _
    c.in_ok-out.ensures (λ i. line.from (c.count.ensures i) (c.page.ensures i) url ∷ map (λ page. line.link page url) (c.all.ensures i)) c.with_links.ensures
