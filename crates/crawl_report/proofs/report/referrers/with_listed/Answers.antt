use Rattle.crawl_report.proofs.Prelude.{◌∷◌, map, ap, ◌∙◌, take_all, flat_map, PageResult, pointed, count_of, url_among, lines_at}
use Rattle.crawl_report.specs.Lines as line
use Rattle.crawl_report.proofs.Adding.{adds_none, adds_same, listed_more}
use Rattle.crawl_report.proofs.Sets.{lines_counted}
use Rattle.crawl_report.proofs.report.referrers.with_listed.Goals as goal

pub tally_of-tally-requires : goal.tally_of-tally-requires
tally_of-tally-requires c = c.requires c.one-item.result.now.url (url_among c.args.listed.now c.loop-one.one-index c.one-item.result c.loop-one-test.true c.one-item.is)

pub loop-one-init : goal.loop-one-init
loop-one-init c = λ results tallied. adds_none c.args.out

pub loop-one-preserved : goal.loop-one-preserved
loop-one-preserved c = λ results tallied.
    let x = c.one-item.result in
    let url = x.now.url in
    let tally = c.tally_of-tally.result.now in
    listed_more (λ (r : PageResult). lines_at c.args.all results r.url) c.args.out c.loop-one.out c.in_ok-out.out c.args.listed.now c.loop-one.one-index x c.loop-one-test.true c.one-item.is
    (c.loop-one.invariant results tallied)
    (adds_same c.loop-one.out c.in_ok-out.out _ _
    (ap (λ u. line.from tally.count tally.page u ∷ map (λ page. line.link page u) tally.all) c.as_str-url.ensures.value
    ∙ lines_counted c.args.all results url (count_of c.args.tallies.now url) tally c.tally_of-tally.ensures (tallied url))
    c.in_ok-out.ensures)

pub returns : goal.returns
returns c = λ results tallied.
    adds_same c.args.out c.loop-one.out _ _ (ap (λ xs. flat_map (λ (r : PageResult). lines_at c.args.all results r.url) (pointed xs)) (take_all c.loop-one.one-index c.args.listed.now c.loop-one-test.false))
    (c.loop-one.invariant results tallied)
