use Rattle.std.proofs.Common.{◌∙◌}
use Rattle.crawl_certificate.proofs.Walks.{has_url_at_place}
use Rattle.crawl_certificate.proofs.walk.walk_page.Goals as goal

pub loop-link-preserved : goal.loop-link-preserved
loop-link-preserved c =
    let before = c.loop-link.invariant in
    let link = c.link-item.result in
    record {
      long = c.mark_next.ensures.long ∙ before.long;
      marks = λ holds fits marked.
          c.mark_next.ensures.marks holds (λ e same far. fits e (has_url_at_place c.args.links.now c.loop-link.link-index link e.url c.loop-link-test.true c.link-item.is same) far) (before.marks holds fits marked);
    }
