use Rattle.crawl_certificate.proofs.Prelude.{◌≡◌, ◌+◌, true, Some, slice_get, subst, ◌∙◌, arith, is_linked, contains_url}
use Rattle.crawl_certificate.proofs.Walks.{linked_from, own_more, read_at, has_url_here}
use Rattle.crawl_certificate.proofs.walk.walk.Goals as goal

pub loop-index-preserved : goal.loop-index-preserved
loop-index-preserved c =
    let entries = c.args.chunk.accepted.now in
    let results = c.args.chunk.results.now in
    let first = c.args.chunk.first in
    let i = c.loop-index.index in
    let r = c.index-results-index.result in
    let before = c.in-Some.entry.now in
    let at = read_at results i r c.loop-index-test.true c.index-results-index.is in
    let kept = c.loop-index.invariant in
    record {
      long = c.walk_page.ensures.long ∙ kept.long;
      own = λ fits.
          let index : c.saturating_add.result ≡ first + i = omega (arith, c.saturating_add.ensures, fits, c.loop-index-test.true) in
          let there = subst (λ j. slice_get entries j ≡ Some before) index c.in-Some.ensures.0 in
          own_more entries first results i r (kept.own fits) at (has_url_here entries (first + i) before r.url there c.in-Some.ensures.1);
      marks = λ marked.
          c.walk_page.ensures.marks (is_linked entries results)
          (λ e link far. linked_from entries results i c.saturating_add.result r before at c.in-Some.ensures.0 c.in-Some.ensures.1 e (subst (λ ls. contains_url ls e.url ≡ true) c.links_of-links.ensures link) far)
          (kept.marks marked);
    }
