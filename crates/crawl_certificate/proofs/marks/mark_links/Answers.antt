use Rattle.crawl_certificate.proofs.Prelude.{◌+◌, ◌==◌, Bool, ◌&&◌, ◌||◌, [], ◌∷◌, ◌++◌, map, take, sym, ap, ◌∙◌, take_more, Entry, allows, contains_url, is_lost, url_of}
use Rattle.crawl_certificate.proofs.LeastUrls.{text_more}
use Rattle.crawl_certificate.proofs.Places.{marks_push}
use Rattle.crawl_certificate.proofs.marks.mark_links.Goals as goal

pub loop-link-preserved : goal.loop-link-preserved
loop-link-preserved c =
    let links = c.args.links.now in
    let entries = c.args.accepted.now in
    let i = c.loop-link.link-index in
    let link = c.link-item.result in
    let test : Entry → Bool = λ e. e.hops == c.args.hops + 1 in
    let more = ap (λ x. take i links ++ x ∷ []) c.link-item.is ∙ sym (take_more links i link c.loop-link-test.true) in
    record {
      linked = λ known is.
          c.mark-one.ensures.linked (λ e. known e || (contains_url (take i links) e.url && test e)) (c.loop-link.invariant.linked known is)
          ∙ marks_push entries (take i links) link known test
          ∙ ap (λ ls. map (λ (e : Entry). known e || (contains_url ls e.url && test e)) entries) more;
      missing =
          text_more (is_lost (allows c.args.filter.now) entries) links i link (url_of c.loop-link.missing) (url_of c.mark-one.result) (url_of c.lesser-missing.result)
          c.loop-link-test.true c.link-item.is c.mark-one.ensures.missing c.lesser-missing.ensures c.loop-link.invariant.missing;
    }
