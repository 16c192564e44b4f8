use Rattle.crawl_certificate.proofs.Prelude.{false, not, get_or, ap, Entry, url_of}
use Rattle.crawl_certificate.proofs.LeastUrls.{entry_more, entries_all}
use Rattle.crawl_certificate.proofs.Places.{mark_of}
use Rattle.crawl_certificate.proofs.missing.least_unmarked.Goals as goal

pub loop-index-preserved : goal.loop-index-preserved
loop-index-preserved c = λ marked is.
    let x = c.index-entries-index.result in
    let all = c.args.entries.now in
    let k = c.loop-index.index in
    let m = mark_of (λ (e : Entry). marked e.url) all c.args.marks.now k x false is c.loop-index-test.true c.index-entries-index.is in
    entry_more (λ e. not (marked e.url)) all k x (not (get_or c.args.marks.now k false)) (url_of c.loop-index.least) (url_of c.culprit_if-one.result) (url_of c.lesser-least.result)
    c.loop-index-test.true c.index-entries-index.is (ap not m) c.culprit_if-one.ensures c.lesser-least.ensures (c.loop-index.invariant marked is)

pub returns : goal.returns
returns c = λ marked is. entries_all (λ e. not (marked e.url)) c.args.entries.now c.loop-index.index (url_of c.loop-index.least) c.loop-index-test.false (c.loop-index.invariant marked is)
