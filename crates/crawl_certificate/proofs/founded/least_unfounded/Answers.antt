use Rattle.crawl_certificate.proofs.Prelude.{◌==◌, Bool, false, not, ◌&&◌, ap, ◌∙◌, if◌then◌else◌, Entry, allows, url_of, is_in}
use Rattle.crawl_certificate.proofs.LeastUrls.{entry_more, entries_all}
use Rattle.crawl_certificate.proofs.Places.{mark_of}
use Rattle.crawl_certificate.proofs.founded.least_unfounded.Goals as goal

pub loop-index-preserved : goal.loop-index-preserved
loop-index-preserved c = λ linked is.
    let x = c.index-entries-index.result in
    let all = c.args.entries.now in
    let k = c.loop-index.index in
    let founded : Bool → Bool = λ b. allows c.args.filter.now x.now.url && (if x.now.hops == 0 then is_in c.args.seeds.now x.now.url else b) in
    let test : Entry → Bool = λ e. not (allows c.args.filter.now e.url && (if e.hops == 0 then is_in c.args.seeds.now e.url else linked e)) in
    let m = mark_of linked all c.args.marks.now k x false is c.loop-index-test.true c.index-entries-index.is in
    entry_more test all k x (not c.is_founded-founded.result) (url_of c.loop-index.least) (url_of c.culprit_if-one.result) (url_of c.lesser-least.result)
    c.loop-index-test.true c.index-entries-index.is (ap not (c.is_founded-founded.ensures ∙ ap founded m)) c.culprit_if-one.ensures c.lesser-least.ensures (c.loop-index.invariant linked is)

pub returns : goal.returns
returns c = λ linked is.
    entries_all (λ e. not (allows c.args.filter.now e.url && (if e.hops == 0 then is_in c.args.seeds.now e.url else linked e))) c.args.entries.now c.loop-index.index (url_of c.loop-index.least) c.loop-index-test.false (c.loop-index.invariant linked is)
