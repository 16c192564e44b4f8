use Rattle.crawl_certificate.proofs.Prelude.{◌≡◌, ◌+◌, ◌==◌, true, false, ◌&&◌, ◌||◌, map, set, get_or, Option, Some, sym, ap, ◌∙◌, Entry, contains_url, url_if}
use native.Mathlib.Omega.{arith}
use Rattle.crawl_certificate.proofs.Places.{maps_agree, after_marks, after_no_marks, fetched_before, fetched_marked}
use Rattle.crawl_certificate.proofs.marks.mark_result.Goals as goal

pub returns-in-Some-clause-fetched : goal.returns-in-Some-clause-fetched
returns-in-Some-clause-fetched c = λ known is.
    ap (λ ms. set ms c.in-Some.index true) is ∙ fetched_marked c.args.accepted.now c.args.one.now.url c.in-Some.index c.in-Some.ensures.found known

pub returns-in-Some-clause-linked : goal.returns-in-Some-clause-linked
returns-in-Some-clause-linked c = λ known is.
    let entries = c.args.accepted.now in
    let before = c.entry-entry.result.now in
    c.mark_links-missing.ensures.linked known is
    ∙ ap (λ ls. map (λ (e : Entry). known e || (contains_url ls e.url && e.hops == before.hops + 1)) entries) c.links_of-links.ensures
    ∙ after_marks entries c.args.one.now c.in-Some.index c.in-Some.ensures.found before c.entry-entry.ensures known

pub returns-in-None-clause-fetched : goal.returns-in-None-clause-fetched
returns-in-None-clause-fetched c = grind (arith, maps_agree)

pub returns-in-None-clause-linked : goal.returns-in-None-clause-linked
returns-in-None-clause-linked c = λ known is.
    is ∙ after_no_marks c.args.accepted.now c.args.one.now c.in-None.ensures.found known

pub returns-in-Some-clause-twice : goal.returns-in-Some-clause-twice
returns-in-Some-clause-twice c = λ known is none.
    let entries = c.args.accepted.now in
    let url = c.args.one.now.url in
    let index = c.in-Some.index in
    let found = c.in-Some.ensures.found in
    let both : ◌≡◌ {A = Option Entry} (Some found.0.0) (Some c.entry-entry.result.now) = sym found.0.1 ∙ c.entry-entry.ensures in
    let same : found.0.0 ≡ c.entry-entry.result.now = cc in
    let text : c.entry-entry.result.now.url ≡ url = sym (ap (λ (e : Entry). e.url) same) ∙ found.0.2 in
    let before = ap (λ ms. get_or ms index false) is ∙ fetched_before entries url index found known false in
    c.culprit_if.ensures ∙ (λ i. url_if (before i) (text i))
