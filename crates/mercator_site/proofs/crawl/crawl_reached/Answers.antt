use Rattle.mercator_site.proofs.Prelude.{[], Ok, map, string_bytes, sym, ◌∙◌, err_from_is_err_and, page_at}
use Rattle.std.proofs.Common.{append-nil}
use Rattle.mercator_site.proofs.TopCrawls.{starts_in, top_crawl}
use Rattle.mercator_site.proofs.crawl.crawl_reached.Goals as goal

pub returns-clause-found : goal.returns-clause-found
returns-clause-found g c = λ web source.
    let top = c.args.top.now in
    let reachable = c.args.settings.reachable in
    let links = map string_bytes c.args.settings.seeds.now in
    let meaning = page_at c.args.pages.now in
    let begun = c.in_ok-seeds.seeds.items in
    top_crawl (Ok c.in_ok-found.found) meaning top web reachable links begun [] _ source
    (starts_in meaning web top reachable links begun source c.in_ok-seeds.ensures.begun c.in_ok-seeds.ensures.own) (c.as_slice.ensures.value ∙ sym (append-nil begun)) c.in_ok-found.ensures.found

pub returns-in_err-found-clause-incomplete : goal.returns-in_err-found-clause-incomplete
returns-in_err-found-clause-incomplete g c =
    let r = c.from_residual-in_err-found in
    let same = err_from_is_err_and r.result r.ensures.1 in
    rw (same.1, same.2) (λ web source two. record {
      begun = c.in_ok-seeds.seeds.items;
      started = starts_in (page_at c.args.pages.now) web c.args.top.now c.args.settings.reachable (map string_bytes c.args.settings.seeds.now) _ source c.in_ok-seeds.ensures.begun c.in_ok-seeds.ensures.own;
      sound = source.sound;
      unfinished = c.in_err-found.ensures.incomplete two;
    })
