use Rattle.crawl_session.proofs.Prelude.{take, ap, sym, ◌++◌, ◌∷◌, [], ◌∙◌}
use Rattle.std.proofs.lemmas.Result.{err_from_is_err_and}
use Rattle.std.proofs.lemmas.List.{take_more}
use Rattle.crawl_session.specs.Rebuilding.{done_url}
use Rattle.crawl_session.proofs.Rebuilding.{each_more, full_url}
use Rattle.crawl_session.proofs.rebuild.done_urls.Goals as goal

pub loop-url-preserved : goal.loop-url-preserved
loop-url-preserved g c =
    let written = g.O.Write.contents in
    let i = c.loop-url.url-index in
    let more = take_more c.args.urls.now i c.url-item.result c.loop-url-test.true in
    rw (c.in_ok-left_out.ensures, more, ← c.url-item.is)
    (each_more done_url (take i c.args.urls.now) c.url-item.result c.args.session.now c.loop-url.session c.done_url.new.session (written c.args.out.now) (written c.loop-url.out) (written c.done_url.new.out) c.loop-url.left_out c.in_ok-more.more c.loop-url.invariant c.in_ok-more.ensures.written)

pub returns-in_err-more-clause-full : goal.returns-in_err-more-clause-full
returns-in_err-more-clause-full g c =
    let written = g.O.Write.contents in
    let i = c.loop-url.url-index in
    let urls = c.args.urls.now in
    let more = take_more urls i c.url-item.result c.loop-url-test.true ∙ ap (λ u. take i urls ++ u ∷ []) (sym c.url-item.is) in
    let r = c.from_residual in
    let same = err_from_is_err_and r.result r.ensures.1 in
    rw (same.1, same.2) (λ is. full_url done_url urls i c.url-item.result c.args.session.now c.loop-url.session (written c.args.out.now) (written c.loop-url.out) c.loop-url.left_out more c.loop-url.invariant (c.in_err-more.ensures.full is))
