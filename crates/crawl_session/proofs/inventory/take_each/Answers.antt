use Rattle.crawl_session.specs.Listing.{taken_one}
use Rattle.crawl_session.proofs.Rebuilding.{collects_row}
use Rattle.crawl_session.proofs.inventory.take_each.Goals as goal

pub loop-url-preserved : goal.loop-url-preserved
loop-url-preserved c =
    rw (c.in_ok-push_url.ensures) (collects_row (λ mid _. taken_one c.args.queue mid) c.loop-url._url c.args.session.now c.loop-url.session c.take.new.session c.loop-url.urls.items c.in_ok-row.row c.loop-url.invariant c.in_ok-row.ensures)
