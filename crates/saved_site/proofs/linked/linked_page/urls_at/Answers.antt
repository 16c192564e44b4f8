use Rattle.std.proofs.Common.{refl}
use Rattle.saved_site.proofs.LedPages.{urls_more}
use Rattle.saved_site.proofs.linked.linked_page.urls_at.Goals as goal

pub loop-index-preserved : goal.loop-index-preserved
loop-index-preserved c =
    urls_more c.args.urls.now c.args.indices.now c.loop-index.index-index _ c.loop-index.links.items c.push_url.new.links.items c.loop-index-test.true refl c.loop-index.invariant c.in_ok-push_url.ensures
