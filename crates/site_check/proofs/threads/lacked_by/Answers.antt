use Rattle.site_check.proofs.AllLacked.{lacked_joined}
use Rattle.site_check.specs.Documents.{AreSearchable}
use Rattle.site_check.proofs.threads.lacked_by.Goals as goal

pub returns : goal.returns
returns g c =
    let site = c.args.site in
    let pages = site.pages in
    lacked_joined pages.anchors.now pages.aliases.now site.files.now pages.results.now (AreSearchable site.files.now pages) c.args.count c.in_ok-chunks.chunks.items c.joined.result c.in_ok-chunks.ensures.len c.in_ok-chunks.ensures.lacks
    c.joined.ensures.items c.joined.ensures.succeed
