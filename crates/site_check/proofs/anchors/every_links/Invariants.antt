use Rattle.site_check.proofs.Prelude.{◌≡◌, map, take}
use Rattle.site_check.specs.Complete.{is_taken}
use Rattle.site_check.specs.Documents.{AreSearchable, document_of, kept_by}
use Rattle.site_check.specs.LackedLinks.{links_from, links_of}
use Rattle.site_check.proofs.anchors.every_links.Given as goal

abbrev pub invariant-loop-source : goal.invariant-loop-source
invariant-loop-source l =
    AreSearchable l.files l.pages →
    map links_of l.all.items ≡ links_from (document_of l.pages.anchors.now l.pages.aliases.now l.files l.pages.results.now) (kept_by l.pages.anchors.now (is_taken l.of l.rest)) 0 (take l.source l.pages.results.now)
