use Rattle.site_check.proofs.Prelude.{◌∙◌, ap, map, option_map}
use Rattle.site_check.proofs.LackedFound.{results_step}
use Rattle.site_check.specs.Complete.{is_taken}
use Rattle.site_check.specs.Documents.{document_of, kept_by, kept_if}
use Rattle.site_check.specs.LackedLinks.{links_of}
use Rattle.site_check.proofs.anchors.every_links.Goals as goal

pub loop-source-preserved : goal.loop-source-preserved
loop-source-preserved c = λ s.
    let pages = c.args.pages in
    let documents = pages.anchors.now in
    let one = c.one-item.result in
    results_step (document_of documents pages.aliases.now c.args.files.now pages.results.now) (kept_by documents (is_taken c.args.of c.args.rest)) pages.results.now c.loop-source.source one (option_map (λ own. own.now) c.kept_if-page.result)
    (map links_of c.loop-source.all.items) (map links_of c.push_page.new.all.items) c.loop-source-test.true c.one-item.is (c.kept_if-page.ensures s.order ∙ ap (λ b. kept_if documents b one) c.is_taken.ensures)
    (c.in_ok-push_page.ensures s) (c.loop-source.invariant s)
