use Rattle.site_check.proofs.Prelude.{◌≡◌, ◌<◌, List, get_or, length, map, option_map, subst}
use Rattle.document_links.specs.declared.anchors.Target.{Target}
use Rattle.site_check.proofs.LackedFound.{targets_step}
use Rattle.site_check.specs.Documents.{document_of, found_of}
use Rattle.site_check.specs.LackedLinks.{links_of}
use Rattle.site_check.proofs.anchors.push_links.Goals as goal

pub loop-target-preserved : goal.loop-target-preserved
loop-target-preserved c = λ s.
    let pages = c.args.pages in
    let page = c.args.page.now in
    let i = c.loop-target.target in
    let target = c.to-item.result in
    let value = c.deref-to-items.ensures.value in
    targets_step (document_of pages.anchors.now pages.aliases.now c.args.files.now pages.results.now) c.args.source page.anchors page.targets.items i target (option_map found_of c.find_target.result)
    (map links_of c.args.all.now.items) (map links_of c.loop-target.all.items) (map links_of c.push_target.new.all.items)
    (subst (λ (l : List Target). i < length l) value c.loop-target-test.true) (subst (λ (l : List Target). target ≡ get_or l i target) value c.to-item.is) (c.find_target.ensures s) c.in_ok-push_target.ensures (c.loop-target.invariant s)
