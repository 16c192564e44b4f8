use Rattle.site_check.proofs.Prelude.{map}
use Rattle.site_check.proofs.LackedFound.{lacked_all, lacks_found}
use Rattle.site_check.specs.Complete.{is_taken}
use Rattle.site_check.specs.LackedLinks.{lack_of}
use Rattle.site_check.proofs.anchors.every_lacked.Goals as goal

pub returns : goal.returns
returns c = λ s.
    let pages = c.args.pages in
    let sorted = c.sort_by.new.self.items in
    lacks_found pages.anchors.now pages.aliases.now c.args.files.now pages.results.now (is_taken c.args.of c.args.rest) c.in_ok-links.links.items sorted c.loop-own.all.items c.sort_by_anchor.new.all.items (c.in_ok-links.ensures s)
    c.sort_by.ensures.permutation (lacked_all c.deref-own-items.result.now sorted c.loop-own.own-index (map lack_of c.loop-own.all.items) c.loop-own-test.false c.deref-own-items.ensures.value c.loop-own.invariant) c.sort_by_anchor.ensures.permutation
