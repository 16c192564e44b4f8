use Rattle.site_check.proofs.Prelude.{◌≡◌, ◌++◌, map, take}
use Rattle.site_check.specs.Documents.{AreSearchable, document_of}
use Rattle.site_check.specs.LackedLinks.{links_of, links_to_each}
use Rattle.site_check.proofs.anchors.push_links.Given as goal

abbrev pub invariant-loop-target : goal.invariant-loop-target
invariant-loop-target l =
    AreSearchable l.files l.pages →
    map links_of l.all.items ≡ map links_of l.initial.all.items
    ++ links_to_each (document_of l.pages.anchors.now l.pages.aliases.now l.files l.pages.results.now) l.source l.page.anchors 0 (take l.target l.page.targets.items)
