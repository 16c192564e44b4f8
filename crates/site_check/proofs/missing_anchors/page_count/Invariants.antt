use Rattle.site_check.proofs.Prelude.{◌≡◌, ◌+◌, ◌≤◌, drop, map}
use Rattle.site_check.proofs.AnchorGroups.{sources_next}
use Rattle.site_check.specs.AnchorGroups.{source_count}
use Rattle.site_check.specs.LackedLinks.{lack_of}
use Rattle.site_check.proofs.missing_anchors.page_count.Given as goal

abbrev pub invariant-loop-link : goal.invariant-loop-link
invariant-loop-link l = record {
  bound : l.count ≤ l.link-index;
  counted : l.count + sources_next l.last (map lack_of (drop l.link-index l.links)) ≡ source_count (map lack_of l.links);
}
