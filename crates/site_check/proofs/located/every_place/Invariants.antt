use Rattle.site_check.proofs.Prelude.{length, map}
use Rattle.std.specs.List.{All, Contains}
use Rattle.site_check.proofs.AllPlaced.{HasPassed}
use Rattle.site_check.specs.Broken.{result_at}
use Rattle.site_check.specs.Located.{IsTargetPlace, LeadsAsSaid, placed_at}
use Rattle.site_check.proofs.located.every_place.Given as goal

abbrev pub invariant-pages : goal.invariant-pages
invariant-pages g l = record {
  placed : All (IsTargetPlace (LeadsAsSaid l.on.site.pages.results.now (map result_at l.on.linked.now)) l.on.site.files.now l.on.site.pages.results.now (g.B.FileBytes.reads l.bytes) l.leads) (map placed_at l.all.items);
  within : All (Contains l.leads) l.left;
  passed : HasPassed (LeadsAsSaid l.on.site.pages.results.now (map result_at l.on.linked.now)) l.on.site.files.now l.on.site.pages.results.now (g.B.FileBytes.reads l.bytes) l.of l.rest (map placed_at l.all.items) l.leads l.left;
}

abbrev pub decreases-pages : goal.decreases-pages
decreases-pages g l = length l.left
