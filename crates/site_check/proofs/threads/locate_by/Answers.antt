use Rattle.site_check.proofs.Prelude.{arith, map, subst, sym, ◌<◌}
use Rattle.std.proofs.lemmas.List.Sorted.{All-permutation, IsPermutation-map}
use Rattle.std.specs.List.{All}
use Rattle.site_check.proofs.AllPlaced.{all_placed}
use Rattle.site_check.proofs.Placed.{all_joined}
use Rattle.site_check.specs.Broken.{result_at}
use Rattle.site_check.specs.Located.{IsTargetPlace, LeadsAsSaid, placed_at}
use Rattle.site_check.proofs.threads.locate_by.Goals as goal

pub returns-clause-links : goal.returns-clause-links
returns-clause-links g c =
    let P = IsTargetPlace (LeadsAsSaid c.args.site.pages.results.now (map result_at c.args.linked.now)) c.args.site.files.now c.args.site.pages.results.now (g.B.FileBytes.reads c.args.bytes.now) c.args.leads.now in
    let places = c.in_ok-places.places.items in
    let sorted = c.sort_by_target.new.places.items in
    All-permutation P (map placed_at places) (map placed_at sorted) (IsPermutation-map placed_at places sorted c.sort_by_target.ensures)
    (subst (λ l. All P (map placed_at l)) (sym c.in_ok-places.ensures.items) (all_joined P placed_at c.in_ok-chunks.chunks.items c.in_ok-chunks.ensures.links))

pub returns-clause-whole : goal.returns-clause-whole
returns-clause-whole g c =
    let site = c.args.site in
    let count = c.max-count.result in
    let some : 0 < count = omega (arith, c.max-count.ensures) in
    all_placed (LeadsAsSaid c.args.site.pages.results.now (map result_at c.args.linked.now)) site.files.now site.pages.results.now (g.B.FileBytes.reads c.args.bytes.now) c.args.leads.now count c.in_ok-chunks.chunks.items c.in_ok-places.places.items c.sort_by_target.new.places.items some
    c.in_ok-chunks.ensures.len c.in_ok-places.ensures.succeed c.in_ok-chunks.ensures.whole c.in_ok-places.ensures.items c.sort_by_target.ensures
