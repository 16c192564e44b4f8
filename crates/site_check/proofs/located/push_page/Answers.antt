use Rattle.site_check.proofs.Prelude.{◌∙◌, map, sym}
use Rattle.site_check.proofs.AllPlaced.{file_whole}
use Rattle.site_check.proofs.Placed.{file_placed, not_some}
use Rattle.site_check.specs.Broken.{result_at}
use Rattle.site_check.specs.Located.{LeadsAsSaid, placed_at}
use Rattle.site_check.proofs.located.push_page.Goals as goal

pub returns-clause-links : goal.returns-clause-links
returns-clause-links g c =
    let site = c.args.on.site in
    let page = c.args.page in
    let left = c.in_ok-read.field-0 in
    file_placed (LeadsAsSaid site.pages.results.now (map result_at c.args.on.linked.now)) site.files.now site.pages.results.now (g.B.FileBytes.reads c.args.bytes.now) page.source c.in-Some.file.url.now c.in-Some.file.file left c.read.new.body c.as_slice.result.now page.own.now (map placed_at c.args.all.now.items)
    (map placed_at c.push_places.new.all.items) c.in-Some.ensures c.requires (c.in_ok-read.ensures c.clear.ensures) (not_some left (sym c.is_some.ensures ∙ c.if-is_some.false)) c.as_slice.ensures c.in_ok-push_places.ensures

pub returns-clause-whole : goal.returns-clause-whole
returns-clause-whole g c =
    let site = c.args.on.site in
    let page = c.args.page in
    let left = c.in_ok-read.field-0 in
    file_whole (LeadsAsSaid site.pages.results.now (map result_at c.args.on.linked.now)) site.files.now site.pages.results.now (g.B.FileBytes.reads c.args.bytes.now) page.source c.in-Some.file.url.now c.in-Some.file.file left c.read.new.body c.as_slice.result.now page.own.now (map placed_at c.args.all.now.items)
    (map placed_at c.push_places.new.all.items) c.in-Some.ensures c.requires (c.in_ok-read.ensures c.clear.ensures) (not_some left (sym c.is_some.ensures ∙ c.if-is_some.false)) c.as_slice.ensures c.in_ok-push_places.ensures
