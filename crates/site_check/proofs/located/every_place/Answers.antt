use Rattle.site_check.proofs.Prelude.{◌∙◌, map, sym}
use Rattle.site_check.proofs.AllPlaced.{passed_all, passed_more, passed_other}
use Rattle.site_check.proofs.Placed.{left_more, pages_more}
use Rattle.site_check.specs.Broken.{result_at}
use Rattle.site_check.specs.Located.{IsTargetPlace, LeadsAsSaid, placed_at}
use Rattle.site_check.proofs.located.every_place.Goals as goal

-- the page is read
pub pages-preserved-in-Continue-1 : goal.pages-preserved-in-Continue-1
pages-preserved-in-Continue-1 g c =
    let site = c.args.on.site in
    let f = LeadsAsSaid c.args.on.site.pages.results.now (map result_at c.args.on.linked.now) in
    let files = site.files.now in
    let results = site.pages.results.now in
    let reads = g.B.FileBytes.reads c.args.bytes.now in
    let leads = c.args.leads.now in
    let left = c.pages.left.now in
    let page = c.in-Some.page in
    let old = map placed_at c.pages.all.items in
    let new = map placed_at c.push_page.new.all.items in
    let pushed = c.in_ok-push_page-in-Some.ensures in
    record {
      placed = pages_more f files results reads leads left page old new c.in-Some.ensures c.pages.invariant.within pushed.links c.pages.invariant.placed;
      within = left_more leads left page c.in-Some.ensures c.pages.invariant.within;
      passed =
          passed_more f files results reads (IsTargetPlace f files results reads page.own.now) c.args.of c.args.rest old new leads left page c.in-Some.ensures pushed.links pushed.whole c.pages.invariant.passed;
    }

-- another thread reads it
pub pages-preserved : goal.pages-preserved
pages-preserved g c =
    let site = c.args.on.site in
    let leads = c.args.leads.now in
    let left = c.pages.left.now in
    let page = c.in-Some.page in
    record {
      placed = c.pages.invariant.placed;
      within = left_more leads left page c.in-Some.ensures c.pages.invariant.within;
      passed =
          passed_other (LeadsAsSaid c.args.on.site.pages.results.now (map result_at c.args.on.linked.now)) site.files.now site.pages.results.now (g.B.FileBytes.reads c.args.bytes.now) c.args.of c.args.rest (map placed_at c.pages.all.items) leads left page c.in-Some.ensures
          (sym c.is_taken.ensures ∙ c.if-is_taken.false) c.pages.invariant.passed;
    }

pub returns-in-None-clause-whole : goal.returns-in-None-clause-whole
returns-in-None-clause-whole g c =
    let site = c.args.on.site in
    passed_all (LeadsAsSaid c.args.on.site.pages.results.now (map result_at c.args.on.linked.now)) site.files.now site.pages.results.now (g.B.FileBytes.reads c.args.bytes.now) c.args.of c.args.rest (map placed_at c.pages.all.items) c.args.leads.now c.pages.left.now c.in-None.ensures c.pages.invariant.passed
