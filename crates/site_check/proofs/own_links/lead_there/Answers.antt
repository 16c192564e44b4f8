use Rattle.site_check.proofs.Prelude.{◌∙◌, ℕ, List, Option, ap, arith, map, option_map, slice_get, subst, sym}
use Rattle.std.proofs.lemmas.List.{take_all}
use Rattle.std.specs.Borrow.{Bor}
use Rattle.site_check.specs.Broken.{result_at}
use Rattle.site_check.specs.Located.{AllLead, LeadsAsSaid}
use Rattle.site_check.proofs.Placed.{item_at, next_at, no_numbers}
use Rattle.site_check.proofs.own_links.lead_there.Goals as goal

pub loop-number-init : goal.loop-number-init
loop-number-init c = no_numbers (LeadsAsSaid c.args.on.site.pages.results.now (map result_at c.args.on.linked.now)) c.args.links.now.urls.items

pub loop-number-preserved : goal.loop-number-preserved
loop-number-preserved c =
    let urls = c.args.links.now.urls.items in
    let k = c.loop-number.number in
    next_at (LeadsAsSaid c.args.on.site.pages.results.now (map result_at c.args.on.linked.now)) urls c.args.leads.now k _ _ c.loop-number-test.true
    (ap (λ l. slice_get l k) (sym c.deref.ensures.value) ∙ sym (item_at c.deref.result.now k c.get.result c.get.ensures.lookup) ∙ ap (λ o. option_map (λ (url : Bor (Option (List ℕ))). url.now) o) c.in-Some.is) c.loop-number.invariant (c.leads_there.ensures c.if-not-leads_there.false)

pub returns : goal.returns
returns c = λ is.
    subst (AllLead (LeadsAsSaid c.args.on.site.pages.results.now (map result_at c.args.on.linked.now)) c.args.links.now.urls.items) (take_all c.loop-number.number c.args.leads.now (omega arith)) c.loop-number.invariant
