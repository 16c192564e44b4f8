use Rattle.site_check.proofs.Prelude.{map, take}
use Rattle.site_check.specs.Broken.{result_at}
use Rattle.site_check.specs.Located.{AllLead, LeadsAsSaid}
use Rattle.site_check.proofs.own_links.lead_there.Given as goal

abbrev pub invariant-loop-number : goal.invariant-loop-number
invariant-loop-number l = AllLead (LeadsAsSaid l.on.site.pages.results.now (map result_at l.on.linked.now)) l.links.urls.items (take l.number l.leads)
