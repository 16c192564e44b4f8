use Rattle.site_check.proofs.Prelude.{◌≡◌, ◌++◌, length, leads_at, number_at}
use Rattle.site_check.proofs.leads.push_leads.Given as goal

abbrev pub invariant-links : goal.invariant-links
invariant-links l =
    l.all.items ++ leads_at (number_at l.numbers) l.source l.urls l.indices ≡ l.fn.all.items ++ leads_at (number_at l.numbers) l.source l.fn.urls l.fn.indices

abbrev pub decreases-links : goal.decreases-links
decreases-links l = length l.urls
