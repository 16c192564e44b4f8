use Rattle.site_check.proofs.Prelude.{◌≡◌, ◌+◌, ◌<◌, ◌^◌, length, take, indices_at, leads_from, number_at}
use Rattle.site_check.proofs.leads.leads_from.Given as goal

abbrev pub invariant-loop-place : goal.invariant-loop-place
invariant-loop-place l =
    l.start + length l.results < 2 ^ 64 → l.all.items ≡ leads_from (number_at l.maps.numbers.now) (indices_at l.maps.indices.now) l.start (take l.place l.results)
