use Rattle.site_check.proofs.Prelude.{◌≡◌, sum_by, take, capped, is_page, places_if}
use Rattle.site_check.proofs.totals.links_to_missing.Given as goal

abbrev pub invariant-loop-one : goal.invariant-loop-one
invariant-loop-one l = l.count ≡ capped (sum_by (places_if is_page) (take l.one-index l.broken))
