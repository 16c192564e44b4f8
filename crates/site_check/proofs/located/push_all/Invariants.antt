use Rattle.site_check.proofs.Prelude.{◌≡◌, ◌++◌, map, take}
use Rattle.site_check.specs.Located.{placed_at, places_from}
use Rattle.site_check.proofs.located.push_all.Given as goal

abbrev pub invariant-loop-number : goal.invariant-loop-number
invariant-loop-number l = map placed_at l.all.items ≡ map placed_at l.initial.all.items ++ places_from l.name l.places 0 (take l.number l.leads)
