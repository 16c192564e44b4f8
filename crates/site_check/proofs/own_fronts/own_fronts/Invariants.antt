use Rattle.site_check.proofs.Prelude.{◌≡◌, flat_map, pointed, take}
use Rattle.std.specs.Option.{option_to_list}
use Rattle.site_check.specs.OwnFronts.{page_front}
use Rattle.site_check.proofs.own_fronts.own_fronts.Given as goal

abbrev pub invariant-loop-one : goal.invariant-loop-one
invariant-loop-one l = pointed l.fronts.items ≡ flat_map (λ r. option_to_list (page_front l.top r)) (take l.one-index l.results)
