use Rattle.site_check.proofs.Prelude.{◌≡◌, drop, flat_map}
use Rattle.std.specs.Option.{option_to_list}
use Rattle.site_check.specs.Base.{first_in}
use Rattle.site_check.specs.OwnFronts.{front_of}
use Rattle.site_check.proofs.own_fronts.first_front.Given as goal

abbrev pub invariant-loop-link : goal.invariant-loop-link
invariant-loop-link l = first_in (flat_map (λ link. option_to_list (front_of l.path link)) (drop l.link-index l.links)) ≡ first_in (flat_map (λ link. option_to_list (front_of l.path link)) l.links)
