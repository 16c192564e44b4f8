use Rattle.mercator_site.proofs.Prelude.{◌≡◌, map, take, string_bytes, seed_link}
use Rattle.mercator_site.proofs.seeds.seed_links.Given as goal

abbrev pub invariant-loop-link : goal.invariant-loop-link
invariant-loop-link l = map string_bytes l.seeds.items ≡ map (seed_link l.rooted) (map string_bytes (take l.link-index l.links))
