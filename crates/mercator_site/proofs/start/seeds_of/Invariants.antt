use Rattle.mercator_site.proofs.Prelude.{◌≡◌, map, take, Ok, string_bytes, resolve, AreOwn}
use Rattle.mercator_site.proofs.start.seeds_of.Given as goal

abbrev pub invariant-loop-link : goal.invariant-loop-link
invariant-loop-link l = record {
  resolved : map (resolve l.top) (map string_bytes (take l.link-index l.links)) ≡ map Ok l.seeds.items;
  own : AreOwn l.top l.seeds.items;
}
