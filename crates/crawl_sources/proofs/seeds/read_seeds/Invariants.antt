use Rattle.crawl_sources.proofs.Prelude.{◌≡◌, ◌+◌, ◌≤◌, ◌++◌, length, filter_map, first_error, seed_url}
use Rattle.std.specs.Str.Lines.{lines}
use Rattle.crawl_sources.proofs.seeds.read_seeds.Given as goal

abbrev pub invariant-loop-line : goal.invariant-loop-line
invariant-loop-line l = record {
  few : l.number + length l.rest ≤ length l.bytes;
  kept : l.urls.items ++ filter_map seed_url (lines l.rest) ≡ filter_map seed_url (lines l.bytes);
  sound : first_error (l.number + 1) (lines l.rest) ≡ first_error 1 (lines l.bytes);
}

abbrev pub decreases-loop-line : goal.decreases-loop-line
decreases-loop-line l = length l.rest
