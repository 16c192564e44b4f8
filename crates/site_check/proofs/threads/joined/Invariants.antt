use Rattle.site_check.proofs.Prelude.{◌≡◌, flat_map}
use Rattle.std.specs.List.{All}
use Rattle.std.specs.Prelude.{IsOk}
use Rattle.site_check.specs.Located.{items_of}
use Rattle.site_check.proofs.threads.joined.Given as goal

abbrev pub invariant-chunks : goal.invariant-chunks
invariant-chunks g l = record {
  items : l.all.items ≡ flat_map items_of l.yielded;
  succeed : All (λ chunk. IsOk chunk) l.yielded;
}
