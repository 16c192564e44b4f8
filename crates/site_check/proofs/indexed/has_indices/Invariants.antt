use Rattle.site_check.proofs.Prelude.{indices_at, take}
use Rattle.std.specs.List.{All}
use Rattle.site_check.specs.Complete.{IsIndexed}
use Rattle.site_check.proofs.indexed.has_indices.Given as goal

abbrev pub invariant-loop-one : goal.invariant-loop-one
invariant-loop-one l = All (IsIndexed (indices_at l.indices) l.aliases) (take l.one-index l.results)
