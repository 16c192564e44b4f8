use Rattle.document_links.proofs.Prelude.{◌≤◌, take}
use Rattle.std.specs.List.{All}
use Rattle.document_links.proofs.places.needed_count.Given as goal

abbrev pub invariant-loop-index : goal.invariant-loop-index
invariant-loop-index l = All (λ index. index ≤ l.last) (take l.index-index l.indices)
