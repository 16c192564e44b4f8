use Rattle.document_links.proofs.Prelude.{◌≡◌, ◌≤◌, ◌+◌, ◌++◌, [], length, below_after, path_below}
use Rattle.document_links.proofs.root.push_below.Given as goal

abbrev pub invariant-segments : goal.invariant-segments
invariant-segments l = record {
  depth : l.depth + length l.rest ≤ length l.path;
  below : l.out.items ++ below_after l.depth [] l.rest ≡ l.initial.out.items ++ path_below l.path;
}

abbrev pub decreases-segments : goal.decreases-segments
decreases-segments l = length l.rest
