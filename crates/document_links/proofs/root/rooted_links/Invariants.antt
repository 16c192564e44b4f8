use Rattle.document_links.proofs.Prelude.{◌≡◌, map, take, rooted}
use Rattle.document_links.proofs.root.rooted_links.Given as goal

abbrev pub invariant-loop-index : goal.invariant-loop-index
invariant-loop-index l = l.moved.texts ≡ map (rooted l.root) (take l.index l.raw.texts)
