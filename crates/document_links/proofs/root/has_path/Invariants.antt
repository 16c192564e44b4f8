use Rattle.document_links.proofs.Prelude.{◌≡◌, ℕ, List, map, take, rooted}
use Rattle.document_links.proofs.root.has_path.Given as goal

-- none of the links so far is moved
abbrev pub invariant-loop-index : goal.invariant-loop-index
invariant-loop-index l = (root : List ℕ) → map (rooted root) (take l.index l.raw.texts) ≡ take l.index l.raw.texts
