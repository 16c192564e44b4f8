use Rattle.saved_web.proofs.Prelude.{◌≡◌, slice_get, flat_map}
use Rattle.saved_web.proofs.ChunkPlaces.{from_chunk}
use Rattle.saved_web.proofs.web_pages.WebPages.page.Given as goal

abbrev pub invariant-loop-chunk : goal.invariant-loop-chunk
invariant-loop-chunk l = slice_get (from_chunk l.chunk-items l.chunk-index) l.index ≡ slice_get (flat_map (λ chunk. chunk) l.chunk-items) l.fn.index
