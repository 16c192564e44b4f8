use Rattle.saved_web.proofs.Prelude.{◌≡◌, ℕ, ◌+◌, slice_get, flat_map, page_with}
use Rattle.saved_web.proofs.ChunkPlaces.{from_chunk}
use Rattle.saved_web.proofs.web_pages.WebPages.find.Given as goal

abbrev pub invariant-loop-chunk : goal.invariant-loop-chunk
invariant-loop-chunk l = record {
  same : page_with (from_chunk l.chunk-items l.chunk-index) l.url ≡ page_with (flat_map (λ chunk. chunk) l.chunk-items) l.url;
  at : (k : ℕ) → slice_get (from_chunk l.chunk-items l.chunk-index) k ≡ slice_get (flat_map (λ chunk. chunk) l.chunk-items) (l.before + k);
}
