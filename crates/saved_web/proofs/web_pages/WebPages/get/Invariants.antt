use Rattle.saved_web.proofs.Prelude.{◌≡◌, drop, flat_map, page_with}
use Rattle.saved_web.proofs.web_pages.WebPages.get.Given as goal

abbrev pub invariant-loop-chunk : goal.invariant-loop-chunk
invariant-loop-chunk l =
    page_with (flat_map (λ chunk. chunk) (drop l.chunk-index l.chunk-items)) l.url ≡ page_with (flat_map (λ chunk. chunk) l.chunk-items) l.url
