use Rattle.saved_web.proofs.Prelude.{◌≡◌, take, flat_map, urls}
use Rattle.saved_web.proofs.web_pages.WebPages.urls.Given as goal

abbrev pub invariant-loop-chunk : goal.invariant-loop-chunk
invariant-loop-chunk l = l.all.items ≡ urls (flat_map (λ chunk. chunk) (take l.chunk-index l.chunk-items))
