use Rattle.saved_web.proofs.Prelude.{◌≡◌, ℕ, List, true, false, take, flat_map, has}
use Rattle.saved_web.proofs.web_pages.is_known.Given as goal

abbrev pub invariant-loop-chunk : goal.invariant-loop-chunk
invariant-loop-chunk g l =
    (url : List ℕ) → has l.other url ≡ true → has (flat_map (λ chunk. chunk) (take l.chunk-index l.chunks)) url ≡ false
