use Rattle.saved_web.proofs.Prelude.{◌≡◌, ℕ, List, true, false, take, flat_map, has}
use Rattle.saved_web.proofs.web_pages.some_known.Given as goal

abbrev pub invariant-loop-other : goal.invariant-loop-other
invariant-loop-other g l =
    (url : List ℕ) → has (flat_map (λ chunk. chunk) (take l.other-index l.others)) url ≡ true → has (flat_map (λ chunk. chunk) l.chunks) url ≡ false
