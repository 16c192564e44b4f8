use Rattle.crawl_certificate.proofs.Prelude.{◌≡◌, ℕ, Bool, List, not, ◌&&◌, map, take, list_any, bytes_eq, IsLeast, url_of, pointed}
use Rattle.crawl_certificate.proofs.missing.least_unmarked.Given as goal

abbrev pub invariant-loop-index : goal.invariant-loop-index
invariant-loop-index l =
    (marked : List ℕ → Bool) → l.marks ≡ map (λ e. marked e.url) (pointed l.entries) → IsLeast (λ url. list_any (λ e. bytes_eq e.url url && not (marked e.url)) (pointed (take l.index l.entries))) (url_of l.least)
