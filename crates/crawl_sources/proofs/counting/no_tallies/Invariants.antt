use Rattle.crawl_sources.proofs.Prelude.{◌≡◌, ℕ, List, take, Some, None, if◌then◌else◌, list_any, bytes_eq, PageResult, pointed, count_of, none_counted}
use Rattle.crawl_sources.proofs.counting.no_tallies.Given as goal

abbrev pub invariant-loop-one : goal.invariant-loop-one
invariant-loop-one l =
    (url : List ℕ) → count_of l.tallies url ≡ (if list_any (λ (r : PageResult). bytes_eq r.url url) (pointed (take l.one-index l.listed)) then Some none_counted else None)
