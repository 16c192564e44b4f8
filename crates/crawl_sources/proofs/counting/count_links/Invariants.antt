use Rattle.crawl_sources.proofs.Prelude.{◌≡◌, ℕ, List, take, if◌then◌else◌, list_any, option_map, bytes_eq, counted, count_of}
use Rattle.crawl_sources.proofs.counting.count_links.Given as goal

abbrev pub invariant-loop-link : goal.invariant-loop-link
invariant-loop-link l =
    (url : List ℕ) → count_of l.tallies url ≡ option_map (λ c. if list_any (λ link. bytes_eq link url) (take l.link-index l.links) then counted l.all l.number l.page c else c) (count_of l.fn.tallies url)
