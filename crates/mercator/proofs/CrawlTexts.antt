-- The text of what a crawl found, by the report that was printed.
use Rattle.mercator.proofs.Prelude.{◌≡◌, ℕ, List, [], Result, Vec, Global, Bor, IfOk, if◌then◌else◌, arith, slice_cmp, flat_map, IsPermutation, IsSortedByKey, nat_cmp, allows, joined, unreached_of, PageResult, AreUnreached, CrawlPlan, IsTextOf}
use Rattle.crawl_report.specs.Json.{printed_line}
use Rattle.crawl_report.specs.Rows.{rows_with}
use Rattle.crawl_sources.specs.Tallies.{pointed}

pub unreached_listed : (urls suffixes : List (List ℕ)) (pages given : List PageResult) (found shown : List (Bor (List ℕ))) → given ≡ pages → shown ≡ found
    → IsPermutation (unreached_of (allows suffixes) given urls) (pointed found) → IsSortedByKey (λ url. url) (slice_cmp nat_cmp) (pointed found) → AreUnreached urls suffixes pages (pointed shown)
unreached_listed urls suffixes pages given found shown same_pages same_shown moved ascends = grind arith

pub text_reported : {E : Type 0} (result : Result (Vec (Vec ℕ Global) Global) E) (plan : CrawlPlan) (known suffixes : List (List ℕ)) (pages given : List PageResult) (counts shown : List ℕ) (urls : List (List ℕ)) → given ≡ pages → shown ≡ (if plan.queues then counts else [])
    → AreUnreached known suffixes pages urls → IfOk result (λ chunks. joined chunks.items ≡ flat_map (printed_line plan.options.json) (rows_with plan.options.sections given shown urls)) → IfOk result (λ chunks. IsTextOf plan known suffixes pages counts (joined chunks.items))
text_reported result plan known suffixes pages given counts shown urls same_pages same_counts unseen printed = grind arith
