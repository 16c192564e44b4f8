use Rattle.crawl_report.proofs.Prelude.{ℕ, List, take, flat_map, PageResult, Adds, lines_at, pointed, count_of, IsTally}
use Rattle.crawl_report.proofs.report.referrers.with_listed.Given as goal

abbrev pub invariant-loop-one : goal.invariant-loop-one
invariant-loop-one l =
    (results : List PageResult) → ((url : List ℕ) → IsTally l.all results url (count_of l.tallies url)) → Adds l.fn.out l.out (flat_map (λ r. lines_at l.all results r.url) (pointed (take l.one-index l.listed)))
