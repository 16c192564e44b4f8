use Rattle.crawl_report.proofs.Prelude.{◌≡◌, ℕ, List, take, has_result, is_in}
use Rattle.crawl_report.proofs.unseen.urls_of.Given as goal

abbrev pub invariant-loop-one : goal.invariant-loop-one
invariant-loop-one l = (url : List ℕ) → is_in l.set url ≡ has_result (take l.one-index l.results) url
