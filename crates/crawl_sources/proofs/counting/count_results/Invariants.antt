use Rattle.crawl_sources.proofs.Prelude.{◌≡◌, ℕ, List, [], take, IsSome, count_of, IsTally}
use Rattle.crawl_sources.proofs.counting.count_results.Given as goal

abbrev pub invariant-loop-one : goal.invariant-loop-one
invariant-loop-one l = record {
  numbered : l.number ≡ l.one-index;
  counted : (url : List ℕ) → IsTally l.all [] url (count_of l.fn.tallies url) → IsTally l.all (take l.one-index l.results) url (count_of l.tallies url);
  kept : (url : List ℕ) → IsSome (count_of l.fn.tallies url) → IsSome (count_of l.tallies url);
}
