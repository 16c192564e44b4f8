use Rattle.site_check.proofs.Prelude.{◌≡◌, ℕ, List, fold, map, take, number_at, number_with, target_at}
use Rattle.site_check.proofs.leads.insert_all.Given as goal

abbrev pub invariant-loop-target : goal.invariant-loop-target
invariant-loop-target l = (url : List ℕ) → number_at l.numbers url ≡ fold (number_with url) (number_at l.fn.numbers url) (map target_at (take l.target-index l.targets))
