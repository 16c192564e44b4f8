use Rattle.site_check.proofs.Prelude.{◌≡◌, ℕ, false, List, take, map, PageResult, pointed, count_of, IsTally, linked, linked_at}
use Rattle.site_check.proofs.linked.with_counts.Given as goal

abbrev pub invariant-loop-one : goal.invariant-loop-one
invariant-loop-one l =
    (results : List PageResult) → ((url : List ℕ) → IsTally false results url (count_of l.tallies url)) → map linked_at l.all.items ≡ map (linked results) (pointed (take l.one-index l.unfound))
