use Rattle.site_check.proofs.Prelude.{◌≡◌, ◌+◌, ◌<◌, ◌^◌, ◌++◌, List, length, map, take, pointed, PageResult, linked, linked_at}
use Rattle.site_check.proofs.linked.sums.Given as goal

abbrev pub invariant-loop-index : goal.invariant-loop-index
invariant-loop-index l =
    (front back : List PageResult) → length front + length back < 2 ^ 64 → map linked_at l.first ≡ map (linked front) (pointed l.unfound) → map linked_at l.second ≡ map (linked back) (pointed l.unfound) → map linked_at l.all.items ≡ map (linked (front ++ back)) (pointed (take l.index l.unfound))
