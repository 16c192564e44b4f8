use Rattle.site_check.proofs.Prelude.{◌≡◌, ℕ, List, [], SiteFiles, flat_map, hints_at, linked_at, map, result_at, rows_with, take}
use Rattle.site_check.proofs.check.has_none.Given as goal

abbrev pub invariant-loop-one : goal.invariant-loop-one
invariant-loop-one l = record {
  rows : (front : List ℕ) (entries : List (List ℕ)) → flat_map (rows_with front entries) (map linked_at (take l.one-index l.linked)) ≡ [];
  hints : (front : List ℕ) (entries : List (List ℕ)) (files : SiteFiles) → flat_map (hints_at front entries files) (map result_at (take l.one-index l.linked)) ≡ [];
}
