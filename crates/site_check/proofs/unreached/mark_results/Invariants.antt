use Rattle.site_check.proofs.Prelude.{◌≡◌, ◌||◌, ℕ, list_any, take}
use Rattle.site_check.proofs.unreached.mark_results.Given as goal
use Rattle.site_check.specs.Unreached.{is_marked, is_page_of}

abbrev pub invariant-loop-one : goal.invariant-loop-one
invariant-loop-one l = (index : ℕ) → is_marked l.marks index ≡ (is_marked l.fn.marks index || list_any (is_page_of l.files index) (take l.one-index l.results))
