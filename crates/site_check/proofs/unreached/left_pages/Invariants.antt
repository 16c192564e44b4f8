use Rattle.site_check.proofs.Prelude.{◌≡◌, ◌++◌, drop, map, pages_of, string_bytes}
use Rattle.site_check.proofs.unreached.left_pages.Given as goal
use Rattle.site_check.specs.Unreached.{is_marked, left_among}

abbrev pub invariant-loop-number : goal.invariant-loop-number
invariant-loop-number l =
    map string_bytes l.all.items ++ left_among (is_marked l.marks) l.front (drop l.number (pages_of l.files)) ≡ left_among (is_marked l.fn.marks) l.front (pages_of l.files)
