-- By the totals of a check something is broken if and only if there is a row.
use Rattle.site_check.proofs.Prelude.{common_steps, ◌≡◌, ◌∙◌, ℕ, ◌+◌, Bool, true, not, ◌||◌, cond, List, [], ◌∷◌, length, ap, arith, PageResult, capped, is_alias, is_document, is_invalid, is_leaving, is_page, is_anchor, totals_by, totals_of}
use Rattle.std.proofs.Common.{◌==◌, lt-ltb, max, nat_lt}
use Rattle.check_report.specs.Text.{is_broken}
use Rattle.check_report.specs.declared.value.Broken.{Broken}
use Rattle.check_report.specs.declared.value.Kind.{Kind}
use Rattle.check_report.specs.declared.value.Kind.TheVariants.{NoPage, NoAnchor, NotUrl, UnknownScheme, LocalFile, Leaves, OutsideBase, NotInMap}
use Rattle.check_report.specs.declared.value.Redirect.{Redirect}
use Rattle.check_report.specs.declared.value.Totals.{Totals}
use Rattle.site_files.specs.declared.alias.Alias.{Alias}

-- a count of at least one is not 0 at its limit either
some_capped : (n more : ℕ) → nat_lt 0 (capped (max n 1 + more)) ≡ true
some_capped n more = lt-ltb 0 (capped (max n 1 + more)) (omega arith)

-- a row of any kind is counted
counted : (kind : Kind) (w : Bool) (n urls anchors invalid leaving : ℕ) →
    (w || nat_lt 0 (cond (is_page kind) 1 0 + urls) || nat_lt 0 (cond (is_anchor kind) 1 0 + anchors) || nat_lt 0 (capped (cond (is_invalid kind) (max n 1) 0 + invalid))
    || nat_lt 0 (capped (cond (is_leaving kind) (max n 1) 0 + leaving))) ≡ true
counted NoPage w n urls anchors invalid leaving = let some : nat_lt 0 (1 + urls) ≡ true = lt-ltb 0 (1 + urls) (omega arith) in grind (arith, common_steps)
counted NoAnchor w n urls anchors invalid leaving = let some : nat_lt 0 (1 + anchors) ≡ true = lt-ltb 0 (1 + anchors) (omega arith) in grind (arith, common_steps)
counted NotUrl w n urls anchors invalid leaving = let some = some_capped n invalid in grind (arith, common_steps)
counted UnknownScheme w n urls anchors invalid leaving = let some = some_capped n invalid in grind (arith, common_steps)
counted LocalFile w n urls anchors invalid leaving = let some = some_capped n invalid in grind (arith, common_steps)
counted Leaves w n urls anchors invalid leaving = let some = some_capped n leaving in grind (arith, common_steps)
counted OutsideBase w n urls anchors invalid leaving = let some = some_capped n leaving in grind (arith, common_steps)
counted NotInMap w n urls anchors invalid leaving = let some = some_capped n leaving in grind (arith, common_steps)

by_rows : (is_other is_text : List ℕ → Bool) (results : List PageResult) (broken : List Broken) (redirects : List Redirect) →
    is_broken (totals_by is_other is_text results broken redirects) ≡ not (length broken == 0)
by_rows is_other is_text results [] redirects = grind (arith, common_steps)
by_rows is_other is_text results (b ∷ more) redirects = grind (arith, common_steps, counted)

pub verdict_of_rows : (totals : Totals) (aliases : List Alias) (documents : List (List ℕ)) (results : List PageResult) (broken : List Broken) (redirects : List Redirect) →
    totals ≡ totals_of aliases documents results broken redirects → is_broken totals ≡ not (length broken == 0)
verdict_of_rows totals aliases documents results broken redirects is = ap is_broken is ∙ by_rows (is_alias aliases) (is_document documents) results broken redirects
