use Rattle.std.proofs.Common.{List, rules, subst, sym}
use Rattle.std.specs.Cmp.Lexicographic.{slice_cmp}
use Rattle.std.specs.List.Sorted.{IsStrictlySortedBy}
use Rattle.std.specs.Ordering.{nat_cmp}
use Rattle.std.proofs.lemmas.Fn.{always_returns_same}
use Rattle.site_files.specs.Skipped.{FindsSkipped, cmp_names, name_in}
use Rattle.site_files.specs.declared.skipped.SkippedLink.{SkippedLink}
use Rattle.site_files.proofs.SkippedLinks.{finds_skipped}
use Rattle.site_files.proofs.skipped.SkippedLinks.find.Goals as goal

pub returns : goal.returns
returns c =
    let P : List SkippedLink → Type 0 = λ links. IsStrictlySortedBy cmp_names links in
    let Q : List SkippedLink → Type 0 = λ links. FindsSkipped links c.args.url.now c.ok.result in
    let found =
    c.binary_search_by.ensures.position (λ (link : SkippedLink). slice_cmp nat_cmp (name_in link) c.args.url.now)
    (always_returns_same _ _ _ (λ a r f' k. search rules)) in
    rw (← c.self.view_is)
    (subst Q c.as_slice.ensures.value
    (subst (FindsSkipped c.as_slice.result.now c.args.url.now) (sym c.ok.ensures.value)
    (finds_skipped c.args.url.now c.as_slice.result.now c.binary_search_by.result (subst P (sym c.as_slice.ensures.value) c.self.invariant) c.binary_search_by.ensures.bound found)))
