use Rattle.std.proofs.Common.{List, rules, subst, sym}
use Rattle.std.specs.Cmp.Lexicographic.{slice_cmp}
use Rattle.std.specs.List.Sorted.{IsStrictlySortedBy}
use Rattle.std.specs.Ordering.{nat_cmp}
use Rattle.std.proofs.lemmas.Fn.{always_returns_same}
use Rattle.site_files.specs.Entries.{Finds, cmp_urls}
use Rattle.site_files.specs.declared.page_table.Entry.{Entry}
use Rattle.site_files.proofs.Table.{finds}
use Rattle.site_files.proofs.page_table.PageTable.find.Goals as goal

pub returns : goal.returns
returns c =
    let P : List Entry → Type 0 = λ entries. IsStrictlySortedBy cmp_urls entries in
    let Q : List Entry → Type 0 = λ entries. Finds entries c.args.url.now c.ok.result in
    let found =
    c.binary_search_by.ensures.position (λ (entry : Entry). slice_cmp nat_cmp entry.url c.args.url.now)
    (always_returns_same _ _ _ (λ a r f' k. search rules)) in
    rw (← c.self.view_is)
    (subst Q c.as_slice.ensures.value
    (subst (Finds c.as_slice.result.now c.args.url.now) (sym c.ok.ensures.value)
    (finds c.args.url.now c.as_slice.result.now c.binary_search_by.result (subst P (sym c.as_slice.ensures.value) c.self.invariant) c.binary_search_by.ensures.bound found)))
