use Rattle.std.proofs.Common.{List, rules, subst, sym}
use Rattle.std.specs.Cmp.Lexicographic.{slice_cmp}
use Rattle.std.specs.List.Sorted.{IsStrictlySortedBy}
use Rattle.std.specs.Ordering.{nat_cmp}
use Rattle.std.proofs.lemmas.Fn.{always_returns_same}
use Rattle.site_files.specs.Links.{FindsLink, cmp_names, name_in}
use Rattle.site_files.specs.declared.alias.FolderLink.{FolderLink}
use Rattle.site_files.proofs.OtherNames.{finds_link}
use Rattle.site_files.proofs.alias.LinkedFolders.find.Goals as goal

pub returns : goal.returns
returns c =
    let P : List FolderLink → Type 0 = λ links. IsStrictlySortedBy cmp_names links in
    let Q : List FolderLink → Type 0 = λ links. FindsLink links c.args.url.now c.ok.result in
    let found =
    c.binary_search_by.ensures.position (λ (link : FolderLink). slice_cmp nat_cmp (name_in link) c.args.url.now)
    (always_returns_same _ _ _ (λ a r f' k. search rules)) in
    rw (← c.self.view_is)
    (subst Q c.as_slice.ensures.value
    (subst (FindsLink c.as_slice.result.now c.args.url.now) (sym c.ok.ensures.value)
    (finds_link c.args.url.now c.as_slice.result.now c.binary_search_by.result (subst P (sym c.as_slice.ensures.value) c.self.invariant) c.binary_search_by.ensures.bound found)))
