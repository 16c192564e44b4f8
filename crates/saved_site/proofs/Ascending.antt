-- Lists in the order of their URLs, each URL once.
use Rattle.saved_site.proofs.Prelude.{◌≡◌, ℕ, List, Some, None, sym, subst, ◌∙◌, bytes_eq, page_at, PageFound}
use Rattle.std.specs.List.{All, dedup}
use Rattle.std.specs.List.Sorted.{IsPermutation, IsSorted, IsStableBy}
use Rattle.std.specs.Ordering.{is_lt}
use Rattle.std.proofs.lemmas.List.Filters.{All-dedup}
use Rattle.std.proofs.lemmas.List.Sorted.{All-permutation}
use Rattle.document_links.specs.declared.anchors.PageAnchors.{PageAnchors}
use Rattle.site_files.proofs.FirstOnes.{ascends-dedup, first-dedup, first-sort}
use Rattle.site_files.specs.Firsts.{cmp_keys}
use Rattle.site_files.specs.declared.alias.Alias.{Alias}
use Rattle.saved_site.specs.Aliases.{AreAliases, alias_page}
use Rattle.saved_site.specs.Served.{AliasesAscend, AnchorsAscend, entry_at}

abbrev pub url_in : PageAnchors → List ℕ
url_in entry = entry.url

-- what a sort and the removal of repeated URLs leave of anchors
pub record IsAscending (given ordered : List PageAnchors) : Type 0 where
  pub order : AnchorsAscend ordered
  pub same : (url : List ℕ) → entry_at ordered url ≡ entry_at given url

pub ascending_of : (given ordered once : List PageAnchors) → IsSorted (cmp_keys url_in) ordered → IsStableBy (λ a b. is_lt (cmp_keys url_in a b)) given ordered → once ≡ dedup (λ a b. bytes_eq a.url b.url) ordered → IsAscending given once
ascending_of given ordered once ascends stable is =
    subst (IsAscending given) (sym is) (record {
      order = ascends-dedup url_in ordered ascends;
      same = λ url. first-dedup url_in (λ (entry : PageAnchors). Some entry) None url ordered ∙ first-sort url_in (λ (entry : PageAnchors). Some entry) None url given ordered stable;
    })

abbrev pub alias_url : Alias → List ℕ
alias_url alias = alias.url

-- and of aliases
pub record AscendingAliases (given ordered : List Alias) : Type 0 where
  pub order : AliasesAscend ordered
  pub pages : (pages : List PageFound) → AreAliases pages given → AreAliases pages ordered

pub aliases_of : (given ordered once : List Alias) → IsSorted (cmp_keys alias_url) ordered → IsPermutation given ordered → once ≡ dedup (λ a b. bytes_eq a.url b.url) ordered → AscendingAliases given once
aliases_of given ordered once ascends permuted is =
    subst (AscendingAliases given) (sym is) (record {
      order = ascends-dedup alias_url ordered ascends;
      pages = λ pages are.
          let P : Alias → Type 0 = λ alias. page_at pages alias.url ≡ alias_page alias in
          All-dedup (λ a b. bytes_eq (alias_url a) (alias_url b)) P ordered (All-permutation P given ordered permuted are);
    })
