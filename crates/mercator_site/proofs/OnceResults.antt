-- Each URL is that of one result of a crawl, and the results are in the order of their URLs.
use Rattle.mercator_site.proofs.Prelude.{◌≡◌, ◌∙◌, ℕ, ◌+◌, ◌≤◌, List, [], length, map, get_or, sym, ap, arith, nat_cmp, nat_list_cmp_total, slice_cmp, IsAscending, result_urls, begins, own_of, PageResult}
use Rattle.std.proofs.Common.{◌<◌, inl, inr, ◌∷◌, zero, suc, subst, suc-le-suc, zero-le}
use Rattle.std.proofs.lemmas.Bool.{cases_eq, cases_lt}
use Rattle.std.proofs.lemmas.List.{get_or-map, get_or_default, length-map}
use Rattle.std.proofs.lemmas.List.Elements.{All-contains, All-contains_itself, All-filter}
use Rattle.std.proofs.lemmas.List.Kept.{IsStrictlySortedBy-filter}
use Rattle.std.specs.List.{All, AllByRecursion, Contains}
use Rattle.std.specs.List.Sorted.{IsStrictlySortedBy}
use Rattle.std.specs.Ordering.{ordering_reverse}
use Rattle.std.specs.declared.cmp.Ordering.{Ordering}
use Rattle.std.specs.declared.cmp.Ordering.TheVariants.{Less, Equal, Greater}
use Rattle.document_links.specs.declared.anchors.PageAnchors.{PageAnchors}
use Rattle.saved_site.specs.Served.{AliasesAscend, AnchorsAscend}
use Rattle.site_check.specs.Complete.{AreOnce}
use Rattle.site_check.specs.Documents.{AreInOrder}
use Rattle.site_files.specs.Firsts.{cmp_keys}
use Rattle.site_files.specs.declared.alias.Alias.{Alias}

not_less : (o : Ordering) → o ≡ ordering_reverse o → o ≡ Less → ⊥
not_less Less same is = cc
not_less Equal same is = cc
not_less Greater same is = cc

-- two results in order have two URLs
two_urls : (pages : List PageResult) → IsAscending (result_urls pages) → (i j : ℕ) (a b : PageResult) → i < j → j < length pages → get_or pages i a ≡ a → get_or pages j b ≡ b → a.url ≡ b.url → ⊥
two_urls pages pairs i j a b before below is_a is_b same =
    let url : PageResult → List ℕ = λ r. r.url in
    let long : length (map url pages) ≡ length pages = length-map pages url in
    let below_i : i < length pages = omega (arith, before, below) in
    let below_j : j < length (map url pages) = omega (arith, below, long) in
    let at_i : get_or (map url pages) i [] ≡ a.url = get_or-map url pages i a [] below_i ∙ ap url is_a in
    let at_j : get_or (map url pages) j [] ≡ b.url = get_or-map url pages j b [] below ∙ ap url is_b in
    let less : slice_cmp nat_cmp a.url b.url ≡ Less = (λ k. slice_cmp nat_cmp (sym at_i k) (sym at_j k)) ∙ pairs i j [] before below_j in
    not_less (slice_cmp nat_cmp a.url a.url) (nat_list_cmp_total.antisymm a.url a.url) (ap (slice_cmp nat_cmp a.url) same ∙ less)

pub once_ascending : (pages : List PageResult) → IsAscending (result_urls pages) → AreOnce pages
once_ascending pages pairs = record { same = one }
  where
    one : (a b : PageResult) → Contains pages a → Contains pages b → a.url ≡ b.url → a ≡ b
    one a b is_a is_b same =
        let i = is_a.0 in
        let j = is_b.0 in
        elim (cases_eq i j) [
          | inl there ↦ sym is_a.2 ∙ get_or_default pages i a b is_a.1 ∙ ap (λ k. get_or pages k b) there ∙ is_b.2
          | inr other ↦
              elim (cases_lt i j) [
                | inl before ↦ absurd (two_urls pages pairs i j a b before is_b.1 is_a.2 is_b.2 same)
                | inr not_before ↦ absurd (two_urls pages pairs j i b a (omega (arith, not_before, other)) is_a.1 is_b.2 is_a.2 (sym same))
              ]
        ]

-- so it is of those below a top
pub once_own : (top : List ℕ) (pages : List PageResult) → AreOnce pages → AreOnce (own_of top pages)
once_own top pages once =
    record {
      same = λ a b is_a is_b same. once.same a b (among a is_a) (among b is_b) same;
    }
  where
    among : (x : PageResult) → Contains (own_of top pages) x → Contains pages x
    among x has = All-contains (Contains pages) (own_of top pages) x (All-filter (λ (r : PageResult). begins top r.url) (Contains pages) pages (All-contains_itself pages)) has

-- ---- results in the order of their URLs

abbrev url_in : PageResult → List ℕ
url_in r = r.url

before_all : (first : PageResult) (more : List PageResult) → ((j : ℕ) (d : List ℕ) → j < length (result_urls more) → slice_cmp nat_cmp first.url (get_or (result_urls more) j d) ≡ Less) → AllByRecursion (λ r. cmp_keys url_in first r ≡ Less) more
before_all first [] before = tt
before_all first (r ∷ more) before = (before zero [] (suc-le-suc zero-le), before_all first more (λ j d below. before (suc j) d (suc-le-suc below)))

strictly : (pages : List PageResult) → IsAscending (result_urls pages) → IsStrictlySortedBy (cmp_keys url_in) pages
unfolding IsStrictlySortedBy
strictly [] pairs = tt
strictly (r ∷ more) pairs = (
  before_all r more (λ j d below. pairs zero (suc j) d (suc-le-suc zero-le) (suc-le-suc below)),
  strictly more (λ i j d before below. pairs (suc i) (suc j) d (suc-le-suc before) (suc-le-suc below)),
)

-- so are those below a top
pub in_order : (anchors : List PageAnchors) (aliases : List Alias) (pages own : List PageResult) (top : List ℕ) → AnchorsAscend anchors → AliasesAscend aliases → IsAscending (result_urls pages) → own ≡ own_of top pages → AreInOrder anchors aliases own
in_order anchors aliases pages own top anchors_ascend aliases_ascend ascends are_own = record {
  own = anchors_ascend;
  others = aliases_ascend;
  found = subst (IsStrictlySortedBy (cmp_keys url_in)) (sym are_own) (IsStrictlySortedBy-filter (cmp_keys url_in) (λ (r : PageResult). begins top r.url) pages (strictly pages ascends));
}
