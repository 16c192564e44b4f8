-- Two checks of one saved web with the same settings.
use Rattle.mercator_site.proofs.Prelude.{◌≡◌, ◌∙◌, ℕ, List, [], ◌∷◌, ◌++◌, Ok, Result, arith, ap, map, refl, string_bytes, subst, sym, true, false, Alias, AreStarts, Asks, IsCheck, IsCrawl, IsTopCrawl, PageResult, allows, host_key, own_of}
use Rattle.std.proofs.Common.{Bool}
use Rattle.std.specs.List.{list_any}
use Rattle.std.specs.Prelude.{None, Option, Some}
use Rattle.std.specs.Str.Lines.{lines}
use Rattle.crawl_certificate.proofs.OneCrawl.{one_crawl}
use Rattle.crawl_keys.specs.declared.error.KeyError.{KeyError}
use Rattle.document_links.specs.declared.anchors.PageAnchors.{PageAnchors}
use Rattle.mercator_site.specs.Checks.{AreReached, unreached_by}
use Rattle.mercator_site.specs.Maps.{names_of, unmapped}
use Rattle.mercator_site.specs.Starts.{documents_in}
use Rattle.saved_pages.specs.SavedWeb.{page_of}
use Rattle.site_check.proofs.RowsLeft.{reported_all}
use Rattle.site_check.specs.Broken.{broken_of, names_file, redirects_of}
use Rattle.site_check.specs.RowMeanings.{rows_in, way_of}
use Rattle.site_files.specs.declared.files.SiteFiles.{SiteFiles}

-- ---- the results

-- of texts that are all canonical, there is one list of URLs
abbrev as_ok : List ℕ → Result (List ℕ) KeyError
as_ok url = Ok url

same_oks : (xs ys : List (List ℕ)) → map as_ok xs ≡ map as_ok ys → xs ≡ ys
same_oks [] [] same = refl
same_oks [] (y ∷ ys) same = absurd (cc)
same_oks (x ∷ xs) [] same = absurd (cc)
same_oks (x ∷ xs) (y ∷ ys) same = grind (arith, same_oks xs ys)

one_start : (top web : List ℕ) (reachable : Bool) (links begun others : List (List ℕ)) → AreStarts top web reachable links begun → AreStarts top web reachable links others → begun ≡ others
one_start top web reachable links begun others own its = same_oks begun others (sym own.resolved ∙ its.resolved)

one_top_crawl : (top web : List ℕ) (reachable : Bool) (links documents : List (List ℕ)) (pages others : List PageResult) → IsTopCrawl top web reachable links documents pages → IsTopCrawl top web reachable links documents others → pages ≡ others
one_top_crawl top web reachable links documents pages others own its =
    let begun : own.begun ≡ its.begun = one_start top web reachable links own.begun its.begun own.started its.started in
    let allowed = allows (host_key top ∷ []) in
    one_crawl (page_of (lines web)) allowed (its.begun ++ documents) pages others (subst (λ (bs : List (List ℕ)). IsCrawl (page_of (lines web)) allowed (bs ++ documents) pages) begun own.found) its.found

one_reached : (listed : Bool) (top web : List ℕ) (reachable : Bool) (links : List (List ℕ)) (reached others : Option (List PageResult)) → AreReached listed top web reachable links reached → AreReached listed top web reachable links others → reached ≡ others
one_reached true top web reachable links (Some pages) (Some others) own its = ap (λ (ps : List PageResult). Some ps) (one_top_crawl top web reachable links [] pages others own its)
one_reached true top web reachable links (Some pages) None own its = absurd its
one_reached true top web reachable links None others own its = absurd own
one_reached false top web reachable links None None own its = refl
one_reached false top web reachable links None (Some others) own its = absurd its
one_reached false top web reachable links (Some pages) others own its = absurd own

-- ---- what is reported of them

module _ (files : SiteFiles) (reads : ℕ → Option (List ℕ) → Type 0) (name top web : List ℕ) (aliases others : List Alias) (anchors kept : List PageAnchors) (asks : Asks) (broken fails : Bool) (text report : List ℕ) where
  one_pages : (one : IsCheck files reads name top web aliases anchors asks broken text) (other : IsCheck files reads name top web others kept asks fails report) → one.pages ≡ other.pages
  one_pages one other = one_top_crawl top web asks.reachable asks.seeds (documents_in asks.reachable files top) one.pages other.pages one.crawled other.crawled

  one_own : (one : IsCheck files reads name top web aliases anchors asks broken text) (other : IsCheck files reads name top web others kept asks fails report) → one.own ≡ other.own
  one_own one other = one.are_own ∙ ap (own_of top) (one_pages one other) ∙ sym other.are_own

  pub same_results : (one : IsCheck files reads name top web aliases anchors asks broken text) (other : IsCheck files reads name top web others kept asks fails report) → (one.pages ≡ other.pages) × (one.own ≡ other.own)
  same_results one other = (one_pages one other, one_own one other)

  pub same_redirects : (one : IsCheck files reads name top web aliases anchors asks broken text) (other : IsCheck files reads name top web others kept asks fails report) → map way_of one.findings.checked.redirects.items ≡ map way_of other.findings.checked.redirects.items
  same_redirects one other = one.findings.results.ways ∙ ap (redirects_of asks.front) (one_own one other) ∙ sym other.findings.results.ways

  pub same_unreached : (one : IsCheck files reads name top web aliases anchors asks broken text) (other : IsCheck files reads name top web others kept asks fails report) → map string_bytes one.findings.checked.unreached.items ≡ map string_bytes other.findings.checked.unreached.items
  same_unreached one other =
      one.findings.results.unreached ∙ ap (unreached_by asks.front files) (one_reached asks.report.lists.unreached top web asks.reachable asks.seeds one.reached other.reached one.are_reached other.are_reached)
      ∙ sym other.findings.results.unreached

  -- the rows of missing pages are those of the results
  rows_of : (its : List Alias) (found : List PageAnchors) (verdict : Bool) (printed : List ℕ) (one : IsCheck files reads name top web its found asks verdict printed) → list_any names_file asks.entries ≡ false → rows_in one.findings.checked.broken.items ≡ broken_of asks.front asks.entries one.own
  rows_of its found verdict printed one none =
      let results = one.findings.results in
      let checked = one.findings.checked in
      (reported_all asks.front asks.entries asks.scope results.places asks.rooted (names_of asks.folders) files one.own (unmapped asks.folders one.pages) checked.broken.items results.unused none results.rows).pages

  pub same_pages : list_any names_file asks.entries ≡ false → (one : IsCheck files reads name top web aliases anchors asks broken text) (other : IsCheck files reads name top web others kept asks fails report) →
      rows_in one.findings.checked.broken.items ≡ rows_in other.findings.checked.broken.items
  same_pages none one other = rows_of aliases anchors broken text one none ∙ ap (broken_of asks.front asks.entries) (one_own one other) ∙ sym (rows_of others kept fails report other none)
