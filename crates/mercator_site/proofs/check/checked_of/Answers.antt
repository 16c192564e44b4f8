use Rattle.mercator_site.proofs.Prelude.{ℕ, List, Global, Vec, ap, refl, map, not, length, string_bytes, subst, true, false, ◌≡◌, ◌==◌, ◌∙◌, AreResults, Asks, asks_in, Alias, PageResult}
use Rattle.std.proofs.Common.{Bool}
use Rattle.std.specs.Borrow.{Bor}
use Rattle.std.specs.Prelude.{All, Option, Some, None, String, is_some, option_map}
use Rattle.check_report.specs.Text.{is_broken}
use Rattle.document_links.specs.declared.anchors.PageAnchors.{PageAnchors}
use Rattle.mercator_site.specs.Checks.{listed_in, reached_in, unlisted_by, unreached_by}
use Rattle.mercator_site.specs.Inputs.{Input, input_in, input_with}
use Rattle.mercator_site.specs.Maps.{names_of, unmapped}
use Rattle.saved_site.specs.declared.web.LinkedSite.{LinkedSite}
use Rattle.site_check.specs.Base.{hint_at}
use Rattle.site_check.specs.Broken.{redirects_of}
use Rattle.site_check.specs.Complete.{AreOnce, HasAllLinks}
use Rattle.site_check.specs.Documents.{AreInOrder}
use Rattle.site_check.specs.Ignored.{not_ignored, unused_by}
use Rattle.site_check.specs.LackedPlaces.{HasAllLacks}
use Rattle.site_check.specs.LinkBase.{base_hint_of}
use Rattle.site_check.specs.Locations.{IsLocated}
use Rattle.site_check.specs.Reported.{AreReported, ReportsAnchors}
use Rattle.site_check.specs.RowMeanings.{way_of}
use Rattle.site_check.specs.Totals.{totals_of}
use Rattle.site_check.specs.Unlisted.{unlisted_in}
use Rattle.site_check.specs.Unreached.{unreached_in}
use Rattle.site_check.specs.Worst.{file_links, worst_of}
use Rattle.site_check.specs.declared.check.Checked.{Checked}
use Rattle.site_check.specs.declared.input.CheckInput.{CheckInput}
use Rattle.site_files.specs.declared.files.SiteFiles.{SiteFiles}
use Rattle.mercator_site.proofs.check.checked_of.Goals as goal

by_reached : (front : List ℕ) (site : SiteFiles) (reached : Option (Bor (List PageResult))) → unreached_in front site reached ≡ unreached_by front site (option_map (λ results. results.now) reached)
by_reached front site None = refl
by_reached front site (Some results) = refl

by_listed : (front : List ℕ) (aliases : List Alias) (documents : List (List ℕ)) (listed : Option (Bor (List (List ℕ)))) → unlisted_in front aliases documents listed ≡ unlisted_by front aliases documents (option_map (λ urls. urls.now) listed)
by_listed front aliases documents None = refl
by_listed front aliases documents (Some urls) = refl

-- the URLs that sitemaps list are there if the documents that none lists are reported
if_reported : (site : LinkedSite) (reported : Bool) → is_some (listed_in site reported) ≡ reported
if_reported site true = refl
if_reported site false = refl

-- these results with other documents that no sitemap lists and other unused entries
abbrev with_lists : Checked → Vec (String Global) Global → Vec (String Global) Global → Checked
with_lists found documents entries = record {
  totals = found.totals;
  broken = found.broken;
  worst = found.worst;
  redirects = found.redirects;
  unreached = found.unreached;
  unlisted = documents;
  unused_ignores = entries;
  base_hint = found.base_hint;
}

module _ (found : Checked) (texts entries : Vec (String Global) Global) (site : SiteFiles) (reads : ℕ → Option (List ℕ) → Type 0) (own pages : List PageResult) (reached : Option (List PageResult)) (aliases : List Alias) (documents : List (List ℕ)) (anchors : List PageAnchors) (sitemaps : Option (List (List ℕ))) (asks : Asks) (input : CheckInput) (same : input_in input ≡ input_with asks (names_of asks.folders) (unmapped asks.folders pages) aliases documents anchors reached sitemaps) where
  -- the documents that no sitemap lists are those by the settings that the input has
  unlisted_as : map string_bytes found.unlisted.items ≡ unlisted_in input.front.now input.aliases.now input.documents.now input.listed → map string_bytes found.unlisted.items ≡ unlisted_by asks.front aliases documents sitemaps
  unlisted_as unlisted = unlisted ∙ by_listed input.front.now input.aliases.now input.documents.now input.listed ∙ ap (λ (i : Input). unlisted_by i.front i.aliases i.documents i.listed) same

  -- what is found with an input is found with the settings that the input has
  results_of : is_some sitemaps ≡ asks.report.lists.unlisted
      → AreReported input.front.now (map string_bytes input.ignores.now) input.scope input.places.now input.rooted input.maps.now site own input.found.now found.broken.items (map string_bytes found.unused_ignores.items)
      → map way_of found.redirects.items ≡ redirects_of input.front.now own → found.totals ≡ totals_of input.aliases.now input.documents.now own found.broken.items found.redirects.items
      → is_broken found.totals ≡ not (length found.broken.items == 0) → map file_links found.worst.items ≡ worst_of found.broken.items
      → map string_bytes found.unreached.items ≡ unreached_in input.front.now site input.reached → All (IsLocated input.front.now input.places.now site own reads) found.broken.items
      → (AreOnce own → HasAllLinks input.front.now (map string_bytes input.ignores.now) input.aliases.now input.places.now site own reads found.broken.items)
      → (AreInOrder input.anchors.now input.aliases.now own → ReportsAnchors input.front.now (map string_bytes input.ignores.now) input.anchors.now input.aliases.now site own found.broken.items)
      → (AreInOrder input.anchors.now input.aliases.now own → HasAllLacks input.front.now (map string_bytes input.ignores.now) input.anchors.now input.aliases.now site own reads found.broken.items)
      → option_map hint_at found.base_hint ≡ base_hint_of input.rooted site own found.broken.items
      → map string_bytes found.unlisted.items ≡ unlisted_in input.front.now input.aliases.now input.documents.now input.listed
      → map string_bytes texts.items ≡ not_ignored asks.entries (map string_bytes found.unlisted.items)
      → map string_bytes entries.items ≡ unused_by (map string_bytes found.unlisted.items) (map string_bytes found.unused_ignores.items)
      → AreResults site reads own pages reached aliases anchors asks (with_lists found texts entries)
  results_of reported rows ways totals verdict worst unreached located complete lacked all_lacked hint unlisted texts_left entries_left = record {
    ways = ways ∙ ap (λ (i : Input). redirects_of i.front own) same;
    documents = documents;
    totals = totals ∙ ap (λ (i : Input). totals_of i.aliases i.documents own found.broken.items found.redirects.items) same;
    places = input.places.now;
    unused = map string_bytes found.unused_ignores.items;
    rows =
        subst (λ (i : Input). AreReported i.front i.entries i.scope input.places.now i.rooted i.maps site own i.found found.broken.items (map string_bytes found.unused_ignores.items))
        same rows;
    sitemaps = sitemaps;
    are_reported = reported;
    unlisted = texts_left ∙ ap (not_ignored asks.entries) (unlisted_as unlisted);
    unused_left = entries_left ∙ ap (λ all. unused_by all (map string_bytes found.unused_ignores.items)) (unlisted_as unlisted);
    located = subst (λ (i : Input). All (IsLocated i.front input.places.now site own reads) found.broken.items) same located;
    complete = subst (λ (i : Input). AreOnce own → HasAllLinks i.front i.entries i.aliases input.places.now site own reads found.broken.items) same complete;
    lacked = subst (λ (i : Input). AreInOrder i.anchors i.aliases own → ReportsAnchors i.front i.entries i.anchors i.aliases site own found.broken.items) same lacked;
    all_lacked = subst (λ (i : Input). AreInOrder i.anchors i.aliases own → HasAllLacks i.front i.entries i.anchors i.aliases site own reads found.broken.items) same all_lacked;
    verdict = verdict;
    worst = worst;
    unreached = unreached ∙ by_reached input.front.now site input.reached ∙ ap (λ (i : Input). unreached_by i.front site i.reached) same;
    base_hint = hint ∙ ap (λ (i : Input). base_hint_of i.rooted site own found.broken.items) same;
  }

pub returns : goal.returns
returns g c =
    let asks = asks_in c.args.settings in
    let site = c.args.crawled.site.now in
    let lists = c.args.settings.report.lists in
    let pages = c.args.crawled.pages.now in
    let checked = c.in_ok-checked.ensures in
    let names = c.as_slice-2.ensures.value ∙ c.in_ok-names.ensures in
    let left = c.as_slice.ensures.value ∙ c.in_ok-left.ensures in
    let reached = reached_in c.args.crawled.crawls.now lists.unreached in
    let listed = listed_in site lists.unlisted in
    let same = c.input_of-input.ensures ∙ ap (λ ns. input_with asks ns c.as_slice.result.now site.aliases.items site.documents.items site.anchors.items reached listed) names
    ∙ ap (λ rs. input_with asks (names_of asks.folders) rs site.aliases.items site.documents.items site.anchors.items reached listed) left in
    results_of c.in_ok-checked.checked c.ignore_unlisted.new.documents c.ignore_unlisted.new.unused_entries c.args.files.now (g.B.FileBytes.reads c.args.bytes.now) c.args.crawled.own.now pages reached
    site.aliases.items site.documents.items site.anchors.items listed asks c.input_of-input.result same (if_reported site lists.unlisted) checked.rows checked.redirects checked.totals checked.verdict checked.worst checked.unreached checked.places checked.complete
    checked.anchors checked.anchor_places checked.base_hint checked.unlisted c.ignore_unlisted.ensures.documents c.ignore_unlisted.ensures.unused
