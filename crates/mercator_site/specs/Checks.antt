-- The report of a check of a folder's links.
use Rattle.std.specs.Prelude.{◌≡◌, ◌==◌, ℕ, Bool, true, false, not, ◌&&◌, ◌||◌, List, [], ◌∷◌, ◌++◌, length, map, String, Vec, string_bytes, Option, Some, None, is_some, ⊤, All, option_map}
use Rattle.std.specs.Str.Lines.{lines}
use Rattle.std.specs.declared.alloc.Global.{Global}
use Rattle.check_report.specs.Printing.{printed_text, printed_json, printed_annotations, printed_page, printed_junit, printed_sarif}
use Rattle.check_report.specs.Text.{is_broken}
use Rattle.check_report.specs.declared.value.Findings.{Findings}
use Rattle.check_report.specs.declared.value.Contents.{Contents}
use Rattle.crawl_keys.specs.HostFilter.{allows}
use Rattle.crawl_keys.specs.HostKey.{host_key}
use Rattle.crawl_certificate.specs.Certificate.{IsCrawl}
use Rattle.document_links.specs.declared.anchors.PageAnchors.{PageAnchors}
use Rattle.document_links.specs.declared.positions.LinkPlaces.{LinkPlaces}
use Rattle.saved_pages.specs.SavedWeb.{page_of}
use Rattle.saved_pages.specs.WebErrors.{IsSound}
use Rattle.crawl_pages.specs.declared.page.PageResult.{PageResult}
use Rattle.crawl_run.specs.declared.crawled.Crawled.{Crawled}
use Rattle.mercator_site.specs.Asks.{Asks}
use Rattle.mercator_site.specs.External.{AreExternal, Row, host_root, row_of}
use Rattle.mercator_site.specs.Maps.{names_of, unmapped}
use Rattle.mercator_site.specs.Misses.{IsRightlyMissed}
use Rattle.mercator_site.specs.Own.{own_of}
use Rattle.mercator_site.specs.Starts.{AreStarts, documents_in}
use Rattle.mercator_site.specs.declared.crawl.SiteCrawls.{SiteCrawls}
use Rattle.mercator_site.specs.declared.options.CheckForm.{CheckForm}
use Rattle.mercator_site.specs.declared.options.CheckForm.TheVariants as form
use Rattle.saved_site.specs.Aliases.{alias_page}
use Rattle.saved_site.specs.AllPages.{IsWebOf}
use Rattle.site_files.specs.Bodies.{contents_at}
use Rattle.site_files.specs.Files.{IsOfNames, server_of}
use Rattle.site_files.specs.Serving.{Serves, folder_with}
use Rattle.site_files.specs.declared.rules.Rules.{Rules}
use Rattle.site_files.specs.Below.{IsTop}
use Rattle.saved_site.specs.Below.{IsWebBelow}
use Rattle.saved_site.specs.Meaning.{IsSiteWeb}
use Rattle.saved_site.specs.Served.{HaveAnchors, IsServedPage}
use Rattle.saved_site.specs.declared.web.LinkedSite.{LinkedSite}
use Rattle.site_check.specs.Base.{hint_at}
use Rattle.site_check.specs.Broken.{redirects_of}
use Rattle.site_check.specs.Complete.{AreOnce, HasAllLinks}
use Rattle.site_check.specs.Documents.{AreInOrder}
use Rattle.site_files.specs.declared.files.SiteFiles.{SiteFiles}
use Rattle.site_files.specs.declared.alias.Alias.{Alias}
use Rattle.site_check.specs.LinkBase.{base_hint_of}
use Rattle.site_check.specs.Ignored.{not_ignored, unused_by}
use Rattle.site_check.specs.LackedPlaces.{HasAllLacks}
use Rattle.site_check.specs.Locations.{IsLocated}
use Rattle.site_check.specs.Reported.{AreReported, ReportsAnchors}
use Rattle.site_check.specs.RowMeanings.{way_of}
use Rattle.site_check.specs.Totals.{totals_of}
use Rattle.site_check.specs.Unlisted.{unlisted_of}
use Rattle.site_check.specs.Unreached.{unreached_of}
use Rattle.site_check.specs.Worst.{file_links, worst_of}
use Rattle.site_check.specs.declared.check.Checked.{Checked}

-- the results in a form, with the optional lists
abbrev pub printed_check : CheckForm → Contents → Findings → List ℕ
printed_check (form.Text colour) contents f = printed_text colour contents f
printed_check form.Json contents f = printed_json contents f
printed_check form.Annotations contents f = printed_annotations contents f
printed_check form.Page contents f = printed_page contents f
printed_check form.Junit contents f = printed_junit contents f
printed_check form.Sarif contents f = printed_sarif contents f

-- these pages were crawled in the saved web, from the top or the seeds and from these documents, within the top's host
pub record IsTopCrawl (top web : List ℕ) (reachable : Bool) (links documents : List (List ℕ)) (pages : List PageResult) : Type 0 where
  pub begun : List (List ℕ)
  pub started : AreStarts top web reachable links begun
  pub sound : IsSound (lines web)
  pub found : IsCrawl (page_of (lines web)) (allows (host_key top ∷ [])) (begun ++ documents) pages

-- this is what a search from the top or the seeds finds in the saved web, if unreached files are listed
abbrev pub AreReached : Bool → List ℕ → List ℕ → Bool → List (List ℕ) → Option (List PageResult) → Type 0
AreReached true top web reachable links (Some pages) = IsTopCrawl top web reachable links [] pages
AreReached true top web reachable links None = ⊥
AreReached false top web reachable links (Some pages) = ⊥
AreReached false top web reachable links None = Unit {0}

-- what the search of these crawls finds, if unreached files are listed: if there is only one crawl, it is that search
abbrev pub reached_by : Option Crawled → List PageResult → Bool → Option (List PageResult)
reached_by (Some found) whole listed = Some found.result
reached_by None whole true = Some whole
reached_by None whole false = None

abbrev pub reached_in : SiteCrawls → Bool → Option (List PageResult)
reached_in crawls listed = reached_by crawls.reached crawls.whole.result listed

-- the files that a search does not reach, as they are reported; none if there is no search
abbrev pub unreached_by : List ℕ → SiteFiles → Option (List PageResult) → List (List ℕ)
unreached_by front site None = []
unreached_by front site (Some results) = unreached_of front site results

-- the URLs that sitemaps list, if the documents that none lists are reported
abbrev pub listed_in : LinkedSite → Bool → Option (List (List ℕ))
listed_in site true = Some site.listed.items
listed_in site false = None

-- the documents that none of these URLs lists, as they are reported; none if they are not reported
abbrev pub unlisted_by : List ℕ → List Alias → List (List ℕ) → Option (List (List ℕ)) → List (List ℕ)
unlisted_by front aliases documents None = []
unlisted_by front aliases documents (Some listed) = unlisted_of front aliases documents listed

-- these are the rows of the pages' links to other hosts than the one with this root, if they are listed
abbrev pub AreOthersListed : Bool → List ℕ → List PageResult → Option (List Row) → Type 0
AreOthersListed true root pages (Some rows) = AreExternal root pages rows
AreOthersListed true root pages None = ⊥
AreOthersListed false root pages (Some rows) = ⊥
AreOthersListed false root pages None = ⊤

-- the rows of external links in a report
abbrev pub other_rows : Contents → Option (List Row)
other_rows contents = option_map (λ urls. map row_of urls.now) contents.external

-- the results of a check of a site are those of a crawl: in `own`, the results of the site's own URLs, the missing pages and the redirects,
-- each with the number of pages that link to it, and the invalid links, if they are reported; in `pages`, all results, the missing pages on
-- the site's host that are not below the top and that no folder of a map has; in `reached`, what a search finds, the files that it does not
-- reach; the documents that no sitemap lists, without those that an entry matches; the entries that match nothing; the files with the most
-- broken links; and the hint at BASE. The totals count the pages at the own URLs of files, those of some documents apart, their links, the
-- pages at these aliases, and the rows. By the totals something is broken if there is a row: of a missing page or anchor, of an invalid
-- link, or of a link that leads out of the site
pub record AreResults (site : SiteFiles) (reads : ℕ → Option (List ℕ) → Type 0) (own pages : List PageResult) (reached : Option (List PageResult)) (aliases : List Alias) (anchors : List PageAnchors) (asks : Asks) (checked : Checked) : Type 0 where
  pub ways : map way_of checked.redirects.items ≡ redirects_of asks.front own
  -- the own URLs of documents
  pub documents : List (List ℕ)
  pub totals : checked.totals ≡ totals_of aliases documents own checked.broken.items checked.redirects.items
  -- what is known of the links of these pages
  pub places : List LinkPlaces
  -- the entries that match nothing of the rows
  pub unused : List (List ℕ)
  pub rows : AreReported asks.front asks.entries asks.scope places asks.rooted (names_of asks.folders) site own (unmapped asks.folders pages) checked.broken.items unused
  -- the URLs that sitemaps list, if the documents that none lists are reported
  pub sitemaps : Option (List (List ℕ))
  pub are_reported : is_some sitemaps ≡ asks.report.lists.unlisted
  -- these documents without those that an entry matches, and the entries that match none of them either
  pub unlisted : map string_bytes checked.unlisted.items ≡ not_ignored asks.entries (unlisted_by asks.front aliases documents sitemaps)
  pub unused_left : map string_bytes checked.unused_ignores.items ≡ unused_by (unlisted_by asks.front aliases documents sitemaps) unused
  pub located : All (IsLocated asks.front places site own reads) checked.broken.items
  -- no link to a missing page is left out, if each URL is that of one result
  pub complete : AreOnce own → HasAllLinks asks.front asks.entries aliases places site own reads checked.broken.items
  -- the missing anchors are those that the documents with these anchors lack, and no link to one is left out, if each URL is that of one
  pub lacked : AreInOrder anchors aliases own → ReportsAnchors asks.front asks.entries anchors aliases site own checked.broken.items
  pub all_lacked : AreInOrder anchors aliases own → HasAllLacks asks.front asks.entries anchors aliases site own reads checked.broken.items
  pub verdict : is_broken checked.totals ≡ not (length checked.broken.items == 0)
  pub worst : map file_links checked.worst.items ≡ worst_of checked.broken.items
  pub unreached : map string_bytes checked.unreached.items ≡ unreached_by asks.front site reached
  pub base_hint : option_map hint_at checked.base_hint ≡ base_hint_of asks.rooted site own checked.broken.items

-- the text is these results of a check of a site with this name, with these external links. The check fails if something is broken, or if
-- there is a document that no sitemap lists, and these are reported
pub record IsReport (checked : Checked) (others : Option (List Row)) (name : List ℕ) (asks : Asks) (broken : Bool) (text : List ℕ) : Type 0 where
  pub found : Findings
  pub base : found.base.now ≡ name
  pub totals : found.totals ≡ checked.totals
  pub rows : found.broken.now ≡ checked.broken.items
  pub worst : found.worst.now ≡ checked.worst.items
  pub ways : found.redirects.now ≡ checked.redirects.items
  pub unreached : found.unreached.now ≡ checked.unreached.items
  pub unlisted : found.unlisted.now ≡ checked.unlisted.items
  pub unused : found.unused_ignores.now ≡ checked.unused_ignores.items
  pub base_hint : option_map (λ hint. hint.now) found.base_hint ≡ checked.base_hint
  pub is_broken : broken ≡ is_broken checked.totals || (asks.report.lists.unlisted && not (length checked.unlisted.items == 0))
  pub contents : Contents
  pub lists : contents.lists ≡ asks.report.lists
  pub folder : contents.folder.now ≡ asks.folder
  pub source_url : contents.source_url.now ≡ asks.source_url
  pub others_listed : other_rows contents ≡ others
  pub written : text ≡ printed_check asks.report.form contents found

-- the text is the report of a check of these results of a crawl, with the links to other hosts than the site's, if they are listed. A missing
-- page of the site is rightly so
pub record IsFindings (name : List ℕ) (site : SiteFiles) (reads : ℕ → Option (List ℕ) → Type 0) (own pages : List PageResult) (reached : Option (List PageResult)) (aliases : List Alias) (anchors : List PageAnchors) (asks : Asks) (broken : Bool) (text : List ℕ) : Type 0 where
  pub missing : All (IsRightlyMissed site) own
  pub checked : Checked
  pub results : AreResults site reads own pages reached aliases anchors asks checked
  pub others : Option (List Row)
  pub are_others : AreOthersListed asks.report.external (host_root site) own others
  pub report : IsReport checked others name asks broken text

-- the text reports what is found in the results of a crawl of the saved web below the top, on a site with this name and these files. The
-- crawl also starts at the own URL of each document, sitemap and feed of the site at which a check starts, unless only what the search
-- reaches is checked
pub record IsCheck (site : SiteFiles) (reads : ℕ → Option (List ℕ) → Type 0) (name top web : List ℕ) (aliases : List Alias) (anchors : List PageAnchors) (asks : Asks) (broken : Bool) (text : List ℕ) : Type 0 where
  pub pages : List PageResult
  pub crawled : IsTopCrawl top web asks.reachable asks.seeds (documents_in asks.reachable site top) pages
  pub own : List PageResult
  pub are_own : own ≡ own_of top pages
  pub reached : Option (List PageResult)
  pub are_reached : AreReached asks.report.lists.unreached top web asks.reachable asks.seeds reached
  pub findings : IsFindings name site reads own pages reached aliases anchors asks broken text
  -- no link to a missing page is left out
  pub complete : HasAllLinks asks.front asks.entries aliases findings.results.places site own reads findings.checked.broken.items
  -- the missing anchors are those that the documents with these anchors lack, and no link to one is left out
  pub lacked : ReportsAnchors asks.front asks.entries anchors aliases site own findings.checked.broken.items
  pub all_lacked : HasAllLacks asks.front asks.entries anchors aliases site own reads findings.checked.broken.items

-- the page of each alias in the saved web has one link, to the own URL of the alias's file
abbrev pub AreAliasesIn : List ℕ → List Alias → Type 0
AreAliasesIn web aliases = All (λ alias. page_of (lines web) alias.url ≡ alias_page alias) aliases

-- what can be read of the file with an index: only the body of this file, or anything
abbrev pub IsBody : List (Vec ℕ Global) → ℕ → Option (List ℕ) → Type 0
IsBody bodies index found = found ≡ contents_at bodies index

abbrev pub IsAny : ℕ → Option (List ℕ) → Type 0
IsAny index found = Unit {0}

-- such a check, of the saved web of a site with some aliases, whose pages are below the top. They are those that a server returns for
-- these files, of which this can be read, and so are their anchors
pub record IsSiteCheck (files : SiteFiles) (reads : ℕ → Option (List ℕ) → Type 0) (name : List ℕ) (asks : Asks) (broken : Bool) (text : List ℕ) : Type 0 where
  pub web : List ℕ
  pub made : IsSiteWeb web
  pub of_files : IsWebOf files reads web
  pub below : IsWebBelow (string_bytes files.site.top) web
  pub aliases : List Alias
  pub are_aliases : AreAliasesIn web aliases
  -- the anchors of each page are those that are kept of what was read of its file
  pub anchors : List PageAnchors
  pub are_anchors : HaveAnchors (IsServedPage files reads) of_files.pages anchors
  pub checked : IsCheck files reads name (string_bytes files.site.top) web aliases anchors asks broken text

-- such a check, of the files with these names and bodies, whose top is that of BASE. A server answers for them as it does for a folder
pub record IsSiteCheckAt (names : List (String Global)) (bodies : List (Vec ℕ Global)) (rules : Rules) (name base : List ℕ) (asks : Asks) (broken : Bool) (text : List ℕ) : Type 0 where
  pub files : SiteFiles
  pub of_names : IsOfNames names rules files
  pub server : Serves (server_of files) (folder_with names []) files.pages files.linked
  pub is_top : IsTop base (string_bytes files.site.top)
  pub site : IsSiteCheck files (IsBody bodies) name asks broken text
