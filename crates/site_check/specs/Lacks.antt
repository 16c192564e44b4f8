-- Which anchors documents lack, and the links to them.
use Rattle.std.specs.Prelude.{◌≡◌, ◌++◌, ◌∷◌, ℕ, Bool, false, true, List, All, Contains, length, Option, Some, slice_get}
use Rattle.std.specs.Cmp.Lexicographic.{slice_cmp}
use Rattle.std.specs.List.{AllZip}
use Rattle.std.specs.List.Sorted.{IsStrictlySortedBy}
use Rattle.std.specs.Ordering.{nat_cmp, ordering_then}
use Rattle.std.specs.Str.Lossy.{utf8_lossy}
use Rattle.std.specs.declared.cmp.Ordering.{Ordering}
use Rattle.crawl_pages.specs.declared.page.PageResult.{PageResult}
use Rattle.document_links.specs.AnchorLinks.{IsLinkTo}
use Rattle.document_links.specs.declared.anchors.PageAnchors.{PageAnchors}
use Rattle.document_links.specs.declared.anchors.Target.{Target}
use Rattle.page_anchors.specs.Indicated.{is_indicated}
use Rattle.site_check.specs.Broken.{Row, shown}
use Rattle.site_check.specs.Documents.{at_url, document_of, kept_of}
use Rattle.site_files.specs.declared.alias.Alias.{Alias}
use Rattle.site_files.specs.declared.files.SiteFiles.{SiteFiles}

-- a link to an anchor: the URL of the document and the text after the `#`, the number of the result that has the link, and the link's index
-- among those of its file if that is known
pub record Lack : Type 0 where
  pub url : List ℕ
  pub fragment : List ℕ
  pub source : ℕ
  pub index : Option ℕ

-- a page that was found has such a link to one of its targets, which leads to the document at this URL. The document lacks the anchor
pub record IsLack (documents : List PageAnchors) (aliases : List Alias) (files : SiteFiles) (results : List PageResult) (lack : Lack) : Type 0 where
  pub result : PageResult
  pub is_result : slice_get results lack.source ≡ Some result
  pub page : PageAnchors
  pub is_page : kept_of documents result ≡ Some page
  pub number : ℕ
  pub target : Target
  pub is_target : slice_get page.targets.items number ≡ Some target
  pub link : IsLinkTo page.anchors number lack.fragment lack.index
  pub document : PageAnchors
  pub leads : document_of documents aliases files results target ≡ Some (at_url lack.url document)
  pub lacks : is_indicated document.anchors.ids lack.fragment ≡ false

-- an anchor as it is printed: the URL of its document, `#`, and the text after that
abbrev pub anchor_shown : List ℕ → List ℕ → List ℕ → List ℕ
anchor_shown front url fragment = shown front url ++ 35 ∷ utf8_lossy fragment

abbrev pub lack_shown : List ℕ → Lack → List ℕ
lack_shown front lack = anchor_shown front lack.url lack.fragment

pub record Anchor : Type 0 where
  pub url : List ℕ
  pub fragment : List ℕ

abbrev pub anchor_of : Lack → Anchor
anchor_of lack = record { url = lack.url; fragment = lack.fragment }

-- by the URLs, and then by the texts after the `#`
abbrev pub anchor_cmp : Anchor → Anchor → Ordering
anchor_cmp a b = ordering_then (slice_cmp nat_cmp a.url b.url) (slice_cmp nat_cmp a.fragment b.fragment)

-- a link leads to the anchor, which its document lacks
pub record IsLacked (documents : List PageAnchors) (aliases : List Alias) (files : SiteFiles) (results : List PageResult) (anchor : Anchor) : Type 0 where
  pub lack : Lack
  pub is : IsLack documents aliases files results lack
  pub leads : anchor_of lack ≡ anchor

-- the result with this number has such a link
pub record HasLinkTo (documents : List PageAnchors) (aliases : List Alias) (files : SiteFiles) (results : List PageResult) (anchor : Anchor) (source : ℕ) : Type 0 where
  pub lack : Lack
  pub is : IsLack documents aliases files results lack
  pub leads : anchor_of lack ≡ anchor
  pub own : lack.source ≡ source

-- this is the number of different results that have such a link
pub record IsPageCount (documents : List PageAnchors) (aliases : List Alias) (files : SiteFiles) (results : List PageResult) (anchor : Anchor) (pages : ℕ) : Type 0 where
  pub sources : List ℕ
  pub once : IsStrictlySortedBy nat_cmp sources
  pub each : All (HasLinkTo documents aliases files results anchor) sources
  pub whole : (lack : Lack) → IsLack documents aliases files results lack → anchor_of lack ≡ anchor → Contains sources lack.source
  pub counted : pages ≡ length sources

-- the row of an anchor: its text, and the number of results that link to it
pub record IsRowOf (front : List ℕ) (documents : List PageAnchors) (aliases : List Alias) (files : SiteFiles) (results : List PageResult) (anchor : Anchor) (row : Row) : Type 0 where
  pub text : row.text ≡ anchor_shown front anchor.url anchor.fragment
  pub pages : IsPageCount documents aliases files results anchor row.pages

-- these are the rows of exactly the anchors to which such links lead, each once and in order
pub record AreAnchors (front : List ℕ) (documents : List PageAnchors) (aliases : List Alias) (files : SiteFiles) (results : List PageResult) (rows : List Row) : Type 0 where
  pub anchors : List Anchor
  pub in_order : IsStrictlySortedBy anchor_cmp anchors
  pub each : All (IsLacked documents aliases files results) anchors
  pub whole : (lack : Lack) → IsLack documents aliases files results lack → Contains anchors (anchor_of lack)
  pub rows_are : AllZip (IsRowOf front documents aliases files results) anchors rows

-- ---- lists of links

abbrev pub is_any : ℕ → Bool
is_any source = true

-- these are such links: all of the results whose numbers pass the test
pub record AreLacks (documents : List PageAnchors) (aliases : List Alias) (files : SiteFiles) (results : List PageResult) (taken : ℕ → Bool) (lacks : List Lack) : Type 0 where
  pub each : All (IsLack documents aliases files results) lacks
  pub whole : (lack : Lack) → IsLack documents aliases files results lack → taken lack.source ≡ true → Contains lacks lack
