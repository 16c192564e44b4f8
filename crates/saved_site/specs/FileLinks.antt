-- The links of a file and the anchors that are kept of it, by its kind.
use Rattle.std.specs.Prelude.{◌≡◌, ◌^◌, ℕ, Bool, true, false, List, [], Option, None, option_map, string_bytes, if◌then◌else◌}
use Rattle.html_links.specs.declared.context.Syntax.{Syntax}
use Rattle.html_links.specs.declared.context.Syntax.TheVariants as syntax
use Rattle.document_links.specs.Encoding.{HasFeed, HasSheet, HasUrlList}
use Rattle.document_links.specs.KeptAnchors.{IsRead}
use Rattle.document_links.specs.Sniffing.{is_document}
use Rattle.document_links.specs.declared.anchor_targets.AnchorTargets.{AnchorTargets}
use Rattle.document_links.specs.declared.document.ReadOptions.{ReadOptions}
use Rattle.site_files.specs.Server.{after_front}
use Rattle.site_files.specs.declared.files.SiteFiles.{SiteFiles}
use Rattle.site_files.specs.declared.kinds.FileKind.{FileKind}
use Rattle.site_files.specs.declared.kinds.FileKind.TheVariants.{Html, Xml, Svg, Style, Feed, UrlList, Unknown}
use Rattle.saved_site.specs.SiteAnchors.{KeepsAnchors}
use Rattle.saved_site.specs.declared.page.SiteAnchors.{SiteAnchors}
use Rattle.saved_site.specs.declared.page.SitePage.{SitePage}
use Rattle.saved_site.specs.declared.page.Under.{Under}
use Rattle.saved_site.specs.declared.page.Under.TheVariants.{Links}

-- a document that is found by its first bytes is HTML. Style sheets, feeds and lists of URLs are read without a syntax
abbrev pub syntax_of : FileKind → Syntax
syntax_of Html = syntax.Html
syntax_of Xml = syntax.Xhtml
syntax_of Svg = syntax.Xhtml
syntax_of Style = syntax.Html
syntax_of Feed = syntax.Html
syntax_of UrlList = syntax.Html
syntax_of Unknown = syntax.Html

-- the path of the top, if absolute paths are below it
abbrev pub root_of : SiteFiles → Option (List ℕ)
root_of files = if files.rules.now.rooted then after_front (string_bytes files.site.origin) (string_bytes files.site.top) else None

-- what is read of a file of this kind: not more links than the largest saved web has
pub record AreOptions (files : SiteFiles) (kind : FileKind) (options : ReadOptions) : Type 0 where
  pub syntax : options.syntax ≡ syntax_of kind
  pub styles : options.styles ≡ files.rules.now.styles
  pub anchors : options.anchors ≡ files.rules.now.anchors
  pub places : options.places ≡ files.rules.now.places
  pub root : option_map (λ path. path.now) options.root ≡ root_of files
  pub limit : options.byte_limit ≡ 2 ^ 30

-- a file of this kind at this URL, with these contents, has these link texts, and this is kept of its anchors. Only documents have anchors
abbrev pub HasFileLinks : FileKind → ReadOptions → List ℕ → List ℕ → List (List ℕ) → Option AnchorTargets → Type 0
HasFileLinks Html options url body links kept = IsRead options url body links kept
HasFileLinks Xml options url body links kept = IsRead options url body links kept
HasFileLinks Svg options url body links kept = IsRead options url body links kept
HasFileLinks Style options url body links kept = HasSheet options body links × (kept ≡ None)
HasFileLinks Feed options url body links kept = HasFeed options body links × (kept ≡ None)
HasFileLinks UrlList options url body links kept = HasUrlList options body links × (kept ≡ None)
HasFileLinks Unknown options url body links kept = IsRead options url body links kept

pub record IsFileDocument (files : SiteFiles) (url : List ℕ) (kind : FileKind) (body : List ℕ) (links : List (List ℕ)) (kept : Option AnchorTargets) : Type 0 where
  pub options : ReadOptions
  pub are : AreOptions files kind options
  pub has : HasFileLinks kind options url body links kept

-- the page at this URL, with these contents and these anchors
abbrev pub IsPageWith : List ℕ → Under → Option SiteAnchors → SitePage → Type 0
IsPageWith url under anchors page = (page.url ≡ url) × (page.under ≡ under) × (page.anchors ≡ anchors)

-- the page at this URL, with these contents and no anchors
abbrev pub IsPageOf : List ℕ → Under → SitePage → Type 0
IsPageOf url under page = IsPageWith url under None page

-- the links of a file of this kind with these contents are read. If the kind is unknown, that is so if the file begins like a document
abbrev pub is_read : FileKind → List ℕ → Bool
is_read Html body = true
is_read Xml body = true
is_read Svg body = true
is_read Style body = true
is_read Feed body = true
is_read UrlList body = true
is_read Unknown body = is_document body

-- the page at the URL of a file of this kind with these contents: it has the links of the file, and the anchors that are kept of it
pub record IsFilePage (files : SiteFiles) (url : List ℕ) (kind : FileKind) (body : List ℕ) (page : SitePage) : Type 0 where
  pub links : List (List ℕ)
  pub kept : Option AnchorTargets
  pub own : page.url ≡ url
  pub under : page.under ≡ Links links
  pub anchors : KeepsAnchors files kept page.anchors
  pub has : is_read kind body ≡ true → IsFileDocument files url kind body links kept
  pub none : is_read kind body ≡ false → (links ≡ []) × (kept ≡ None)
