-- The anchors of a site's documents, and their links to anchors.
use Rattle.std.specs.Prelude.{◌≡◌, ℕ, List, map, Option, Some, None, IsSomeAnd}
use Rattle.document_links.specs.declared.anchor_targets.AnchorTargets.{AnchorTargets}
use Rattle.document_links.specs.declared.anchors.Target.{Target}
use Rattle.document_links.specs.declared.anchors.Target.TheVariants as target
use Rattle.site_files.specs.Files.{url_of}
use Rattle.site_files.specs.declared.files.SiteFiles.{SiteFiles}
use Rattle.saved_site.specs.declared.page.SiteAnchors.{SiteAnchors}

-- the URL of a target: that of the page of the site with a number, or another one
abbrev pub target_url : SiteFiles → Target → Option (List ℕ)
target_url files (target.Page number) = url_of files number
target_url files (target.Other url) = Some url

-- the targets have these URLs, in order
abbrev pub HaveUrls : SiteFiles → List (List ℕ) → List Target → Type 0
HaveUrls files urls targets = map (target_url files) targets ≡ map (λ url. Some url) urls

-- these are the anchors and the links to anchors that are kept of a document, with targets in place of the URLs to which the links lead
pub record AreAnchorsKept (files : SiteFiles) (kept : AnchorTargets) (own : SiteAnchors) : Type 0 where
  pub anchors : own.anchors ≡ kept.anchors
  pub targets : HaveUrls files kept.urls.items own.targets.items

-- if nothing is kept of a file, its page has none
abbrev pub KeepsAnchors : SiteFiles → Option AnchorTargets → Option SiteAnchors → Type 0
KeepsAnchors files None own = own ≡ None
KeepsAnchors files (Some kept) own = IsSomeAnd own (AreAnchorsKept files kept)
