-- How the links to anchors that documents lack are found: target by target, and link by link.
use Rattle.std.specs.Prelude.{◌+◌, ◌-◌, ℕ, zero, suc, if◌then◌else◌, List, [], ◌∷◌, ◌++◌, length, Option, Some, None}
use Rattle.crawl_pages.specs.declared.page.PageResult.{PageResult}
use Rattle.document_links.specs.Anchors.{Link, begin_of, end_of, link_at}
use Rattle.document_links.specs.declared.anchors.Anchors.{Anchors}
use Rattle.document_links.specs.declared.anchors.PageAnchors.{PageAnchors}
use Rattle.document_links.specs.declared.anchors.Target.{Target}
use Rattle.page_anchors.specs.Indicated.{is_indicated}
use Rattle.site_check.specs.Documents.{DocumentAt}
use Rattle.site_check.specs.Lacks.{Lack}
use Rattle.site_check.specs.declared.anchors.LinksTo.{LinksTo}
use Rattle.site_check.specs.declared.missing_anchors.MissingAnchorLink.{MissingAnchorLink}

-- ---- the targets that lead to documents

-- the links of the result with this number to the target with this index, which lead to the document
pub record TargetLinks : Type 0 where
  pub source : ℕ
  pub anchors : Anchors
  pub target : ℕ
  pub to : DocumentAt

abbrev pub links_to : ℕ → Anchors → ℕ → Option DocumentAt → List TargetLinks
links_to source anchors target None = []
links_to source anchors target (Some to) = record { source = source; anchors = anchors; target = target; to = to } ∷ []

-- those to several targets, the first of which has this index. `lead` is the document to which a target leads
abbrev pub links_to_each : (Target → Option DocumentAt) → ℕ → Anchors → ℕ → List Target → List TargetLinks
links_to_each lead source anchors target [] = []
links_to_each lead source anchors target (t ∷ more) = links_to source anchors target (lead t) ++ links_to_each lead source anchors (target + 1) more

-- those of a page, if its anchors are kept
abbrev pub links_in : (Target → Option DocumentAt) → ℕ → Option PageAnchors → List TargetLinks
links_in lead source None = []
links_in lead source (Some page) = links_to_each lead source page.anchors 0 page.targets.items

-- those of results, the first of which has this number. `kept` says what is kept of a result with a number
abbrev pub links_from : (Target → Option DocumentAt) → (ℕ → PageResult → Option PageAnchors) → ℕ → List PageResult → List TargetLinks
links_from lead kept source [] = []
links_from lead kept source (r ∷ more) = links_in lead source (kept source r) ++ links_from lead kept (source + 1) more

abbrev pub links_of : LinksTo → TargetLinks
links_of l = record { source = l.source; anchors = l.anchors.now; target = l.target; to = record { url = l.document.url.now; document = l.document.document.now } }

-- ---- their links to missing anchors

abbrev pub lack_with : TargetLinks → Link → Lack
lack_with l link = record { url = l.to.url; fragment = link.fragment; source = l.source; index = link.index }

-- the link, if the document lacks the anchor
abbrev pub lack_if : TargetLinks → Option Link → List Lack
lack_if l None = []
lack_if l (Some link) = if is_indicated l.to.document.anchors.ids link.fragment then [] else lack_with l link ∷ []

-- the kept link with this number
abbrev pub link_in : TargetLinks → ℕ → Option Link
link_in l number = link_at l.anchors.links.items l.anchors.fragments.items number

-- those of the given number of links, the first of which has this number
abbrev pub lacks_from : TargetLinks → ℕ → ℕ → List Lack
lacks_from l number zero = []
lacks_from l number (suc more) = lack_if l (link_in l number) ++ lacks_from l (number + 1) more

abbrev pub first_link : TargetLinks → ℕ
first_link l = begin_of l.anchors.ends.items (length l.anchors.links.items) l.target

abbrev pub last_link : TargetLinks → ℕ
last_link l = end_of l.anchors.ends.items (length l.anchors.links.items) l.target

abbrev pub lacks_of : TargetLinks → List Lack
lacks_of l = lacks_from l (first_link l) (last_link l - first_link l)

abbrev pub lack_of : MissingAnchorLink → Lack
lack_of one = record { url = one.anchor.url.now; fragment = one.anchor.fragment.now; source = one.source; index = one.index }
