-- What contracts state of the code that finds the links to anchors of a document.
use Rattle.std.specs.Prelude.{◌≡◌, ◌<◌, ◌==◌, ℕ, ◌-◌, ◌+◌, Bool, true, ◌&&◌, List, [], ◌∷◌, ◌++◌, All, IfSome, map, length, take, drop, Option, None, Some, slice_index_or, bytes_eq, if◌then◌else◌}
use Rattle.std.specs.List.{list_any, position_or_len}
use Rattle.std.specs.Result.{result_ok}
use Rattle.url.specs.Input.{is_c0_control_or_space, strip_tabs_and_new_lines, trim_end}
use Rattle.crawl_keys.specs.CanonicalText.{resolve}
use Rattle.crawl_keys.specs.Fragments.{is_number_sign}
use Rattle.page_anchors.specs.Ids.{DoBound}
use Rattle.page_anchors.specs.Indicated.{is_indicated}
use Rattle.document_links.specs.declared.anchor_targets.AnchorTargets.{AnchorTargets}
use Rattle.document_links.specs.declared.anchors.Anchors.{Anchors}
use Rattle.document_links.specs.declared.charset.Charset.{Charset}
use Rattle.document_links.specs.declared.marked_links.MarkedLink.{MarkedLink}
use Rattle.document_links.specs.declared.page_base.PageBase.{PageBase}
use Rattle.document_links.specs.declared.targets.Targets.{Targets}
use Rattle.document_links.specs.Anchors.{Link, links_with}
use Rattle.document_links.specs.KeptAnchors.{HasIds, KeepsLinks, index_of}
use Rattle.document_links.specs.Texts.{fits}
use Rattle.document_links.specs.Written.{clean, has_no_base, keeps_query}

-- ---- the URLs of targets

-- the URL to which a text leads, on a page in this encoding without `base`, if it fits in a line and its query is in UTF-8
abbrev pub IsTarget : PageBase → Charset → List ℕ → List ℕ → Option (List ℕ) → Type 0
IsTarget base charset page text url = has_no_base base ≡ true → fits 5 (clean text) ≡ true → keeps_query charset (clean text) ≡ true → url ≡ result_ok (resolve page text)

-- the number is that of a text, if the targets have these URLs
pub record IsNumberOf (base : PageBase) (charset : Charset) (page : List ℕ) (urls : List (Option (List ℕ))) (text : List ℕ) (number : ℕ) : Type 0 where
  pub within : number < length urls
  pub is : IsTarget base charset page text (slice_index_or urls number None)

abbrev pub HasNumber : Targets → List ℕ → ℕ → Type 0
HasNumber targets text number = IsNumberOf targets.writer.base targets.writer.charset targets.base targets.urls.items text number

pub record AreTargets (targets : Targets) : Type 0 where
  pub none : targets.writer.links ≡ []
  pub numbers : All (λ entry. HasNumber targets entry.0.now entry.1) targets.numbers.entries
  pub last : IfSome targets.last (λ known. HasNumber targets known.0.now known.1)

-- targets of the same page, with more URLs
pub record AreMore (old new : Targets) : Type 0 where
  pub base : new.writer.base ≡ old.writer.base
  pub charset : new.writer.charset ≡ old.writer.charset
  pub page : new.base ≡ old.base
  pub more : List (Option (List ℕ))
  pub urls : new.urls.items ≡ old.urls.items ++ more

-- the number of a text, with which the targets may be more
pub record GivesNumber (old new : Targets) (text : List ℕ) (number : ℕ) : Type 0 where
  pub more : AreMore old new
  pub targets : AreTargets new
  pub numbered : HasNumber new text number

-- ---- links with a `#`

abbrev pub sign_of : List ℕ → ℕ
sign_of value = position_or_len is_number_sign value

-- a link of these has a `#`, and its target is that of its value up to there
pub record IsMarked (targets : Targets) (values : List (List ℕ)) (link : MarkedLink) : Type 0 where
  pub within : link.index < length values
  pub sign : sign_of (slice_index_or values link.index []) < length (slice_index_or values link.index [])
  pub begin : link.begin ≡ sign_of (slice_index_or values link.index []) + 1
  pub target : HasNumber targets (take link.begin (slice_index_or values link.index [])) link.target

-- these are all of them among the first `count`
pub record AreMarked (targets : Targets) (values : List (List ℕ)) (count : ℕ) (links : List MarkedLink) : Type 0 where
  pub each : All (IsMarked targets values) links
  pub all : (index : ℕ) → index < count → sign_of (slice_index_or values index []) < length (slice_index_or values index []) → list_any (λ link. link.index == index) links ≡ true

-- ---- kept links

abbrev pub rows_of : Anchors → List Link
rows_of anchors = links_with anchors.fragments anchors.indices.items

-- each link has a fragment and an index
abbrev pub IsEven : Anchors → Type 0
IsEven anchors = length anchors.fragments ≡ length anchors.indices.items

-- anchors with these links more, and otherwise the same
pub record HasRows (old new : Anchors) (rows : List Link) : Type 0 where
  pub ids : new.ids ≡ old.ids
  pub ends : new.ends.items ≡ old.ends.items
  pub even : IsEven new
  pub more : rows_of new ≡ rows_of old ++ rows

-- what a URL parser reads of the text after a `#`
abbrev pub parsed : List ℕ → List ℕ
parsed text = strip_tabs_and_new_lines (trim_end is_c0_control_or_space text)

-- the link, unless it leads to an existing anchor of the document itself
abbrev pub rows_unless : Bool → List ℕ → ℕ → List Link
rows_unless exists fragment index = if exists then [] else record { fragment = fragment; index = index_of index } ∷ []

abbrev pub row_of : List (List ℕ) → Bool → List (List ℕ) → MarkedLink → List Link
row_of values is_own ids link =
    let fragment = parsed (drop link.begin (slice_index_or values link.index [])) in
    rows_unless (is_own && is_indicated ids fragment) fragment link.index

-- links with the URL of their target
abbrev pub led : List ℕ → List Link → List (List ℕ × Link)
led url rows = map (λ row. (url, row)) rows

-- the links to the targets, which end at these numbers; they begin with the number `from`
abbrev pub led_from : ℕ → List ℕ → List (List ℕ) → List Link → List (List ℕ × Link)
led_from from [] urls rows = []
led_from from (end ∷ ends) [] rows = []
led_from from (end ∷ ends) (url ∷ urls) rows = led url (take (end - from) rows) ++ led_from end ends urls (drop (end - from) rows)

abbrev pub kept_of : AnchorTargets → List (List ℕ × Link)
kept_of kept = led_from 0 kept.anchors.ends.items kept.urls.items (rows_of kept.anchors)

abbrev pub led_to : List (List ℕ) → List (List ℕ) → List ℕ → MarkedLink → Option (List ℕ) → List (List ℕ × Link)
led_to values ids page link None = []
led_to values ids page link (Some url) = led url (row_of values (bytes_eq url page) ids link)

-- what is kept of a link, if the targets have these URLs
abbrev pub kept_link : List (List ℕ) → List (List ℕ) → List (Option (List ℕ)) → List ℕ → MarkedLink → List (List ℕ × Link)
kept_link values ids urls page link = led_to values ids page link (slice_index_or urls link.target None)

-- the links to each target are those between two ends
pub record IsBuilt (kept : AnchorTargets) : Type 0 where
  pub even : IsEven kept.anchors
  pub bound : DoBound 0 kept.anchors.ends.items (length (rows_of kept.anchors))
  pub paired : length kept.urls.items ≡ length kept.anchors.ends.items

-- what is kept of a page with these ids and links, if it has no `base`
pub record AreKept (base : PageBase) (charset : Charset) (page : List ℕ) (ids values : List (List ℕ)) (kept : AnchorTargets) : Type 0 where
  pub found : HasIds ids kept.anchors
  pub links : has_no_base base ≡ true → KeepsLinks charset page ids values kept
