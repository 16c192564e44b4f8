-- Which anchors are kept of a document, and which of its links to anchors.
use Rattle.std.specs.Prelude.{◌≡◌, ℕ, Bool, true, false, ◌&&◌, nat_lt, List, [], ◌∷◌, ◌++◌, Option, Some, None, slice_get, bytes_eq, if◌then◌else◌, IsPermutation, IsSomeAnd, Ok}
use Rattle.url.specs.Ascii.{number_sign}
use Rattle.url.specs.Input.{split_once}
use Rattle.crawl_keys.specs.CanonicalText.{resolve}
use Rattle.html_links.specs.Links.{base_of, ids_of}
use Rattle.page_anchors.specs.Indicated.{DoAscend, is_indicated}
use Rattle.document_links.specs.declared.anchor_targets.AnchorTargets.{AnchorTargets}
use Rattle.document_links.specs.declared.anchors.Anchors.{Anchors}
use Rattle.document_links.specs.declared.charset.Charset.{Charset}
use Rattle.document_links.specs.declared.document.ReadOptions.{ReadOptions}
use Rattle.document_links.specs.AnchorLinks.{IsLinkTo}
use Rattle.document_links.specs.Encoding.{HasLinkTexts, HasLinks, is_known, read_links_of}
use Rattle.document_links.specs.Texts.{fits}
use Rattle.document_links.specs.Written.{clean, keeps_query, without_fragment}

-- ---- ids

-- the anchors have exactly these ids, in ascending byte order
pub record HasIds (ids : List (List ℕ)) (anchors : Anchors) : Type 0 where
  pub same : IsPermutation ids anchors.ids
  pub ascend : DoAscend anchors.ids

-- ---- links to anchors

-- the text after the first `#` in the value of a link, as the URL Standard's parser splits it; none if it has no `#`
abbrev pub fragment_of : List ℕ → Option (List ℕ)
fragment_of value = (split_once number_sign (clean value)).1

-- the value up to and with its first `#`
abbrev pub marked : List ℕ → List ℕ
marked value = without_fragment value ++ number_sign ∷ []

-- this part of the value fits in a line, and its query is in UTF-8
abbrev pub is_readable : Charset → List ℕ → Bool
is_readable charset value = fits 5 (clean (marked value)) && keeps_query charset (clean (marked value))

-- the index of a link, if four bytes can hold it
abbrev pub index_of : ℕ → Option ℕ
index_of index = if nat_lt index 4294967295 then Some index else None

-- the link leads to an anchor that the document at this URL has itself
abbrev pub is_within : List ℕ → List (List ℕ) → List ℕ → List ℕ → Bool
is_within page ids url fragment = bytes_eq url page && is_indicated ids fragment

-- a link is kept: one of the targets is this URL, and a link to it has the fragment and the index
pub record IsKept (kept : AnchorTargets) (url fragment : List ℕ) (index : Option ℕ) : Type 0 where
  pub target : ℕ
  pub leads : slice_get kept.urls.items target ≡ Some url
  pub link : IsLinkTo kept.anchors target fragment index

-- one of the links with these values, of a document with these ids in this encoding at the URL `page`, has this fragment and this index,
-- and leads to this URL. The URL is stated if the value can be read. The document itself does not have the anchor
pub record IsAnchorLink (charset : Charset) (page : List ℕ) (ids values : List (List ℕ)) (url fragment : List ℕ) (index : Option ℕ) : Type 0 where
  pub number : ℕ
  pub value : List ℕ
  pub at : slice_get values number ≡ Some value
  pub indexed : index ≡ index_of number
  pub cut : fragment_of value ≡ Some fragment
  pub leads : is_readable charset value ≡ true → resolve page value ≡ Ok url
  pub lacks : is_within page ids url fragment ≡ false

-- the links to anchors that are kept: each is one of these links. Each of these links with a `#` is kept if its value can be read, unless
-- it leads to no URL of a page, or to an anchor that the document itself has
pub record KeepsLinks (charset : Charset) (page : List ℕ) (ids values : List (List ℕ)) (kept : AnchorTargets) : Type 0 where
  pub each : (url fragment : List ℕ) (index : Option ℕ) → IsKept kept url fragment index → IsAnchorLink charset page ids values url fragment index
  pub all : (number : ℕ) (value url fragment : List ℕ) → slice_get values number ≡ Some value → fragment_of value ≡ Some fragment → is_readable charset value ≡ true → resolve page value ≡ Ok url
      → is_within page ids url fragment ≡ false → IsKept kept url fragment (index_of number)

-- ---- documents

-- these anchors, and if it has no `base` these links to anchors, are kept of the document with this text at a URL
pub record AreAnchorsOf (options : ReadOptions) (charset : Charset) (page text : List ℕ) (kept : AnchorTargets) : Type 0 where
  pub ids : HasIds (ids_of options.syntax text) kept.anchors
  pub links : base_of options.syntax text ≡ None → KeepsLinks charset page (ids_of options.syntax text) (read_links_of options text) kept

-- so they are, if the options ask for anchors and the encoding is a known one
abbrev pub HasAnchors : ReadOptions → Charset → List ℕ → List ℕ → Option AnchorTargets → Type 0
HasAnchors options charset page text anchors = is_known charset ≡ true → options.anchors ≡ true → IsSomeAnd anchors (AreAnchorsOf options charset page text)

-- a document in this encoding at the URL `page` has these link texts and anchors, by one text
pub record IsReadIn (options : ReadOptions) (charset : Charset) (page body : List ℕ) (links : List (List ℕ)) (anchors : Option AnchorTargets) : Type 0 where
  pub has : HasLinks options charset body links
  pub kept : HasAnchors options charset page has.text anchors

-- so it has in some encoding
pub record IsRead (options : ReadOptions) (page body : List ℕ) (links : List (List ℕ)) (anchors : Option AnchorTargets) : Type 0 where
  pub found : HasLinkTexts options body links
  pub kept : HasAnchors options found.charset page found.has.text anchors
