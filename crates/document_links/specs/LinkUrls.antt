-- The URLs to which the links of a file lead.
use Rattle.std.specs.Prelude.{◌≡◌, ℕ, Bool, true, false, List, [], ◌∷◌, map, slice_index_or, Option, None, IsAscii}
use Rattle.std.specs.Borrow.{Bor}
use Rattle.std.specs.Result.{result_ok}
use Rattle.crawl_keys.specs.CanonicalText.{resolve}
use Rattle.html_links.specs.Links.{base_of}
use Rattle.document_links.specs.declared.charset.Charset.{Charset}
use Rattle.document_links.specs.declared.charset.Charset.TheVariants.{Utf8}
use Rattle.document_links.specs.declared.places.TextPlace.{TextPlace}
use Rattle.document_links.specs.declared.text_kind.TextKind.{TextKind}
use Rattle.document_links.specs.declared.text_kind.TextKind.TheVariants.{Document, StyleSheet, Feed, UrlList}
use Rattle.document_links.specs.Encoding.{IsTextIn, charset_of, has_mark, is_in_unicode, is_known, links_in, names_encoding}
use Rattle.document_links.specs.Places.{ArePlacesIn}
use Rattle.document_links.specs.Rooted.{all_rooted}
use Rattle.document_links.specs.Written.{can_write, written}

-- the text has no `base`, which only a document can have
abbrev pub HasNoBase : TextKind → List ℕ → Type 0
HasNoBase (Document syntax styles) text = base_of syntax text ≡ None
HasNoBase StyleSheet text = Unit {0}
HasNoBase Feed text = Unit {0}
HasNoBase UrlList text = Unit {0}

-- the encoding of the queries of links. It is that of the file if this is a document, and otherwise UTF-8
abbrev pub query_charset : TextKind → Charset → Charset
query_charset (Document syntax styles) charset = charset
query_charset StyleSheet charset = Utf8
query_charset Feed charset = Utf8
query_charset UrlList charset = Utf8

-- the links with these indices among those of a text, below the path of the top if there is one
abbrev pub links_at : Option (Bor (List ℕ)) → TextKind → List ℕ → List ℕ → List (List ℕ)
links_at root kind text indices = all_rooted root (map (λ index. slice_index_or (links_in kind text) index []) indices)

-- the canonical URL, if there is one, of a link on the page at this URL
abbrev pub url_from : List ℕ → List ℕ → Option (List ℕ)
url_from page link = result_ok (resolve page (written link))

-- that is where a link leads, if its own text is written. Otherwise nothing is stated
abbrev pub IsUrlOf : Bool → List ℕ → List ℕ → Option (List ℕ) → Type 0
IsUrlOf true page link url = url ≡ url_from page link
IsUrlOf false page link url = Unit {0}

-- these are the URLs of these links, on a page at this URL whose queries are in this encoding
abbrev pub AreUrlsOf : Charset → List ℕ → List (List ℕ) → List (Option (List ℕ)) → Type 0
AreUrlsOf charset page [] [] = Unit {0}
AreUrlsOf charset page [] (url ∷ urls) = ⊥
AreUrlsOf charset page (link ∷ links) [] = ⊥
AreUrlsOf charset page (link ∷ links) (url ∷ urls) = IsUrlOf (can_write charset link) page link url × AreUrlsOf charset page links urls

-- these are the URLs of the links with these indices in a text that was in this encoding. In another than a known one, and in a document
-- with a `base`, nothing is stated
abbrev pub AreUrlsIn : Option (Bor (List ℕ)) → List ℕ → TextKind → Charset → List ℕ → List ℕ → List (Option (List ℕ)) → Type 0
AreUrlsIn root page kind charset text indices urls =
    is_known charset ≡ true → HasNoBase kind text → AreUrlsOf (query_charset kind charset) page (links_at root kind text indices) urls

-- these are the locations of the links with these indices in a file, and their URLs on the page at this URL, by the file's text in the
-- encoding that `charset_of` says. If all of it is ASCII, the text is the file itself
pub record AreFileLinks (root : Option (Bor (List ℕ))) (page : List ℕ) (kind : TextKind) (file indices : List ℕ) (places : List TextPlace) (urls : List (Option (List ℕ))) : Type 0 where
  pub charset : Charset
  pub defined : charset ≡ charset_of kind file
  pub marked : has_mark file ≡ true → charset ≡ Utf8
  pub unnamed : names_encoding kind file ≡ false → charset ≡ Utf8
  pub known : is_in_unicode kind ≡ true → is_known charset ≡ true
  pub text : List ℕ
  pub decoded : IsTextIn charset file text
  pub ascii : IsAscii file → text ≡ file
  pub located : ArePlacesIn kind charset text indices places
  pub lead : AreUrlsIn root page kind charset text indices urls
