-- The links of sitemaps and feeds, and their positions: the texts or attributes of certain elements, depending on the name of the root
-- element.
use Rattle.std.specs.Prelude.{ℕ, zero, suc, ◌+◌, ◌-◌, ◌==◌, ◌||◌, List, [], ◌∷◌, ◌++◌, codes, length, take, drop, Option, None, Some, if◌then◌else◌}
use Rattle.std.specs.Char.{is_ascii_whitespace}
use Rattle.std.specs.Option.{unwrap_or}
use Rattle.std.specs.Str.{bytes_eq}
use Rattle.url.specs.Input.{trim_c0_control_and_space, trim_start}
use Rattle.html_links.specs.Positions.{all_at}
use Rattle.document_links.specs.Markup.{begins, closes, is_tag, local_name, markup_len, markup_of, section_of, value_left, value_of}
use Rattle.document_links.specs.Unescaped.{unescaped}
use Rattle.document_links.specs.declared.feed.FeedKind.{FeedKind}
use Rattle.document_links.specs.declared.feed.FeedKind.TheVariants.{Sitemap, Rss, Atom, Other}
use Rattle.document_links.specs.declared.feed.LinkPart.{LinkPart}
use Rattle.document_links.specs.declared.feed.LinkPart.TheVariants.{Content, Url, Href, Src, Nothing}
use Rattle.document_links.specs.declared.markup.Markup.{Markup}
use Rattle.document_links.specs.declared.markup.Markup.TheVariants.{StartTag}

-- what an XML document is, by the name of its root element
abbrev pub kind_of : List ℕ → FeedKind
kind_of name =
    if bytes_eq name (codes "urlset") || bytes_eq name (codes "sitemapindex") then Sitemap
    else if bytes_eq name (codes "rss") || bytes_eq name (codes "RDF") then Rss
    else if bytes_eq name (codes "feed") then Atom
    else Other

-- the part of an element that is a link, by its name
abbrev pub part_of : FeedKind → List ℕ → LinkPart
part_of Sitemap name = if bytes_eq name (codes "loc") then Content else Nothing
part_of Rss name = if bytes_eq name (codes "link") then Content else if bytes_eq name (codes "enclosure") then Url else Nothing
part_of Atom name = if bytes_eq name (codes "link") then Href else if bytes_eq name (codes "content") then Src else Nothing
part_of Other name = Nothing

-- The text from here to the next tag, without comments, instructions and declarations. `skip` bytes are skipped first, and `run` is
-- the text since the last markup.
abbrev pub text_from : ℕ → List ℕ → List ℕ → List ℕ
text_from skip run [] = unescaped run
text_from (suc skip) run (b ∷ bytes) = text_from skip run bytes
text_from zero run (b ∷ bytes) =
    if b == 60 then
    unescaped run ++ (if is_tag (markup_of bytes) then [] else section_of (markup_of bytes) bytes ++ text_from (markup_len bytes) [] bytes)
    else text_from 0 (run ++ b ∷ []) bytes

abbrev pub text_of : List ℕ → List ℕ
text_of bytes = text_from 0 [] bytes

-- the text is a link, unless a URL parser drops all of it
abbrev pub text_links : List ℕ → List (List ℕ)
text_links text = if length (trim_c0_control_and_space text) == 0 then [] else text ∷ []

abbrev pub value_links : Option (List ℕ) → List (List ℕ)
value_links None = []
value_links (Some value) = text_links (unescaped value)

-- the link in this part of an element, from its start tag and the bytes after that
abbrev pub part_links : LinkPart → List ℕ → List ℕ → List (List ℕ)
part_links Content tag bytes = if closes tag then [] else text_links (text_of bytes)
part_links Url tag bytes = value_links (value_of (codes "url") tag)
part_links Href tag bytes = value_links (value_of (codes "href") tag)
part_links Src tag bytes = value_links (value_of (codes "src") tag)
part_links Nothing tag bytes = []

-- what the document is, if this markup comes next. The first start tag determines it
abbrev pub kind_after : Markup → Option FeedKind → List ℕ → Option FeedKind
kind_after StartTag kind tag = Some (unwrap_or kind (kind_of (local_name tag)))
kind_after _ kind tag = kind

-- the link of an element in such a document, from its markup and the bytes after that
abbrev pub markup_links : Markup → Option FeedKind → List ℕ → List ℕ → List (List ℕ)
markup_links StartTag (Some kind) tag bytes = part_links (part_of kind (local_name tag)) tag bytes
markup_links _ _ tag bytes = []

-- ---- positions

-- the bytes of an element's text from the first one that is not white space, of the text or of the CDATA section with which it begins
abbrev pub visible_text : List ℕ → List ℕ
visible_text bytes =
    let text = trim_start is_ascii_whitespace bytes in
    if begins (codes "<![CDATA[") text then trim_start is_ascii_whitespace (drop 9 text) else text

-- the number of bytes from the link in this part of an element to the end of the document
abbrev pub part_left : LinkPart → List ℕ → List ℕ → ℕ
part_left Content tag bytes = length (visible_text bytes)
part_left Url tag bytes = value_left (codes "url") tag + length bytes
part_left Href tag bytes = value_left (codes "href") tag + length bytes
part_left Src tag bytes = value_left (codes "src") tag + length bytes
part_left Nothing tag bytes = length bytes

-- the position of that link in a document with `end` bytes: that of the first byte of the text, or of the attribute's value
abbrev pub part_positions : ℕ → LinkPart → List ℕ → List ℕ → List ℕ
part_positions end part tag bytes = all_at (end - part_left part tag bytes) (part_links part tag bytes)

abbrev pub markup_positions : ℕ → Markup → Option FeedKind → List ℕ → List ℕ → List ℕ
markup_positions end StartTag (Some kind) tag bytes = part_positions end (part_of kind (local_name tag)) tag bytes
markup_positions end _ _ tag bytes = []

-- ---- documents

-- what an element has, by its markup, the kind of the document, the bytes of the markup, and those after it
abbrev pub OfElement : Type 0 → Type 0
OfElement X = Markup → Option FeedKind → List ℕ → List ℕ → List X

-- what the elements have from this markup on; `more` is what those after it have
abbrev pub all_at_markup : {X : Type 0} → OfElement X → Option FeedKind → Markup → ℕ → List ℕ → (Option FeedKind → List X) → List X
all_at_markup own kind markup len bytes more =
    let next = kind_after markup kind (take len bytes) in
    own markup next (take len bytes) (drop len bytes) ++ more next

-- what the elements have from here on, after skipping `skip` bytes
abbrev pub all_from : {X : Type 0} → OfElement X → Option FeedKind → ℕ → List ℕ → List X
all_from own kind skip [] = []
all_from own kind (suc skip) (b ∷ bytes) = all_from own kind skip bytes
all_from own kind zero (b ∷ bytes) =
    if b == 60 then all_at_markup own kind (markup_of bytes) (markup_len bytes) bytes (λ next. all_from own next (markup_len bytes) bytes)
    else all_from own kind 0 bytes

abbrev pub feed_links_of : List ℕ → List (List ℕ)
feed_links_of text = all_from markup_links None 0 text

-- the positions of these links
abbrev pub feed_positions_of : List ℕ → List ℕ
feed_positions_of text = all_from (markup_positions (length text)) None 0 text
