-- The links of a document, with or without those of its styles, its base, and its ids.
use Rattle.std.specs.Prelude.{◌≤◌, ℕ, ◌==◌, ◌||◌, not, Bool, true, false, if◌then◌else◌, List, [], ◌∷◌, ◌++◌, codes, take, Option, None, Some, bytes_eq}
use Rattle.html_links.specs.declared.context.Syntax.{Syntax}
use Rattle.html_links.specs.declared.context.Syntax.TheVariants as syntax
use Rattle.html_links.specs.declared.element.Element.{Element}
use Rattle.html_links.specs.declared.element.Element.TheVariants as element
use Rattle.html_links.specs.declared.reader.Form.{Form}
use Rattle.html_links.specs.declared.reader.Form.TheVariants as form
use Rattle.html_links.specs.RawText.{same_name}
use Rattle.html_links.specs.Shown.{is_space}
use Rattle.html_links.specs.Values.{Values, is_absent}
use Rattle.html_links.specs.Seen.{Seen, seen_in}
use Rattle.html_links.specs.References.{text_of}
use Rattle.html_links.specs.Candidates.{candidates_of}
use Rattle.html_links.specs.Refresh.{target_of}
use Rattle.html_links.specs.Styles.{style_links_of}

abbrev pub target_links : Option (List ℕ) → List (List ℕ)
target_links None = []
target_links (Some target) = target ∷ []

abbrev pub begins_fragment : List ℕ → Bool
begins_fragment [] = false
begins_fragment (c ∷ rest) = c == 35

-- the links of a text: the text itself, also only if it does not begin with `#`; the URLs of a `srcset`, the target of a refresh,
-- the URLs of a style, or none
abbrev pub text_links : Form → List ℕ → List (List ℕ)
text_links form.Link text = text ∷ []
text_links form.Outward text = if begins_fragment text then [] else text ∷ []
text_links form.List text = candidates_of text
text_links form.Refresh text = target_links (target_of text)
text_links form.Style text = style_links_of text
text_links form.Nothing text = []

abbrev pub value_links : Form → Option (List ℕ) → List (List ℕ)
value_links form None = []
value_links form (Some value) = text_links form (text_of value)

-- A keyword of a `rel` makes a link to a document or a resource, unless it is one of the two that name a host. The Standard ignores
-- keywords that are not registered. Here they count too, since the register grows.
abbrev pub is_link_type : List ℕ → Bool
is_link_type word = not (same_name word [] || same_name word (codes "preconnect") || same_name word (codes "dns-prefetch"))

-- one of the keywords, which are separated by white space, makes a link; the first keyword begins with these bytes
abbrev pub types_after : List ℕ → List ℕ → Bool
types_after word [] = is_link_type word
types_after word (c ∷ rest) =
    if is_space c then (if is_link_type word then true else types_after [] rest) else types_after (word ++ c ∷ []) rest

-- the `rel` of a `link`, or its `itemprop` if it has no `rel`, makes it a link to a document
abbrev pub is_related : Option (List ℕ) → Option (List ℕ) → Bool
is_related None item = not (is_absent item)
is_related (Some rel) item = types_after [] (text_of rel)

-- the value of an enumerated attribute is this keyword, in any case
abbrev pub is_keyword : List ℕ → Option (List ℕ) → Bool
is_keyword word None = false
is_keyword word (Some value) = same_name (text_of value) word

-- the `type` of an `input` has the Standard's state Image Button or Submit Button, to which `formaction` applies
abbrev pub submits : Option (List ℕ) → Bool
submits kind = if is_keyword (codes "image") kind then true else is_keyword (codes "submit") kind

-- the `type` of a `button` has the Standard's state Reset Button or Button: it does not submit a form, so its `formaction` has no
-- effect
abbrev pub submits_nothing : Option (List ℕ) → Bool
submits_nothing kind = if is_keyword (codes "reset") kind then true else is_keyword (codes "button") kind

-- the names of properties whose values are URLs, in the Open Graph protocol and on cards of X
abbrev pub is_open_graph : List ℕ → Bool
is_open_graph name =
    bytes_eq name (codes "og:url") || bytes_eq name (codes "og:image") || bytes_eq name (codes "og:image:url") || bytes_eq name (codes "og:image:secure_url")
    || bytes_eq name (codes "og:video") || bytes_eq name (codes "og:video:url") || bytes_eq name (codes "og:video:secure_url")
    || bytes_eq name (codes "og:audio") || bytes_eq name (codes "og:audio:url") || bytes_eq name (codes "og:audio:secure_url")

abbrev pub is_card : List ℕ → Bool
is_card name =
    bytes_eq name (codes "twitter:image") || bytes_eq name (codes "twitter:image:src") || bytes_eq name (codes "twitter:player") || bytes_eq name (codes "twitter:player:stream")

abbrev pub names_url : Option (List ℕ) → Bool
names_url None = false
names_url (Some name) = is_open_graph (text_of name) || is_card (text_of name)

-- the names of a plugin's parameters whose values are the URL of its data
abbrev pub is_data : List ℕ → Bool
is_data name = same_name name (codes "movie") || same_name name (codes "src") || same_name name (codes "data") || same_name name (codes "url")

abbrev pub names_data : Option (List ℕ) → Bool
names_data None = false
names_data (Some name) = is_data (text_of name)

abbrev pub form_if : Bool → Form → Form
form_if is some = if is then some else form.Nothing

abbrev pub meta_form : Values → Form
meta_form v = if is_keyword (codes "refresh") v.second then form.Refresh else if names_url v.third then form.Link else form_if (names_url v.name) form.Link

-- how the first of an element's values names documents
abbrev pub first_form : Element → Values → Form
first_form element.Base v = form.Nothing
first_form element.Font v = form.Nothing
first_form element.Meta v = meta_form v
first_form element.Link v = form_if (is_related v.third v.name) form.Link
first_form element.Input v = form_if (is_keyword (codes "image") v.third) form.Link
first_form element.Button v = form_if (not (submits_nothing v.third)) form.Link
first_form element.Param v = form_if (names_data v.name) form.Link
first_form _ v = form.Link

-- how the second one does
abbrev pub second_form : Element → Values → Form
second_form element.Base v = form.Nothing
second_form element.Font v = form.Nothing
second_form element.Meta v = form.Nothing
second_form element.Link v = form_if (is_related v.third v.name) form.List
second_form element.Image v = form.List
second_form element.Source v = form.List
second_form element.Input v = form_if (submits v.third) form.Link
second_form _ v = form.Link

abbrev pub first_links : Element → Values → List (List ℕ)
first_links element v = value_links (first_form element v) v.first

abbrev pub second_links : Element → Values → List (List ℕ)
second_links element v = value_links (second_form element v) v.second

-- ---- the document in a `srcdoc`

-- A link that begins with `#` leads to an anchor of that document, which is not a page.
abbrev pub inner_form : Form → Form
inner_form form.Link = form.Outward
inner_form other = other

abbrev pub inner_third : Element → Values → List (List ℕ)
inner_third element.Image v = value_links form.Outward v.third
inner_third _ v = []

-- the links of an element's values, except for those of a `srcdoc`
abbrev pub inner_links_with : Element → Values → List (List ℕ)
inner_links_with element v =
    value_links (inner_form (first_form element v)) v.first ++ value_links (inner_form (second_form element v)) v.second ++ inner_third element v

abbrev pub is_base : Element → Values → Bool
is_base element.Base v = not (is_absent v.first)
is_base _ v = false

-- The links up to a `base` with an `href`. Links with that base are not read.
abbrev pub inner_links_in : List Seen → List (List ℕ)
inner_links_in [] = []
inner_links_in (seen ∷ rest) = if is_base seen.element seen.values then [] else inner_links_with seen.element seen.values ++ inner_links_in rest

abbrev pub inner_links_of : List ℕ → List (List ℕ)
inner_links_of document = inner_links_in (seen_in syntax.Html document)

abbrev pub srcdoc_links : Option (List ℕ) → List (List ℕ)
srcdoc_links None = []
srcdoc_links (Some value) = inner_links_of (text_of value)

-- ---- the links of a page

-- those of the third value: the `longdesc` of an image, or the document in the `srcdoc` of an `iframe`
abbrev pub third_links : Element → Values → List (List ℕ)
third_links element.Image v = value_links form.Link v.third
third_links element.InlineFrame v = srcdoc_links v.third
third_links _ v = []

-- the links of an element's values
abbrev pub links_with : Element → Values → List (List ℕ)
links_with element v = first_links element v ++ second_links element v ++ third_links element v

-- the links of its `style`, and of the style sheet in the element
abbrev pub style_links_with : Values → List ℕ → List (List ℕ)
style_links_with v sheet = value_links form.Style v.style ++ style_links_of sheet

abbrev pub links_at : Bool → Seen → List (List ℕ)
links_at styles seen = if styles then style_links_with seen.values seen.sheet ++ links_with seen.element seen.values else links_with seen.element seen.values

abbrev pub links_in : Bool → List Seen → List (List ℕ)
links_in styles [] = []
links_in styles (seen ∷ rest) = links_at styles seen ++ links_in styles rest

-- the links of a document, with or without those of its styles
abbrev pub links_of : Bool → Syntax → List ℕ → List (List ℕ)
links_of styles syntax document = links_in styles (seen_in syntax document)

-- the texts that are needed: the first ones, up to a number, or all if no number is given
abbrev pub needed_texts : Option ℕ → List (List ℕ) → List (List ℕ)
needed_texts None texts = texts
needed_texts (Some needed) texts = take needed texts

-- this number of links is enough
abbrev pub AreEnough : Option ℕ → ℕ → Type 0
AreEnough None count = ⊥
AreEnough (Some needed) count = needed ≤ count

abbrev pub base_text : Option (List ℕ) → Option (List ℕ)
base_text None = None
base_text (Some value) = Some (text_of value)

abbrev pub base_with : Element → Values → Option (List ℕ)
base_with element.Base v = base_text v.first
base_with _ v = None

abbrev pub or_later : Option (List ℕ) → Option (List ℕ) → Option (List ℕ)
or_later None later = later
or_later (Some first) later = Some first

-- the text of the first base's `href`
abbrev pub base_in : List Seen → Option (List ℕ)
base_in [] = None
base_in (seen ∷ rest) = or_later (base_with seen.element seen.values) (base_in rest)

abbrev pub base_of : Syntax → List ℕ → Option (List ℕ)
base_of syntax document = base_in (seen_in syntax document)

abbrev pub anchors_with : List ℕ → Values → List (List ℕ)
anchors_with name v = if bytes_eq name (codes "a") then value_links form.Link v.name else []

-- the ids of a tag: its `id`, and the `name` of an `a`
abbrev pub ids_with : List ℕ → Values → List (List ℕ)
ids_with name v = value_links form.Link v.id ++ anchors_with name v

abbrev pub ids_in : List Seen → List (List ℕ)
ids_in [] = []
ids_in (seen ∷ rest) = ids_with seen.name seen.values ++ ids_in rest

abbrev pub ids_of : Syntax → List ℕ → List (List ℕ)
ids_of syntax document = ids_in (seen_in syntax document)
