-- The context of a tag: whether it is in HTML content, in an element of SVG or MathML, or in a document in XML. In the Standard,
-- the namespace of the adjusted current node decides that. There are no nodes here: a context has the number of integration points
-- around the tag, and the number of `svg` and `math` elements that are open in the element of SVG or MathML. Neither number is
-- above 255.
use Rattle.std.specs.Prelude.{ℕ, ◌+◌, ◌-◌, ◌==◌, ◌||◌, ◌&&◌, not, Bool, true, false, if◌then◌else◌, List, codes, Option, None, Some, bytes_eq}
use Rattle.html_links.specs.declared.context.Context.{Context}
use Rattle.html_links.specs.declared.context.Context.TheVariants as context
use Rattle.html_links.specs.declared.context.Syntax.{Syntax}
use Rattle.html_links.specs.declared.context.Syntax.TheVariants as syntax
use Rattle.html_links.specs.declared.element.Element.{Element}
use Rattle.html_links.specs.declared.element.Element.TheVariants as element
use Rattle.html_links.specs.RawText.{same_name}
use Rattle.html_links.specs.Elements.{element_of, is_template}
use Rattle.html_links.specs.Values.{Values, is_absent}

abbrev pub context_of : Syntax → Context
context_of syntax.Html = context.Html 0
context_of syntax.Xhtml = context.Xml

-- elements have no raw text, tags may close themselves, and there are CDATA sections
abbrev pub is_foreign : Context → Bool
is_foreign (context.Html points) = false
is_foreign _ = true

abbrev pub one_more : ℕ → ℕ
one_more count = if count == 255 then 255 else count + 1

-- the start tags that the Standard does not allow in foreign content, except `font`: they end it
abbrev pub is_block : List ℕ → Bool
is_block name =
    bytes_eq name (codes "blockquote") || bytes_eq name (codes "body") || bytes_eq name (codes "center") || bytes_eq name (codes "div")
    || bytes_eq name (codes "head") || bytes_eq name (codes "hr") || bytes_eq name (codes "listing") || bytes_eq name (codes "p")
    || bytes_eq name (codes "pre") || bytes_eq name (codes "table")

abbrev pub is_heading : List ℕ → Bool
is_heading name =
    bytes_eq name (codes "h1") || bytes_eq name (codes "h2") || bytes_eq name (codes "h3")
    || bytes_eq name (codes "h4") || bytes_eq name (codes "h5") || bytes_eq name (codes "h6")

abbrev pub is_list : List ℕ → Bool
is_list name =
    bytes_eq name (codes "dd") || bytes_eq name (codes "dl") || bytes_eq name (codes "dt") || bytes_eq name (codes "li")
    || bytes_eq name (codes "menu") || bytes_eq name (codes "ol") || bytes_eq name (codes "ul")

abbrev pub is_phrase : List ℕ → Bool
is_phrase name =
    bytes_eq name (codes "b") || bytes_eq name (codes "big") || bytes_eq name (codes "code") || bytes_eq name (codes "em")
    || bytes_eq name (codes "i") || bytes_eq name (codes "nobr") || bytes_eq name (codes "s") || bytes_eq name (codes "small")
    || bytes_eq name (codes "span") || bytes_eq name (codes "strike") || bytes_eq name (codes "strong") || bytes_eq name (codes "sub")
    || bytes_eq name (codes "sup") || bytes_eq name (codes "tt") || bytes_eq name (codes "u") || bytes_eq name (codes "var")

abbrev pub is_inserted : List ℕ → Bool
is_inserted name =
    bytes_eq name (codes "br") || bytes_eq name (codes "embed") || bytes_eq name (codes "img") || bytes_eq name (codes "meta") || bytes_eq name (codes "ruby")

abbrev pub is_breakout : List ℕ → Bool
is_breakout name = is_phrase name || is_block name || is_list name || is_heading name || is_inserted name

abbrev pub is_root : List ℕ → Bool
is_root name = bytes_eq name (codes "svg") || bytes_eq name (codes "math")

-- the HTML integration points of SVG, whose content is HTML
abbrev pub is_svg_point : List ℕ → Bool
is_svg_point name = bytes_eq name (codes "foreignobject") || bytes_eq name (codes "desc") || bytes_eq name (codes "title")

-- the MathML text integration points, whose content is HTML too, except for two elements that have no links
abbrev pub is_text_point : List ℕ → Bool
is_text_point name =
    bytes_eq name (codes "mi") || bytes_eq name (codes "mo") || bytes_eq name (codes "mn") || bytes_eq name (codes "ms") || bytes_eq name (codes "mtext")

-- the encodings, as written, that make an `annotation-xml` an HTML integration point
abbrev pub is_html_encoding : Option (List ℕ) → Bool
is_html_encoding None = false
is_html_encoding (Some value) = same_name value (codes "text/html") || same_name value (codes "application/xhtml+xml")

abbrev pub is_annotation : Element → Values → Bool
is_annotation element.Annotation v = is_html_encoding v.third
is_annotation _ v = false

-- a `font` ends foreign content if it has a `color`, `face` or `size`
abbrev pub is_html_font : Element → Values → Bool
is_html_font element.Font v = not (is_absent v.first && is_absent v.second && is_absent v.third)
is_html_font _ v = false

-- the context of a start tag with this name
abbrev pub tag_context : Context → List ℕ → Context
tag_context (context.Svg points nested) name = if is_breakout name then context.Html points else context.Svg points nested
tag_context (context.Math points nested) name = if is_breakout name then context.Html points else context.Math points nested
tag_context other name = other

-- the elements of SVG and MathML have links in `href` and `xlink:href`
abbrev pub foreign_element : List ℕ → Element
foreign_element name =
    if bytes_eq name (codes "font") then element.Font
    else if bytes_eq name (codes "annotation-xml") then element.Annotation
    else element.Anchor

-- an XML document has elements of all namespaces
abbrev pub xml_element : Element → Element
xml_element element.Other = element.Anchor
xml_element known = known

abbrev pub element_at : Context → List ℕ → Element
element_at (context.Html points) name = element_of name
element_at (context.Svg points nested) name = foreign_element name
element_at (context.Math points nested) name = foreign_element name
element_at context.Xml name = xml_element (element_of name)

abbrev pub html_content : ℕ → Element → Context
html_content points element.Svg = context.Svg points 0
html_content points element.Math = context.Math points 0
html_content points _ = context.Html points

abbrev pub svg_content : ℕ → ℕ → List ℕ → Context
svg_content points nested name =
    if is_svg_point name then context.Html (one_more points)
    else if is_root name then context.Svg points (one_more nested)
    else context.Svg points nested

abbrev pub math_content : ℕ → ℕ → List ℕ → Bool → Context
math_content points nested name annotation =
    if is_text_point name || annotation then context.Html (one_more points)
    else if is_root name then context.Math points (one_more nested)
    else context.Math points nested

-- the context of the content of an element that does not close itself
abbrev pub content_context : Context → List ℕ → Element → Values → Context
content_context (context.Html points) name element v = html_content points element
content_context (context.Svg points nested) name element v = if is_html_font element v then context.Html points else svg_content points nested name
content_context (context.Math points nested) name element v =
    if is_html_font element v then context.Html points else math_content points nested name (is_annotation element v)
content_context context.Xml name element v = context.Xml

-- the context after a start tag whose own context is this one
abbrev pub inner_context : Context → List ℕ → Element → Values → Context
inner_context at name element v = if v.self_closing then at else content_context at name element v

-- the context after an end tag in HTML content: that of an integration point with this name ends the content
abbrev pub around_point : ℕ → List ℕ → Context
around_point points name =
    if points == 0 then context.Html points
    else if is_svg_point name then context.Svg (points - 1) 0
    else if is_text_point name || bytes_eq name (codes "annotation-xml") then context.Math (points - 1) 0
    else context.Html points

-- The context after an end tag. The end tag of an element whose start tag ends foreign content ends that too. In the Standard it
-- does so if it is `br` or `p`, or if its element is around the foreign content.
abbrev pub outer_context : Context → List ℕ → Context
outer_context (context.Html points) name = around_point points name
outer_context (context.Svg points nested) name =
    if is_root name then (if nested == 0 then context.Html points else context.Svg points (nested - 1))
    else tag_context (context.Svg points nested) name
outer_context (context.Math points nested) name =
    if is_root name then (if nested == 0 then context.Html points else context.Math points (nested - 1))
    else tag_context (context.Math points nested) name
outer_context context.Xml name = context.Xml

-- a `template` in this context is an HTML element, and has template contents
abbrev pub has_templates : Context → Bool
has_templates (context.Svg points nested) = false
has_templates (context.Math points nested) = false
has_templates _ = true

-- a tag in HTML does not close itself
abbrev pub closes_itself : Context → Bool → Bool
closes_itself at self_closing = self_closing && is_foreign at

-- whether a tag is the end tag, or the start tag, of a template with contents
abbrev pub ends_template : Context → List ℕ → Bool
ends_template at name = is_template name && has_templates at

abbrev pub opens_template : Context → List ℕ → Bool → Bool
opens_template at name self_closing = ends_template at name && not (closes_itself at self_closing)
