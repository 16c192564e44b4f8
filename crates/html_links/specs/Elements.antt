-- The elements with attributes that name documents, and these attributes.
use Rattle.std.specs.Prelude.{ℕ, ◌||◌, not, Bool, true, false, if◌then◌else◌, List, [], codes, Option, None, Some, bytes_eq}
use Rattle.html_links.specs.declared.element.Element.{Element}
use Rattle.html_links.specs.declared.element.Element.TheVariants as element
use Rattle.html_links.specs.declared.element.AttributeNames as code
use Rattle.html_links.specs.declared.element.TheConstants.{LENGTHS}
use Rattle.html_links.specs.Lengths.{may_be}
use Rattle.html_links.specs.RawText.{same_name}

abbrev pub is_template : List ℕ → Bool
is_template name = bytes_eq name (codes "template")

abbrev pub is_anchor : List ℕ → Bool
is_anchor name = bytes_eq name (codes "a") || bytes_eq name (codes "image") || bytes_eq name (codes "use")

abbrev pub is_background : List ℕ → Bool
is_background name =
    bytes_eq name (codes "body") || bytes_eq name (codes "table") || bytes_eq name (codes "td") || bytes_eq name (codes "th")
    || bytes_eq name (codes "tr") || bytes_eq name (codes "thead") || bytes_eq name (codes "tbody") || bytes_eq name (codes "tfoot")

abbrev pub is_embedded : List ℕ → Bool
is_embedded name =
    bytes_eq name (codes "audio") || bytes_eq name (codes "embed") || bytes_eq name (codes "script") || bytes_eq name (codes "track")

-- the element with this name, in lower case
abbrev pub element_of : List ℕ → Element
element_of name =
    if is_anchor name then element.Anchor
    else if bytes_eq name (codes "img") then element.Image
    else if bytes_eq name (codes "source") then element.Source
    else if is_embedded name then element.Embedded
    else if is_background name then element.Background
    else if bytes_eq name (codes "area") then element.Area
    else if bytes_eq name (codes "base") then element.Base
    else if bytes_eq name (codes "link") then element.Link
    else if bytes_eq name (codes "meta") then element.Meta
    else if bytes_eq name (codes "object") then element.Object
    else if bytes_eq name (codes "video") then element.Video
    else if is_template name then element.Template
    else if bytes_eq name (codes "frame") then element.Frame
    else if bytes_eq name (codes "iframe") then element.InlineFrame
    else if bytes_eq name (codes "input") then element.Input
    else if bytes_eq name (codes "button") then element.Button
    else if bytes_eq name (codes "param") then element.Param
    else if bytes_eq name (codes "svg") then element.Svg
    else if bytes_eq name (codes "math") then element.Math
    else element.Other

-- the first letter and the length of the name show that the element names no documents and has no text
abbrev pub is_usual : List ℕ → Bool
is_usual name = not (may_be LENGTHS name)

-- the names of the attributes that are read; an empty name is not that of any attribute
pub record AttributeNames : Type 0 where
  pub first : List ℕ
  pub second : List ℕ
  pub third : List ℕ
  pub name : List ℕ

abbrev pub attribute_names : List ℕ → List ℕ → List ℕ → AttributeNames
attribute_names first second third = record { first = first; second = second; third = third; name = codes "name" }

abbrev pub names_of_attributes : Element → AttributeNames
names_of_attributes element.Anchor = attribute_names (codes "href") (codes "xlink:href") []
names_of_attributes element.Annotation = attribute_names (codes "href") (codes "xlink:href") (codes "encoding")
names_of_attributes element.Area = attribute_names (codes "href") [] []
names_of_attributes element.Base = attribute_names (codes "href") [] []
names_of_attributes element.Background = attribute_names (codes "background") [] []
names_of_attributes element.Embedded = attribute_names (codes "src") [] []
names_of_attributes element.Button = attribute_names (codes "formaction") [] (codes "type")
names_of_attributes element.Font = attribute_names (codes "color") (codes "face") (codes "size")
names_of_attributes element.Frame = attribute_names (codes "src") (codes "longdesc") []
names_of_attributes element.Image = attribute_names (codes "src") (codes "srcset") (codes "longdesc")
names_of_attributes element.InlineFrame = attribute_names (codes "src") (codes "longdesc") (codes "srcdoc")
names_of_attributes element.Source = attribute_names (codes "src") (codes "srcset") []
names_of_attributes element.Input = attribute_names (codes "src") (codes "formaction") (codes "type")
names_of_attributes element.Link = record { first = codes "href"; second = codes "imagesrcset"; third = codes "rel"; name = codes "itemprop" }
names_of_attributes element.Math = attribute_names [] [] []
names_of_attributes element.Meta = attribute_names (codes "content") (codes "http-equiv") (codes "property")
names_of_attributes element.Object = attribute_names (codes "data") [] []
names_of_attributes element.Param = attribute_names (codes "value") [] []
names_of_attributes element.Svg = attribute_names [] [] []
names_of_attributes element.Video = attribute_names (codes "src") (codes "poster") []
names_of_attributes element.Template = attribute_names [] [] (codes "shadowrootmode")
names_of_attributes element.Other = attribute_names [] [] []

-- some attributes are read only of this element
abbrev pub has_rare_names : Element → Bool
has_rare_names element.Annotation = true
has_rare_names element.Font = true
has_rare_names _ = false

abbrev pub attribute_names_at : code.AttributeNames → AttributeNames
attribute_names_at w = record { first = w.first.now; second = w.second.now; third = w.third.now; name = w.name.now }

-- whether the value of its attribute, as written, makes a template a shadow root
abbrev pub is_shadow : Option (List ℕ) → Bool
is_shadow None = false
is_shadow (Some mode) = same_name mode (codes "open") || same_name mode (codes "closed")

-- the contents of the element are not part of the page, by the third of its values
abbrev pub is_inert : Element → Option (List ℕ) → Bool
is_inert element.Template mode = not (is_shadow mode)
is_inert _ mode = false
