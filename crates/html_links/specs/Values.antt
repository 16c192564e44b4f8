-- The values of a tag's attributes that are read, including those that any tag may have. If several attributes have the same name,
-- the first counts.
use Rattle.std.specs.Prelude.{ℕ, Bool, true, false, if◌then◌else◌, List, [], ◌∷◌, map, codes, Option, None, Some, bytes_eq}
use Rattle.std.specs.Option.{option_or}
use Rattle.std.specs.Borrow.{Bor}
use Rattle.html_links.specs.declared.found.Values as code
use Rattle.html_links.specs.Tags.{lower, Attribute, Tag}
use Rattle.html_links.specs.Comments.{bytes_at}
use Rattle.html_links.specs.Elements.{AttributeNames}

-- the value of the first attribute with a name
abbrev pub first_named : List ℕ → List Attribute → Option (List ℕ)
first_named name [] = None
first_named name (a ∷ rest) = if bytes_eq a.name (map lower name) then Some a.value else first_named name rest

-- the number of bytes from that value on; 0 if there is none
abbrev pub left_named : List ℕ → List Attribute → ℕ
left_named name [] = 0
left_named name (a ∷ rest) = if bytes_eq a.name (map lower name) then a.left else left_named name rest

pub record Values : Type 0 where
  pub first : Option (List ℕ)
  pub second : Option (List ℕ)
  pub third : Option (List ℕ)
  pub style : Option (List ℕ)
  pub id : Option (List ℕ)
  pub name : Option (List ℕ)
  pub self_closing : Bool
  pub first_left : ℕ
  pub second_left : ℕ
  pub third_left : ℕ
  pub style_left : ℕ

abbrev pub is_absent : Option (List ℕ) → Bool
is_absent None = true
is_absent (Some value) = false

-- the values of a tag with these attributes and this self-closing flag
abbrev pub values_of : AttributeNames → List Attribute → Bool → Values
values_of w all self_closing = record {
  first = first_named w.first all;
  second = first_named w.second all;
  third = first_named w.third all;
  style = first_named (codes "style") all;
  id = first_named (codes "id") all;
  name = first_named w.name all;
  self_closing = self_closing;
  first_left = left_named w.first all;
  second_left = left_named w.second all;
  third_left = left_named w.third all;
  style_left = left_named (codes "style") all;
}

-- what contracts state of the code: values with the number of bytes after them, and one more attribute
pub record TagValues : Type 0 where
  pub values : Values
  pub rest : List ℕ

abbrev pub tag_with : Values → List ℕ → TagValues
tag_with values rest = record { values = values; rest = rest }

abbrev pub values_in : AttributeNames → Option Tag → Option TagValues
values_in w None = None
values_in w (Some t) = Some (tag_with (values_of w t.attributes t.self_closing) t.rest)

abbrev pub values_at : code.Values → Values
values_at v = record {
  first = bytes_at v.first;
  second = bytes_at v.second;
  third = bytes_at v.third;
  style = bytes_at v.style;
  id = bytes_at v.id;
  name = bytes_at v.name;
  self_closing = v.self_closing;
  first_left = v.first_left;
  second_left = v.second_left;
  third_left = v.third_left;
  style_left = v.style_left;
}

abbrev pub tag_values : Values → Option (Bor (List ℕ)) → Option TagValues
tag_values values None = None
tag_values values (Some rest) = Some (tag_with values rest.now)

abbrev pub no_values : Values
no_values = record {
  first = None;
  second = None;
  third = None;
  style = None;
  id = None;
  name = None;
  self_closing = false;
  first_left = 0;
  second_left = 0;
  third_left = 0;
  style_left = 0;
}

abbrev pub or_named : Option (List ℕ) → List ℕ → Attribute → Option (List ℕ)
or_named value name a = option_or value (if bytes_eq a.name (map lower name) then Some a.value else None)

-- the number of bytes from the value on that this attribute adds, if there was no value
abbrev pub or_left : Option (List ℕ) → ℕ → List ℕ → Attribute → ℕ
or_left value left name a = if bytes_eq a.name (map lower name) then (if is_absent value then a.left else left) else left

abbrev pub with_attribute : Values → AttributeNames → Attribute → Values
with_attribute v w a = record {
  first = or_named v.first w.first a;
  second = or_named v.second w.second a;
  third = or_named v.third w.third a;
  style = or_named v.style (codes "style") a;
  id = or_named v.id (codes "id") a;
  name = or_named v.name w.name a;
  self_closing = v.self_closing;
  first_left = or_left v.first v.first_left w.first a;
  second_left = or_left v.second v.second_left w.second a;
  third_left = or_left v.third v.third_left w.third a;
  style_left = or_left v.style v.style_left (codes "style") a;
}
