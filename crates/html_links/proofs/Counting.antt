-- The number of positions of a document's links is that of the links.
use Rattle.html_links.proofs.Prelude.{◌≡◌, ◌∙◌, sym, ap, ap₂, refl, ℕ, ◌+◌, ◌-◌, Bool, true, false, cond, List, [], ◌∷◌, ◌++◌, Option, None, Some, length, length-map, bytes_eq, Element, Values, Seen, links_in, links_of, style_links_of}
use Rattle.std.proofs.lemmas.List.{length-append}
use Rattle.html_links.specs.declared.context.Syntax.{Syntax}
use Rattle.html_links.specs.declared.reader.Form.TheVariants as form
use Rattle.html_links.specs.References.{text_of}
use Rattle.html_links.specs.Styles.{founds_of, left_of, style_lefts_of, url_of}
use Rattle.html_links.specs.Links.{first_links, links_at, links_with, second_links, style_links_with, third_links, value_links}
use Rattle.html_links.specs.Positions.{all_at, positions_at, positions_in, positions_of, positions_with, style_positions, style_positions_with, url_positions}
use Rattle.html_links.specs.Seen.{seen_in}
use Rattle.html_links.proofs.Placing.{as_written}

-- two lists one after another
both : (a b : List ℕ) (x y : List (List ℕ)) → length a ≡ length x → length b ≡ length y → length (a ++ b) ≡ length (x ++ y)
both a b x y one other = length-append a b ∙ ap₂ (λ n m. n + m) one other ∙ sym (length-append x y)

at_count : (position : ℕ) (links : List (List ℕ)) → length (all_at position links) ≡ length links
at_count position links = length-map links (λ link. position)

url_count : (end : ℕ) (sheet : List ℕ) → length (url_positions end sheet) ≡ length (style_links_of sheet)
url_count end sheet = length-map (style_lefts_of sheet) (λ left. end - left) ∙ length-map (founds_of false sheet) left_of ∙ sym (length-map (founds_of false sheet) url_of)

style_at : (b : Bool) (end position : ℕ) (value : List ℕ) → bytes_eq (text_of value) value ≡ b →
    length (cond b (url_positions end value) (all_at position (style_links_of (text_of value)))) ≡ length (style_links_of (text_of value))
style_at true end position value is = url_count end value ∙ ap (λ t. length (style_links_of t)) (sym (as_written value is))
style_at false end position value is = at_count position (style_links_of (text_of value))

style_count : (end : ℕ) (value : Option (List ℕ)) (left : ℕ) → length (style_positions end value left) ≡ length (value_links form.Style value)
style_count end None left = refl
style_count end (Some value) left = style_at (bytes_eq (text_of value) value) (end - (left - length value)) (end - left) value refl

with_count : (end : ℕ) (element : Element) (v : Values) → length (positions_with end element v) ≡ length (links_with element v)
with_count end element v =
    both (all_at (end - v.first_left) (first_links element v) ++ all_at (end - v.second_left) (second_links element v)) (all_at (end - v.third_left) (third_links element v))
    (first_links element v ++ second_links element v) (third_links element v)
    (both (all_at (end - v.first_left) (first_links element v)) (all_at (end - v.second_left) (second_links element v)) (first_links element v) (second_links element v)
    (at_count (end - v.first_left) (first_links element v)) (at_count (end - v.second_left) (second_links element v)))
    (at_count (end - v.third_left) (third_links element v))

styles_count : (end : ℕ) (v : Values) (sheet : List ℕ) (left : ℕ) → length (style_positions_with end v sheet left) ≡ length (style_links_with v sheet)
styles_count end v sheet left =
    both (style_positions end v.style v.style_left) (url_positions (end - (left - length sheet)) sheet) (value_links form.Style v.style) (style_links_of sheet)
    (style_count end v.style v.style_left) (url_count (end - (left - length sheet)) sheet)

tag_count : (styles : Bool) (end : ℕ) (seen : Seen) → length (positions_at styles end seen) ≡ length (links_at styles seen)
tag_count true end seen =
    both (style_positions_with end seen.values seen.sheet seen.left) (positions_with end seen.element seen.values) (style_links_with seen.values seen.sheet) (links_with seen.element seen.values)
    (styles_count end seen.values seen.sheet seen.left) (with_count end seen.element seen.values)
tag_count false end seen = with_count end seen.element seen.values

count_in : (styles : Bool) (end : ℕ) (seen : List Seen) → length (positions_in styles end seen) ≡ length (links_in styles seen)
count_in styles end [] = refl
count_in styles end (seen ∷ rest) =
    both (positions_at styles end seen) (positions_in styles end rest) (links_at styles seen) (links_in styles rest) (tag_count styles end seen) (count_in styles end rest)

pub one_for_each : (styles : Bool) (syntax : Syntax) (document : List ℕ) → length (positions_of styles syntax document) ≡ length (links_of styles syntax document)
one_for_each styles syntax document = count_in styles (length document) (seen_in syntax document)
