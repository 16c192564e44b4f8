-- What a reader that skips tags without links and anchors finds among all tags.
use Rattle.std.specs.Prelude.{◌≡◌, ◌<◌, ℕ, ◌&&◌, Bool, true, false, List, [], ◌∷◌, length, map, Option, None, Some}
use Rattle.html_links.specs.declared.next_tag.NextTag.{NextTag}
use Rattle.html_links.specs.declared.next_tag.Step.{Step}
use Rattle.html_links.specs.declared.next_tag.Step.TheVariants as step
use Rattle.html_links.specs.Tags.{lower, BeforeName}
use Rattle.html_links.specs.Document.{InTag, read}
use Rattle.html_links.specs.declared.context.Context.{Context}
use Rattle.html_links.specs.Values.{Values, is_absent}
use Rattle.html_links.specs.Seen.{Seen, seen_within, seen_from, seen_at}
use Rattle.html_links.specs.Links.{links_in, inner_links_in, ids_in, base_in}
use Rattle.html_links.specs.Positions.{positions_in}

-- none of the values names a document or an anchor, or is a style
abbrev pub name_nothing : Values → Bool
name_nothing v = is_absent v.first && is_absent v.second && is_absent v.style && is_absent v.id

-- `some` of the tags have the same links, with and without those of styles and in a `srcdoc`, at the same positions, and the same ids
-- and base as `all` of them
pub record Has (all some : List Seen) : Type 0 where
  pub links : links_in false all ≡ links_in false some
  pub ids : ids_in all ≡ ids_in some
  pub base : base_in all ≡ base_in some
  pub styled : links_in true all ≡ links_in true some
  pub inner : inner_links_in all ≡ inner_links_in some
  pub positions : (styles : Bool) (end : ℕ) → positions_in styles end all ≡ positions_in styles end some

-- what contracts state of the code: the tag with these values, and those after it, have what all tags have
abbrev pub Finds : Option NextTag → Values → List Seen → Type 0
Finds None values seen = Has seen []
Finds (Some t) values seen = Has seen (seen_at t values ∷ seen_from t.context t.rest.now)

-- likewise for the next `<` in some bytes; fewer bytes come after it. After something that names nothing, this is the context
abbrev pub Steps : Step → Context → Values → List ℕ → List Seen → Type 0
Steps (step.Pass more) after values bytes seen = Has seen (seen_from after more.now) × (length more.now < length bytes)
Steps (step.Take t) after values bytes seen = Has seen (seen_at t values ∷ seen_from t.context t.rest.now) × (length t.rest.now < length bytes)
Steps step.End after values bytes seen = Has seen []

-- likewise from the bytes after the name of a start tag
abbrev pub StepsTag : Step → Context → Values → List ℕ → List ℕ → Type 0
StepsTag s at values name bytes = Steps s at values bytes (seen_within 0 (read at (InTag false (map lower name) BeforeName []) bytes))
