use Rattle.html_links.proofs.Prelude.{◌∙◌, [], map, refl, sym, Other, lower, names_of_attributes, values_at, no_values, Html}
use Rattle.html_links.proofs.Passing.{open_start, text_less, has_same, passes_tag, usual_seen}
use Rattle.html_links.proofs.next_tag.usual_tag.Goals as goal

pub returns-in-Some : goal.returns-in-Some
returns-in-Some c = (
  passes_tag c.args.name.now c.args.bytes.now c.in-Some.last.now no_values c.requires refl c.in-Some.ensures,
  text_less (names_of_attributes Other) no_values c.in-Some.last.now c.args.bytes.now c.in-Some.ensures,
)

pub returns-in_default-usual_values : goal.returns-in_default-usual_values
returns-in_default-usual_values c = has_same _ [] (open_start (Html 0) (map lower c.args.name.now) c.args.bytes.now (names_of_attributes Other) c.in_default-usual_values.ensures)

pub returns-then-name_nothing : goal.returns-then-name_nothing
returns-then-name_nothing c = (
  passes_tag c.args.name.now c.args.bytes.now c.in-Some-usual_values.last.now (values_at c.usual_values.new.values) c.requires (sym c.name_nothing.ensures ∙ c.if-name_nothing.true) c.in-Some-usual_values.ensures,
  text_less (names_of_attributes Other) (values_at c.usual_values.new.values) c.in-Some-usual_values.last.now c.args.bytes.now c.in-Some-usual_values.ensures,
)

pub returns : goal.returns
returns c = (
  has_same _ _ (usual_seen c.args.name.now c.args.bytes.now c.in-Some-usual_values.last.now (values_at c.usual_values.new.values) c.requires c.in-Some-usual_values.ensures),
  text_less (names_of_attributes Other) (values_at c.usual_values.new.values) c.in-Some-usual_values.last.now c.args.bytes.now c.in-Some-usual_values.ensures,
)
