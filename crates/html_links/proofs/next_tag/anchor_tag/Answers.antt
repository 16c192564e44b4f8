use Rattle.html_links.proofs.Prelude.{Anchor, names_of_attributes, values_at}
use Rattle.html_links.proofs.Passing.{text_less, has_same, anchor_seen}
use Rattle.html_links.proofs.next_tag.anchor_tag.Goals as goal

pub returns-in-Some : goal.returns-in-Some
returns-in-Some c = (
  has_same _ _ (anchor_seen c.args.name.now c.args.bytes.now c.in-Some.last.now (values_at c.values_in.new.values) c.requires c.in-Some.ensures),
  text_less (names_of_attributes Anchor) (values_at c.values_in.new.values) c.in-Some.last.now c.args.bytes.now c.in-Some.ensures,
)
