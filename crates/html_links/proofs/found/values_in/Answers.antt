use Rattle.html_links.proofs.Prelude.{attribute_at, names_of_attributes, values_at}
use Rattle.html_links.proofs.Reading.{one_more}
use Rattle.html_links.proofs.found.values_in.Goals as goal

pub pieces-preserved-in-Attribute : goal.pieces-preserved-in-Attribute
pieces-preserved-in-Attribute c =
    one_more c.args.bytes.now c.pieces.rest.now c.in-Attribute.more.now (names_of_attributes c.args.element) (values_at c.pieces.values) (values_at c.take_attribute.new.values) (attribute_at c.in-Attribute.attribute)
    c.pieces.invariant c.in-Attribute.ensures.reads c.take_attribute.ensures
