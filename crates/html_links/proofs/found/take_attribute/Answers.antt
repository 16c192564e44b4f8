use Rattle.html_links.proofs.Prelude.{◌∙◌, sym, values_at}
use Rattle.html_links.proofs.Naming.{not_read}
use Rattle.html_links.proofs.found.take_attribute.Goals as goal

pub returns-then-not-may_be : goal.returns-then-not-may_be
returns-then-not-may_be c =
    sym (not_read (values_at c.args.values.now) c.args.element c.args.attribute.name.now c.args.attribute.value.now c.args.attribute.left (sym c.has_rare_names.ensures ∙ c.if-not-has_rare_names.true) (sym c.may_be.ensures ∙ c.if-not-may_be.true))
