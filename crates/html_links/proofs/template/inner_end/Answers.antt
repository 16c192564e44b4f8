use Rattle.html_links.proofs.Prelude.{◌∙◌, false, map, sym, true, lower}
use Rattle.html_links.proofs.Templates.{end_within, open_end_within}
use Rattle.html_links.proofs.template.inner_end.Goals as goal

pub returns-in_default-clause-reads : goal.returns-in_default-clause-reads
returns-in_default-clause-reads c = open_end_within c.args.context (map lower c.args.name.now) c.args.bytes.now c.in_default.ensures

pub returns-then-ends_template-clause-reads : goal.returns-then-ends_template-clause-reads
returns-then-ends_template-clause-reads c =
    end_within c.args.context c.outer_context-after.result (map lower c.args.name.now) c.args.bytes.now c.in-Some.rest.now true c.in-Some.ensures c.outer_context-after.ensures (sym c.ends_template.ensures ∙ c.if-ends_template.true)

pub returns-else-ends_template-clause-reads : goal.returns-else-ends_template-clause-reads
returns-else-ends_template-clause-reads c =
    end_within c.args.context c.outer_context-after.result (map lower c.args.name.now) c.args.bytes.now c.in-Some.rest.now false c.in-Some.ensures c.outer_context-after.ensures (sym c.ends_template.ensures ∙ c.if-ends_template.false)
