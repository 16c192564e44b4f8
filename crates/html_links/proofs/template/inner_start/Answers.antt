use Rattle.html_links.proofs.Prelude.{◌∙◌, false, map, ap, refl, sym, true, lower, names_of_attributes, values_at, read, after_start, content_at}
use Rattle.html_links.proofs.Templates.{start_within, open_start_within, none_within}
use Rattle.html_links.proofs.Passing.{text_less}
use native.Mathlib.Omega.{arith}
use Rattle.html_links.proofs.template.inner_start.Goals as goal

pub returns-in_default-clause-reads : goal.returns-in_default-clause-reads
returns-in_default-clause-reads c = open_start_within c.args.context (map lower c.args.name.now) c.args.bytes.now (names_of_attributes c.element_at-element.result) c.in_default.ensures

pub returns-then-opens_template-clause-reads : goal.returns-then-opens_template-clause-reads
returns-then-opens_template-clause-reads c =
    start_within c.args.context c.tag_context-own.result (map lower c.args.name.now) c.args.bytes.now c.element_at-element.result (values_at c.values_in.new.values) c.in-Some.text.now _ true
    c.tag_context-own.ensures c.element_at-element.ensures c.in-Some.ensures
    (ap (λ at. read at (after_start (content_at c.tag_context-own.result (map lower c.args.name.now)) (map lower c.args.name.now)) c.in-Some.text.now) (sym c.inner_context-after.ensures) ∙ c.in-Some-after_element.ensures.reads c.inner_context-after.result)
    (sym c.opens_template.ensures ∙ c.if-opens_template.true)

pub returns-else-opens_template-clause-reads : goal.returns-else-opens_template-clause-reads
returns-else-opens_template-clause-reads c =
    start_within c.args.context c.tag_context-own.result (map lower c.args.name.now) c.args.bytes.now c.element_at-element.result (values_at c.values_in.new.values) c.in-Some.text.now _ false
    c.tag_context-own.ensures c.element_at-element.ensures c.in-Some.ensures
    (ap (λ at. read at (after_start (content_at c.tag_context-own.result (map lower c.args.name.now)) (map lower c.args.name.now)) c.in-Some.text.now) (sym c.inner_context-after.ensures) ∙ c.in-Some-after_element.ensures.reads c.inner_context-after.result)
    (sym c.opens_template.ensures ∙ c.if-opens_template.false)

pub returns-in-None-clause-reads : goal.returns-in-None-clause-reads
returns-in-None-clause-reads c = λ n.
    start_within c.args.context c.tag_context-own.result (map lower c.args.name.now) c.args.bytes.now c.element_at-element.result (values_at c.values_in.new.values) c.in-Some.text.now _ _
    c.tag_context-own.ensures c.element_at-element.ensures c.in-Some.ensures
    (ap (λ at. read at (after_start (content_at c.tag_context-own.result (map lower c.args.name.now)) (map lower c.args.name.now)) c.in-Some.text.now) (sym c.inner_context-after.ensures) ∙ c.in-None.ensures.reads c.inner_context-after.result)
    refl n ∙ none_within _

pub returns-then-opens_template-clause-leaves : goal.returns-then-opens_template-clause-leaves
returns-then-opens_template-clause-leaves c = grind (arith, text_less)

pub returns-else-opens_template-clause-leaves : goal.returns-else-opens_template-clause-leaves
returns-else-opens_template-clause-leaves c = grind (arith, text_less)
