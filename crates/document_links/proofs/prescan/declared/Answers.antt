use Rattle.document_links.proofs.Prelude.{◌==◌, ◌∙◌, arith, not, sym}
use Rattle.html_links.proofs.Documents.{cut_shorter}
use Rattle.document_links.proofs.Prescanning.{no_markup, to_markup}
use Rattle.document_links.proofs.prescan.declared.Goals as goal

pub returns-in-Name : goal.returns-in-Name
returns-in-Name c = c.in-Name.ensures.reads ∙ sym (to_markup c.markup.rest.now c.in-Some.opened.now c.in-Some.ensures.1) ∙ c.markup.invariant

pub markup-smaller : goal.markup-smaller
markup-smaller c = omega (arith, c.in-Text.ensures.leaves, cut_shorter (λ b. not (b == 60)) c.markup.rest.now c.in-Some.opened.now 60 c.in-Some.ensures.1)

pub markup-preserved : goal.markup-preserved
markup-preserved c = c.in-Text.ensures.reads ∙ sym (to_markup c.markup.rest.now c.in-Some.opened.now c.in-Some.ensures.1) ∙ c.markup.invariant

pub returns-in-Unfinished : goal.returns-in-Unfinished
returns-in-Unfinished c = c.in-Unfinished.ensures.reads ∙ sym (to_markup c.markup.rest.now c.in-Some.opened.now c.in-Some.ensures.1) ∙ c.markup.invariant

pub returns : goal.returns
returns c = sym (no_markup c.markup.rest.now c.in_default.ensures) ∙ c.markup.invariant
