use Rattle.html_links.proofs.Prelude.{◌∙◌, map, sym, lower, content_at}
use Rattle.html_links.proofs.Documents.{foreign_markup, html_content_at, to_plain, to_markup}
use Rattle.html_links.proofs.Passing.{text_content}
use Rattle.html_links.proofs.document.after_element.Goals as goal

pub returns-then-is_foreign-clause-reads : goal.returns-then-is_foreign-clause-reads
returns-then-is_foreign-clause-reads c = foreign_markup c.args.context (map lower c.args.name.now) c.args.bytes.now (sym c.is_foreign.ensures ∙ c.if-is_foreign.true)

pub returns-then-not-may_be-clause-reads : goal.returns-then-not-may_be-clause-reads
returns-then-not-may_be-clause-reads c =
    to_markup (content_at c.args.context (map lower c.args.name.now)) (map lower c.args.name.now) c.args.bytes.now
    (sym (html_content_at c.args.context (map lower c.args.name.now) (sym c.is_foreign.ensures ∙ c.if-is_foreign.false) ∙ text_content c.args.name.now (sym c.may_be.ensures ∙ c.if-not-may_be.true)))

pub returns-in-Plain-clause-reads : goal.returns-in-Plain-clause-reads
returns-in-Plain-clause-reads c =
    to_plain (content_at c.args.context (map lower c.args.name.now)) (map lower c.args.name.now) c.args.bytes.now
    (c.in-Plain.ensures ∙ sym (html_content_at c.args.context (map lower c.args.name.now) (sym c.is_foreign.ensures ∙ c.if-is_foreign.false)))
