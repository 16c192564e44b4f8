use Rattle.document_links.proofs.Prelude.{◌==◌, ◌||◌, ◌∙◌, sym}
use Rattle.html_links.proofs.Cuts.{first_cut, no_first}
use Rattle.html_links.proofs.Sources.{front_all}
use Rattle.document_links.specs.Markup.{is_unquoted}
use Rattle.document_links.proofs.start_tag.split_quote.Goals as goal

pub returns-in-Some-clause-since : goal.returns-in-Some-clause-since
returns-in-Some-clause-since c = c.split_at.ensures.front ∙ (first_cut (λ x. x == 34 || x == 39) c.args.bytes.now c.in-Some.end c.in-Some.ensures).0

pub returns-in-Some-clause-quoted : goal.returns-in-Some-clause-quoted
returns-in-Some-clause-quoted c = c.split_at.ensures.back ∙ (first_cut (λ x. x == 34 || x == 39) c.args.bytes.now c.in-Some.end c.in-Some.ensures).1

pub returns-in-None-clause-since : goal.returns-in-None-clause-since
returns-in-None-clause-since c = sym (front_all is_unquoted c.args.bytes.now (no_first (λ x. x == 34 || x == 39) c.args.bytes.now c.in-None.ensures))

pub returns-in-None-clause-quoted : goal.returns-in-None-clause-quoted
returns-in-None-clause-quoted c = sym (no_first (λ x. x == 34 || x == 39) c.args.bytes.now c.in-None.ensures)
