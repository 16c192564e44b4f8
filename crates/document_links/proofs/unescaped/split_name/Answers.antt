use Rattle.document_links.proofs.Prelude.{◌==◌, ◌||◌, ◌∙◌, sym}
use Rattle.html_links.proofs.Cuts.{first_cut, no_first}
use Rattle.html_links.proofs.Sources.{front_all}
use Rattle.document_links.specs.Unescaped.{in_reference}
use Rattle.document_links.proofs.unescaped.split_name.Goals as goal

pub returns-in-Some-clause-name : goal.returns-in-Some-clause-name
returns-in-Some-clause-name c = c.split_at.ensures.front ∙ (first_cut (λ x. x == 59 || x == 38) c.args.bytes.now c.in-Some.end c.in-Some.ensures).0

pub returns-in-Some-clause-rest : goal.returns-in-Some-clause-rest
returns-in-Some-clause-rest c = c.split_at.ensures.back ∙ (first_cut (λ x. x == 59 || x == 38) c.args.bytes.now c.in-Some.end c.in-Some.ensures).1

pub returns-in-None-clause-name : goal.returns-in-None-clause-name
returns-in-None-clause-name c = sym (front_all in_reference c.args.bytes.now (no_first (λ x. x == 59 || x == 38) c.args.bytes.now c.in-None.ensures))

pub returns-in-None-clause-rest : goal.returns-in-None-clause-rest
returns-in-None-clause-rest c = sym (no_first (λ x. x == 59 || x == 38) c.args.bytes.now c.in-None.ensures)
