use Rattle.html_links.proofs.Prelude.{◌==◌, ◌||◌, ◌∙◌, sym, is_plain}
use Rattle.html_links.proofs.Cuts.{first_cut, no_first}
use Rattle.html_links.proofs.Sources.{front_all}
use Rattle.html_links.proofs.references.split_plain.Goals as goal

pub returns-in-Some-clause-plain : goal.returns-in-Some-clause-plain
returns-in-Some-clause-plain c = c.split_at.ensures.front ∙ (first_cut (λ x. x == 38 || x == 0) c.args.bytes.now c.in-Some.end c.in-Some.ensures).0

pub returns-in-Some-clause-rest : goal.returns-in-Some-clause-rest
returns-in-Some-clause-rest c = c.split_at.ensures.back ∙ (first_cut (λ x. x == 38 || x == 0) c.args.bytes.now c.in-Some.end c.in-Some.ensures).1

pub returns-in-None-clause-plain : goal.returns-in-None-clause-plain
returns-in-None-clause-plain c = sym (front_all is_plain c.args.bytes.now (no_first (λ x. x == 38 || x == 0) c.args.bytes.now c.in-None.ensures))

pub returns-in-None-clause-rest : goal.returns-in-None-clause-rest
returns-in-None-clause-rest c = sym (no_first (λ x. x == 38 || x == 0) c.args.bytes.now c.in-None.ensures)
