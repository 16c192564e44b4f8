use Rattle.html_links.proofs.Prelude.{◌∙◌, ap, arith, suc, seen_within}
use Rattle.html_links.proofs.Documents.{read_text, read_less, cut_shorter}
use Rattle.html_links.proofs.template.next_inner.Goals as goal

pub returns-in_default-clause-reads : goal.returns-in_default-clause-reads
returns-in_default-clause-reads c = λ n. ap (seen_within (suc n)) (read_text c.args.context c.args.bytes.now c.in_default.ensures)

pub returns-in-Start-clause-reads : goal.returns-in-Start-clause-reads
returns-in-Start-clause-reads c = grind (arith, read_less)

pub returns-in-Start-clause-leaves : goal.returns-in-Start-clause-leaves
returns-in-Start-clause-leaves c = grind (arith, cut_shorter)

pub returns-in-End-clause-reads : goal.returns-in-End-clause-reads
returns-in-End-clause-reads c = grind (arith, read_less)

pub returns-in-End-clause-leaves : goal.returns-in-End-clause-leaves
returns-in-End-clause-leaves c = grind (arith, cut_shorter)

pub returns-in-Other-clause-reads : goal.returns-in-Other-clause-reads
returns-in-Other-clause-reads c = λ n. ap (seen_within (suc n)) (read_less c.args.context c.args.bytes.now c.in-Some.opened.now c.in-Some.ensures.1 ∙ c.in-Other.ensures.reads)

pub returns-in-Other-clause-leaves : goal.returns-in-Other-clause-leaves
returns-in-Other-clause-leaves c = grind (arith, cut_shorter)

pub returns-in-Unfinished-clause-reads : goal.returns-in-Unfinished-clause-reads
returns-in-Unfinished-clause-reads c = λ n. ap (seen_within (suc n)) (read_less c.args.context c.args.bytes.now c.in-Some.opened.now c.in-Some.ensures.1 ∙ c.in-Unfinished.ensures.reads)
