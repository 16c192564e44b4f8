use Rattle.document_links.proofs.Prelude.{◌==◌, arith, not, sym}
use Rattle.html_links.proofs.Documents.{cut_shorter}
use Rattle.document_links.proofs.Prescanning.{closed_markup, open_markup}
use Rattle.document_links.proofs.prescan.read_other.Goals as goal

pub returns-in-Some-clause-reads : goal.returns-in-Some-clause-reads
returns-in-Some-clause-reads c = sym (closed_markup c.args.bytes.now c.in-Some.more.now c.in-Some.ensures.1)

pub returns-in-Some-clause-leaves : goal.returns-in-Some-clause-leaves
returns-in-Some-clause-leaves c = omega (arith, cut_shorter (λ b. not (b == 62)) c.args.bytes.now c.in-Some.more.now 62 c.in-Some.ensures.1)

pub returns-in-None-clause-reads : goal.returns-in-None-clause-reads
returns-in-None-clause-reads c = sym (open_markup c.args.bytes.now c.in-None.ensures)
