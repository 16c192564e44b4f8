use Rattle.document_links.proofs.Prelude.{sym}
use Rattle.document_links.proofs.Prescanning.{closed_comment, open_comment}
use Rattle.document_links.proofs.prescan.read_comment.Goals as goal

pub returns-in-Some-clause-reads : goal.returns-in-Some-clause-reads
returns-in-Some-clause-reads c = sym (closed_comment c.args.bytes.now c.in-Some.more.now c.in-Some.ensures.value)

pub returns-in-None-clause-reads : goal.returns-in-None-clause-reads
returns-in-None-clause-reads c = sym (open_comment c.args.bytes.now c.in-None.ensures.value)
