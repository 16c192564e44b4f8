use Rattle.html_links.proofs.Prelude.{TagOpen, false, length}
use Rattle.html_links.proofs.Documents.{read_tag_name, letter_opens}
use Rattle.html_links.proofs.document.next_markup.Goals as goal

pub returns-in-Letter-clause-reads : goal.returns-in-Letter-clause-reads
returns-in-Letter-clause-reads c =
    read_tag_name c.args.context TagOpen false c.args.bytes.now c.in-Some.first c.in-Some.more.now c.split_tag_name.result.0.now c.split_tag_name.result.1.now
    c.in-Some.ensures (letter_opens c.args.context c.in-Some.first (length c.in-Some.more.now) c.in-Letter.ensures) c.split_tag_name.ensures.name c.split_tag_name.ensures.rest
