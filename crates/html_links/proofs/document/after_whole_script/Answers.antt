use Rattle.html_links.proofs.Documents.{read_script, read_open_script}
use Rattle.html_links.proofs.document.after_whole_script.Goals as goal

pub returns-in-Some-clause-reads : goal.returns-in-Some-clause-reads
returns-in-Some-clause-reads c = read_script c.args.bytes.now c.in-Some.more.now c.after_tag.result c.in-Some.ensures c.after_tag.ensures

pub returns-in-None-clause-reads : goal.returns-in-None-clause-reads
returns-in-None-clause-reads c = read_open_script c.args.bytes.now c.in-None.ensures
