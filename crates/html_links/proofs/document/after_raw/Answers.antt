use Rattle.html_links.proofs.Prelude.{map, lower}
use Rattle.html_links.proofs.Documents.{read_raw, read_open_raw}
use Rattle.html_links.proofs.document.after_raw.Goals as goal

pub returns-in-Some-clause-reads : goal.returns-in-Some-clause-reads
returns-in-Some-clause-reads c = read_raw (map lower c.args.name.now) c.args.bytes.now c.in-Some.more.now c.after_tag.result c.in-Some.ensures c.after_tag.ensures

pub returns-in-None-clause-reads : goal.returns-in-None-clause-reads
returns-in-None-clause-reads c = read_open_raw (map lower c.args.name.now) c.args.bytes.now c.in-None.ensures
