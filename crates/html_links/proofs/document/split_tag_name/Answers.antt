use Rattle.html_links.specs.Markup.{in_tag_name}
use Rattle.html_links.proofs.Documents.{led_cut}
use Rattle.html_links.proofs.document.split_tag_name.Goals as goal

pub returns-clause-rest : goal.returns-clause-rest
returns-clause-rest c = rw c.split_at.ensures.back (led_cut in_tag_name c.args.bytes.now c.tag_name_len.result c.requires c.tag_name_len.ensures).1
