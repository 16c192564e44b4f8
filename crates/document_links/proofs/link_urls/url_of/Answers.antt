use Rattle.document_links.proofs.Leading.{one_text, url_written}
use Rattle.document_links.proofs.link_urls.url_of.Goals as goal

pub returns-clause-url : goal.returns-clause-url
returns-clause-url c = λ no_base none.
    url_written c.url_of_one.result c.args.writer.now.charset c.args.page.now c.args.text.now c.in_ok-texts.texts
    (λ can. one_text c.args.writer.now.charset c.args.text.now c.args.writer.now.links c.in_ok-texts.texts (c.in_ok-texts.ensures.written no_base) can none) c.url_of_one.ensures
