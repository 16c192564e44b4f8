use Rattle.document_links.proofs.Encoded.{file_in}
use Rattle.document_links.specs.declared.text_kind.TextKind.TheVariants.{UrlList}
use Rattle.document_links.proofs.file_links.read_url_list.Goals as goal

pub returns : goal.returns
returns c =
    let found = c.charset_of-charset in
    file_in UrlList c.args.options found.result c.args.body.now c.links_in_charset.result found.ensures.value found.ensures.marked found.ensures.unnamed found.ensures.known found.ensures.valid c.links_in_charset.ensures
