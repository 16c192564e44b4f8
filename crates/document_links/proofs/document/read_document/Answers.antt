use Rattle.document_links.proofs.Encoded.{of_kind}
use Rattle.document_links.proofs.Keeping.{read_in}
use Rattle.document_links.proofs.document.read_document.Goals as goal

pub returns-clause-links : goal.returns-clause-links
returns-clause-links c =
    let defined = of_kind c.args.options c.kind.result c.charset_of-charset.result c.args.body.now c.charset_of-charset.ensures.value c.kind.ensures in
    (read_in c.args.options c.charset_of-charset.result c.args.url.now c.args.body.now c.in_ok-document.document.links c.in_ok-document.document.anchors defined c.charset_of-charset.ensures.marked c.charset_of-charset.ensures.valid c.in_ok-document.ensures).found

pub returns-clause-read : goal.returns-clause-read
returns-clause-read c =
    let defined = of_kind c.args.options c.kind.result c.charset_of-charset.result c.args.body.now c.charset_of-charset.ensures.value c.kind.ensures in
    read_in c.args.options c.charset_of-charset.result c.args.url.now c.args.body.now c.in_ok-document.document.links c.in_ok-document.document.anchors defined c.charset_of-charset.ensures.marked c.charset_of-charset.ensures.valid c.in_ok-document.ensures
