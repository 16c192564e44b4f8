use Rattle.document_links.specs.Charsets.{utf8_names}
use Rattle.document_links.proofs.charset.is_utf8_name.Goals as goal

pub returns : goal.returns
unfolding utf8_names
returns c = c.is_among.ensures
