use Rattle.document_links.specs.Charsets.{windows_names}
use Rattle.document_links.proofs.charset.is_windows_name.Goals as goal

pub returns : goal.returns
unfolding windows_names
returns c = c.is_among.ensures
