use Rattle.document_links.proofs.Prescanning.{after_trimmed}
use Rattle.document_links.proofs.prescan.skip_spaces.Goals as goal

pub returns : goal.returns
returns c = after_trimmed c.args.bytes.now c.trim_ascii_start.result.now c.trim_ascii_start.ensures.value
