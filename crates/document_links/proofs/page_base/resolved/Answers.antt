use Rattle.document_links.proofs.Prelude.{IsUtf8-from_is_utf8}
use Rattle.document_links.proofs.page_base.resolved.Goals as goal

pub returns-in-Err : goal.returns-in-Err
returns-in-Err c = λ utf8. absurd (c.in-Err.ensures.cases.0 (IsUtf8-from_is_utf8 c.args.text.now utf8))
