use Rattle.document_links.proofs.Prelude.{◌≡◌, ◌∙◌, true, false, sym, true≢false, IsUtf8-from_ascii, utf8_lossy-IsUtf8}
use Rattle.document_links.proofs.document.with_replacements.Goals as goal

pub returns-then-is_utf8-clause-text : goal.returns-then-is_utf8-clause-text
returns-then-is_utf8-clause-text c = sym (utf8_lossy-IsUtf8 c.args.bytes.now (c.is_utf8.ensures.0 c.if-is_utf8.true))

-- ASCII is already UTF-8
pub returns-clause-ascii : goal.returns-clause-ascii
returns-clause-ascii c = λ ascii.
    let clash : true ≡ false = sym (c.is_utf8.ensures.1 (IsUtf8-from_ascii c.args.bytes.now ascii)) ∙ c.if-is_utf8.false in
    absurd (true≢false clash)
