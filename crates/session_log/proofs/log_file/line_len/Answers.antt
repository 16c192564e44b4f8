use Rattle.std.proofs.Common.{◌≡◌, Some, None, length, sym, ap, ◌∙◌, rules}
use Rattle.std.specs.Prelude.{unwrap_or}
use Rattle.text_lines.proofs.CutLines.{first_byte-position}
use Rattle.session_log.proofs.log_file.line_len.Goals as goal

pub returns-in-Some-clause-value : goal.returns-in-Some-clause-value
returns-in-Some-clause-value c =
    let found : c.memchr.result ≡ Some c.in-Some.index = search rules in
    ap (λ r. unwrap_or r (length c.args.bytes.now)) (sym found ∙ first_byte-position _ c.args.bytes.now c.memchr.result c.memchr.ensures)

pub returns-in-None-clause-value : goal.returns-in-None-clause-value
returns-in-None-clause-value c =
    let found : c.memchr.result ≡ None = search rules in
    ap (λ r. unwrap_or r (length c.args.bytes.now)) (sym found ∙ first_byte-position _ c.args.bytes.now c.memchr.result c.memchr.ensures)
