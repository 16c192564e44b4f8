use Rattle.crawl_keys.proofs.Prelude.{sym, ◌∙◌, arith, prefix_len_is, is_host_byte}
use Rattle.crawl_keys.proofs.plain.host_len.Goals as goal

pub returns-else-is_host_byte-clause-value : goal.returns-else-is_host_byte-clause-value
returns-else-is_host_byte-clause-value c =
    sym (prefix_len_is is_host_byte c.args.bytes.now c.loop-len.len (omega arith) c.loop-len.invariant.1 (λ _. sym c.is_host_byte.ensures ∙ c.if-is_host_byte.false))

pub returns-after-loop-len-clause-value : goal.returns-after-loop-len-clause-value
returns-after-loop-len-clause-value c =
    sym (prefix_len_is is_host_byte c.args.bytes.now c.loop-len.len (omega arith) c.loop-len.invariant.1 (λ inside. absurd (omega arith)))
