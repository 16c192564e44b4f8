use Rattle.crawl_keys.proofs.Prelude.{◌≡◌, true, drop, is_plain}
use Rattle.crawl_keys.proofs.plain.is_plain_short.Given as goal

-- the text is plain if its rest is
abbrev pub invariant-loop-byte : goal.invariant-loop-byte
invariant-loop-byte l = is_plain l.before (drop l.byte-index l.text) ≡ true → is_plain l.fn.last l.text ≡ true
