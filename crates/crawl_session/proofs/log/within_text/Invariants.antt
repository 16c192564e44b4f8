use Rattle.crawl_session.proofs.Prelude.{◌≡◌, map, take, string_bytes, within_text}
use Rattle.crawl_session.proofs.log.within_text.Given as goal

abbrev pub invariant-loop-suffix : goal.invariant-loop-suffix
invariant-loop-suffix l = string_bytes l.text ≡ within_text (map (λ s. s.now) (take l.suffix-index l.suffixes))
