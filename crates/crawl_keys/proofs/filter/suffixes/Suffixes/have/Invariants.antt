use Rattle.crawl_keys.proofs.Prelude.{◌≡◌, length, Utf8, shadow, list_any, is_within}
use Rattle.crawl_keys.proofs.FilterLemmas.{is_after_dot}
use Rattle.crawl_keys.proofs.filter.suffixes.Suffixes.have.Given as goal

-- the host is within a suffix exactly if one is after a dot of the rest
abbrev pub invariant-loop-following : goal.invariant-loop-following
invariant-loop-following l =
    shadow (Utf8 l.rest) × (list_any (is_within l.host) l.self ≡ list_any (is_after_dot l.rest) l.self)

abbrev pub decreases-loop-following : goal.decreases-loop-following
decreases-loop-following l = length l.rest
