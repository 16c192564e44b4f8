use Rattle.std.proofs.Common.{length, map}
use denote.Shadow.{shadow}
use denote.Text.{Utf8}
use Rattle.crawl_session.proofs.Logs.{Reads}
use Rattle.crawl_session.proofs.log.read_settings.Given as goal

abbrev pub invariant-loop-suffix : goal.invariant-loop-suffix
invariant-loop-suffix l = shadow (Utf8 l.rest) × Reads l.line (map (λ s. s.now) l.suffixes.items) l.rest

abbrev pub decreases-loop-suffix : goal.decreases-loop-suffix
decreases-loop-suffix l = length l.rest
