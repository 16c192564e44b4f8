use Rattle.document_links.proofs.Prelude.{◌≡◌, ◌+◌, length, count_by, is_lf}
use Rattle.document_links.proofs.points.line_feeds.Given as goal

abbrev pub decreases-runs : goal.decreases-runs
decreases-runs l = length l.rest

abbrev pub invariant-runs : goal.invariant-runs
invariant-runs l = l.count + count_by is_lf l.rest ≡ count_by is_lf l.bytes
