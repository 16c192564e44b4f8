use Rattle.document_links.proofs.Prelude.{◌≡◌, count_by, take, is_lf}
use Rattle.document_links.proofs.points.feeds_in_run.Given as goal

abbrev pub invariant-loop-byte : goal.invariant-loop-byte
invariant-loop-byte l = l.count ≡ count_by is_lf (take l.byte-index l.run)
