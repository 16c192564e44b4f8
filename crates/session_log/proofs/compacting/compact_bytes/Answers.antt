use Rattle.session_log.proofs.Logs.{compacted_piece, gained_one}
use Rattle.session_log.proofs.compacting.compact_bytes.Goals as goal

pub returns : goal.returns
returns g c =
    let found = c.in_ok-compact.ensures in
    let kept = c.deref.ensures.value in
    record { compacted = compacted_piece _ _ _ _ _ found.0 _ _ _ _ c.new-kept.ensures.items found.1 found.2 (gained_one _ _ _ (rw kept at c.in_ok-append.ensures.gained) (rw kept at c.in_ok-append.ensures.sum)) }
