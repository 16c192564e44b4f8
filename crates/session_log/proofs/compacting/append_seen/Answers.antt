use Rattle.session_log.proofs.Logs.{gained_one, gained_text}
use Rattle.session_log.proofs.compacting.append_seen.Goals as goal

pub returns : goal.returns
returns g c =
    let kept = c.deref.ensures.value in
    record { gained = gained_text _ _ _ _ _ c.new-text.ensures.items c.in_ok-write_seen.ensures (gained_one _ _ _ (rw kept at c.in_ok-append.ensures.gained) (rw kept at c.in_ok-append.ensures.sum)) }
