use Rattle.session_log.proofs.Logs.{compacted_more, compacted_whole}
use Rattle.session_log.proofs.compacting.compact_lines.Goals as goal

pub loop-compactor-preserved : goal.loop-compactor-preserved
loop-compactor-preserved g c =
    compacted_more _ _ _ _ _ _ _ _ _ c.loop-compactor.invariant c.in_ok-compact_bytes.ensures.compacted

pub returns : goal.returns
returns g c = record { compacted = compacted_whole _ _ _ _ _ _ _ c.new-compactor.ensures c.loop-compactor.invariant c.in_ok-append_seen.ensures.gained }
