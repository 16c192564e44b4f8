use Rattle.session_log.specs.Compaction.{summing}
use Rattle.session_log.proofs.Logs.{compacted_first, gained_one}
use Rattle.session_log.proofs.compacting.compact_to.Goals as goal

pub returns : goal.returns
returns g c =
    let written = g.O.Write.contents in
    let bytes = c.as_bytes.ensures.value in
    let old = summing c.args.new.now.frame.sum (written c.args.new.now.file) in
    let mid = summing c.append.new.self.frame.sum (written c.append.new.self.file) in
    let new = summing c.compact_lines.new.new.frame.sum (written c.compact_lines.new.new.file) in
    record { compacted = compacted_first c.args.session.now _ old mid new (gained_one _ old mid (rw bytes at c.in_ok-append.ensures.gained) (rw bytes at c.in_ok-append.ensures.sum)) c.in_ok-compact_lines.ensures.compacted }
