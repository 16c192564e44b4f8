use Rattle.session_log.specs.Compaction.{summing}
use Rattle.session_log.proofs.Rebuilds.{is_rebuilt}
use Rattle.session_log.proofs.rebuilding.append_rebuilt.Goals as goal

pub returns : goal.returns
returns g c =
    let written = g.O.Write.contents in
    let bytes = c.as_bytes.ensures.value in
    λ session read.
    is_rebuilt session c.args.new_settings.now c.args.identity.now c.in_ok-text.left_out c.args.inventory.now _ _ (summing c.args.new.now.frame.sum (written c.args.new.now.file)) (summing c.append.new.self.frame.sum (written c.append.new.self.file)) (summing c.append_pieces.new.new.frame.sum (written c.append_pieces.new.new.file))
    read c.in_ok-text.ensures c.in_ok-first.ensures (rw bytes at c.in_ok-append.ensures.gained) (rw bytes at c.in_ok-append.ensures.sum) (rw c.deref.ensures.value at c.in_ok-append_pieces.ensures)
