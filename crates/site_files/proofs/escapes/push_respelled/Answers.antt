use Rattle.std.proofs.Common.{append_assoc, arith}
use Rattle.site_files.proofs.Ways.{respelled_cut}
use Rattle.site_files.proofs.escapes.push_respelled.Goals as goal

pub names-preserved : goal.names-preserved
names-preserved c =
    let whole = respelled_cut c.names.rest.now c.in-Some.name.now c.in-Some.more.now c.in-Some.ensures in
    grind (arith, append_assoc, whole, c.in_ok-push.ensures.bytes, c.in_ok-push.ensures.ascii, c.in_ok-push_again.ensures, c.names.invariant)
