use Rattle.std.proofs.lemmas.Result.{IfOk-weaker}
use Rattle.session_log.proofs.rebuilding.rebuild_to.Goals as goal

pub returns : goal.returns
returns g c =
    rw c.as_str.ensures.value at (IfOk-weaker c.append_rebuilt.result _ _ (λ left_out is. is c.args.session.now c.in_ok-inventory.ensures) c.append_rebuilt.ensures)
