use Rattle.session_log.proofs.Prelude.{ℕ, arith, length-take, length-drop}
use Rattle.session_log.proofs.Logs.{consumed}
use Rattle.session_log.proofs.window.Window.consume.Goals as goal

pub returns : goal.returns
returns c =
    let w = c.args.self.now in
    consumed w.bytes.items w.from w.to c.args.count (omega (arith, length-take {A = ℕ}, length-drop {A = ℕ}))
