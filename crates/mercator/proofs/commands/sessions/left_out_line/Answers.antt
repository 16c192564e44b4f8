use Rattle.std.proofs.Common.{refl}
use Rattle.mercator.proofs.commands.sessions.left_out_line.Goals as goal

pub returns : goal.returns
returns c = rw (c.in_ok-writeln.ensures.bytes, c.new-line.ensures.bytes, c.in_ok-file.ensures) refl
