use Rattle.mercator.proofs.commands.writing.push_losses.Goals as goal

pub returns : goal.returns
returns c = rw (← c.from.ensures, ← c.from-2.ensures) c.in_ok-writeln.ensures.bytes
