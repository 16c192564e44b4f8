use Rattle.std.proofs.Common.{◌≡◌, length}
use Rattle.html_links.specs.declared.script.State.TheVariants.{Text}
use Rattle.html_links.specs.Script.{run}
use Rattle.html_links.proofs.script.after_script.Given as goal

-- the script ends where the rest of it ends
abbrev pub invariant-steps : goal.invariant-steps
invariant-steps l = run l.state l.rest ≡ run Text l.fn.bytes

abbrev pub decreases-steps : goal.decreases-steps
decreases-steps l = length l.rest
