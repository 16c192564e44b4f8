use Rattle.link_fixes.proofs.Prelude.{◌≡◌, drop, all_lead_on}
use Rattle.link_fixes.proofs.links.all_lead_on.Given as goal

abbrev pub invariant-loop-index : goal.invariant-loop-index
invariant-loop-index l = all_lead_on l.page l.moves (drop l.index l.old) (drop l.index l.new) ≡ all_lead_on l.page l.moves l.old l.new
