use Rattle.crawl_keys.proofs.Prelude.{◌-◌, ◌≤◌, length, Follow}
use Rattle.crawl_keys.proofs.plain.follow_run.Given as goal

-- so far each byte may follow the one before it
abbrev pub invariant-loop-at : goal.invariant-loop-at
invariant-loop-at l = (l.at ≤ length l.text) × Follow l.text 0 l.at

abbrev pub decreases-loop-at : goal.decreases-loop-at
decreases-loop-at l = length l.text - l.at
