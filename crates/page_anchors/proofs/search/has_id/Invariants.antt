use Rattle.std.proofs.Common.{◌-◌}
use Rattle.page_anchors.proofs.Searched.{IsBetween}
use Rattle.page_anchors.proofs.search.has_id.Given as goal

abbrev pub decreases-halves : goal.decreases-halves
decreases-halves l = l.high - l.low

abbrev pub invariant-halves : goal.invariant-halves
invariant-halves l = IsBetween l.ids l.text l.low l.high
