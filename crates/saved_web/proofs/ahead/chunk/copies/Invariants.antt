use Rattle.saved_web.proofs.Prelude.{take, LeadTo}
use Rattle.saved_web.proofs.ahead.chunk.copies.Given as goal

abbrev pub invariant-loop-index : goal.invariant-loop-index
invariant-loop-index l = LeadTo l.urls (take l.index-index l.indices) l.links.items
