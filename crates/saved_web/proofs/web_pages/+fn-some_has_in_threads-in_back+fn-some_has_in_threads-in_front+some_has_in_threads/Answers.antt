use Rattle.std.proofs.Common.{◌||◌}
use Rattle.saved_web.proofs.ChunkPages.{none_in_halves}
use Rattle.saved_web.proofs.web_pages.+fn-some_has_in_threads-in_back+fn-some_has_in_threads-in_front+some_has_in_threads.Goals as goal

pub returns-else-first : goal.returns-else-first
returns-else-first g t c = λ none.
    none_in_halves c.args.list.now c.halves.result.0.now c.halves.result.1.now c.args.pages.now c.join-first.result.0 c.join-first.result.1 c.halves.ensures c.join-first.ensures.first c.join-first.ensures.second (λ i. c.if-first.false i || none i)
