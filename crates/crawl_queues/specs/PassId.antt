-- What a contract sees of a pass.
use Rattle.crawl_queues.specs.QueueId.{QueueId}
use Rattle.crawl_queues.specs.declared.rule.PassView.{PassView}

-- the subqueue of a pass, and what the pass knows
pub record PassId : Type 0 where
  pub subqueue : QueueId
  pub view : PassView
