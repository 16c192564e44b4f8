use Rattle.crawl_keys.proofs.Prelude.{common_steps, ◌≡◌, ℕ, List, length, true, arith, is_plain}
use Rattle.crawl_keys.proofs.PlainLemmas.{plain_from}
use Rattle.crawl_keys.proofs.plain.plain_run.Goals as goal

plain_none : (last : ℕ) (text : List ℕ) → 0 ≡ length text → is_plain last text ≡ true
plain_none last text none = grind (arith, common_steps)

pub returns-else-is_plain_short-clause-value : goal.returns-else-is_plain_short-clause-value
returns-else-is_plain_short-clause-value c none = plain_none c.args.last c.args.text.now none

pub returns-then-may_follow-clause-value : goal.returns-then-may_follow-clause-value
returns-then-may_follow-clause-value c all = grind (arith, plain_from)
