use Rattle.std.proofs.Common.{arith, rules}
use Rattle.crawl_keys.proofs.DotLinks.{after_then}
use Rattle.crawl_keys.proofs.dots.after_dots.Goals as goal

pub loop-up-preserved : goal.loop-up-preserved
loop-up-preserved c = (
  search rules,
  after_then c.args.text.now c.loop-up.rest.now c.in-Some.more.now c.loop-up.ups c.in-Some.up c.loop-up.invariant.1 c.in-Some.ensures.following,
  omega (arith, c.in-Some.ensures.shorter, c.loop-up.invariant.2),
)
