use Rattle.std.proofs.Common.{◌≡◌, arith, rules}
use Rattle.crawl_keys.proofs.DotLinks.{ahead_then, within_from}
use Rattle.crawl_keys.proofs.dots.dots_within.Goals as goal

pub loop-more-preserved : goal.loop-more-preserved
loop-more-preserved c = (search rules, ahead_then c.args.text.now c.loop-more.rest.now c.in-Some.more.now c.loop-more.invariant.1 c.in-Some.ensures.ahead)

pub returns-then-following-rest : goal.returns-then-following-rest
returns-then-following-rest c =
    let text = c.args.text.now in
    let ahead = ahead_then text c.loop-more.rest.now c.in-Some.more.now c.loop-more.invariant.1 c.in-Some.ensures.ahead in
    let none : c.after_dots-ups.result.0 ≡ 0 = omega arith in
    within_from text c.in-Some.more.now c.after_dots-ups.result.1.now c.after_dots-ups.result.0 ahead c.after_dots-ups.ensures none
