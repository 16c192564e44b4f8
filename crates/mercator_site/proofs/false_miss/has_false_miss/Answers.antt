use Rattle.mercator_site.proofs.Prelude.{arith, subst, sym, All-nil}
use Rattle.std.specs.Prelude.{All}
use Rattle.std.proofs.Common.{take_all}
use Rattle.std.proofs.lemmas.List.Elements.{All-more}
use Rattle.mercator_site.specs.Misses.{IsRightlyMissed}
use Rattle.mercator_site.proofs.false_miss.has_false_miss.Goals as goal

pub loop-one-init : goal.loop-one-init
loop-one-init c = All-nil (IsRightlyMissed c.args.files.now)

pub loop-one-preserved : goal.loop-one-preserved
loop-one-preserved c =
    let IsRight = IsRightlyMissed c.args.files.now in
    let one = c.one-item.result in
    All-more IsRight c.args.results.now c.loop-one.one-index one c.loop-one-test.true c.loop-one.invariant
    (subst IsRight c.one-item.is (c.in_ok-is_wrong.ensures.none c.if-is_wrong.false))

pub returns-then-is_wrong-clause-some : goal.returns-then-is_wrong-clause-some
returns-then-is_wrong-clause-some c = λ _. (c.loop-one.one-index, c.one-item.result, c.loop-one-test.true, sym c.one-item.is, c.in_ok-is_wrong.ensures.some c.if-is_wrong.true)

pub returns-clause-none : goal.returns-clause-none
returns-clause-none c = λ _.
    let all = c.args.results.now in
    subst (All (IsRightlyMissed c.args.files.now)) (take_all c.loop-one.one-index all (omega arith)) c.loop-one.invariant
