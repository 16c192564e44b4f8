use Rattle.site_check.proofs.Prelude.{◌≤◌, ◌∙◌, arith, indices_at, length, sym}
use Rattle.std.proofs.Common.{true≢false}
use Rattle.site_check.proofs.PageIndices.{indexed_all, indexed_more}
use Rattle.site_check.specs.Complete.{IsIndexed}
use Rattle.site_check.proofs.indexed.has_indices.Goals as goal

pub loop-one-preserved : goal.loop-one-preserved
loop-one-preserved c =
    indexed_more (IsIndexed (indices_at c.args.indices.now) c.args.aliases.now) c.args.results.now c.loop-one.one-index c.one-item.result c.loop-one-test.true c.one-item.is c.loop-one.invariant (c.is_indexed.ensures c.if-not-is_indexed.false)

pub returns-then-not-positions : goal.returns-then-not-positions
returns-then-not-positions c = λ is asked. absurd (true≢false (sym asked ∙ c.if-not-positions.true))

pub returns : goal.returns
returns c = λ is asked.
    let whole : length c.args.results.now ≤ c.loop-one.one-index = omega arith in
    indexed_all (IsIndexed (indices_at c.args.indices.now) c.args.aliases.now) c.args.results.now c.loop-one.one-index whole c.loop-one.invariant
