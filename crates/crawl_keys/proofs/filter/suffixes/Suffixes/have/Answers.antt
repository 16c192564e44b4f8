use Rattle.std.proofs.Common.{sym, ◌∙◌, arith}
use Rattle.crawl_keys.proofs.FilterLemmas.{list_any-within, following-first, following-none}
use Rattle.crawl_keys.proofs.filter.suffixes.Suffixes.have.Goals as goal

pub returns-then-contains : goal.returns-then-contains
returns-then-contains c = grind (arith, list_any-within)

pub loop-following-init : goal.loop-following-init
loop-following-init c = grind (arith, list_any-within)

pub returns-then-contains-2 : goal.returns-then-contains-2
returns-then-contains-2 c = grind (arith, following-first)

pub loop-following-preserved : goal.loop-following-preserved
loop-following-preserved c = grind (arith, following-first)

pub returns : goal.returns
returns c = sym (c.loop-following.invariant.1 ∙ following-none c.loop-following.rest.now c.args.self.now c.in_default.ensures)
