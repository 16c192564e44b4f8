use Rattle.std.proofs.Common.{rules, arith}
use Rattle.crawl_workers.proofs.Turning.{ends_none, ended_front, ended_last, not_ended, ends_push}
use Rattle.crawl_workers.proofs.turns.+ends_of.Goals as goal

pub returns-in_default-clause-ran : goal.returns-in_default-clause-ran
returns-in_default-clause-ran g t c = grind (arith, ends_none)

pub ends_of-ends-requires : goal.ends_of-ends-requires
ends_of-ends-requires g t c κs within =
    (search rules, (search rules, (search rules, (c.requires.none, ended_front c.pop.new.self.items c.in-Some.runner c.args.runners.items c.in-Some.ensures.items c.requires.ended))))

pub unreachable-requires : goal.unreachable-requires
unreachable-requires g t c =
    not_ended c.in-Some.runner c.in_default-runner.not-Ended (ended_last c.pop.new.self.items c.in-Some.runner c.args.runners.items c.in-Some.ensures.items c.requires.ended)

pub returns-clause-ran : goal.returns-clause-ran
returns-clause-ran g t c = grind (arith, ends_push)
