use Rattle.std.proofs.Common.{◌+◌}
use Rattle.crawl_session.proofs.SumLines.{lines_len-last, lines_len-none, unfinished_from}
use Rattle.crawl_session.proofs.log.whole_len.Goals as goal

pub returns-in-Some-clause-value : goal.returns-in-Some-clause-value
returns-in-Some-clause-value c = let found = c.in-Some.ensures in lines_len-last c.args.bytes.now c.in-Some.index found.0.high found.1 found.0.after

pub returns-in-Some-clause-rest : goal.returns-in-Some-clause-rest
returns-in-Some-clause-rest c = unfinished_from c.args.bytes.now (c.in-Some.index + 1) c.in-Some.ensures.0.after

pub returns-in-None-clause-value : goal.returns-in-None-clause-value
returns-in-None-clause-value c = lines_len-none c.args.bytes.now c.in-None.ensures

pub returns-in-None-clause-rest : goal.returns-in-None-clause-rest
returns-in-None-clause-rest c = unfinished_from c.args.bytes.now 0 c.in-None.ensures
