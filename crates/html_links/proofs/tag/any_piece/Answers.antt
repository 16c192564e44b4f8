use Rattle.std.proofs.Common.{arith}
use Rattle.html_links.proofs.Jumps.{skip_before_name, read_self_closing, read_only_slash, shorter, leaves_less}
use Rattle.html_links.proofs.tag.any_piece.Goals as goal

pub returns-in_default-clause-reads : goal.returns-in_default-clause-reads
returns-in_default-clause-reads c = grind (arith, skip_before_name)

pub returns-in-Greater-clause-reads : goal.returns-in-Greater-clause-reads
returns-in-Greater-clause-reads c = grind (arith, skip_before_name)

pub returns-in-Greater-clause-leaves : goal.returns-in-Greater-clause-leaves
returns-in-Greater-clause-leaves c = grind (arith, shorter)

pub returns-in-Some-after_byte-clause-reads : goal.returns-in-Some-after_byte-clause-reads
returns-in-Some-after_byte-clause-reads c =
    read_self_closing c.args.bytes.now c.skip_space-rest.result.now c.in-Some.first c.in-Some.more.now c.in-Some-after_byte.last.now c.skip_space-rest.ensures.skipped c.in-Some.ensures c.in-Slash.ensures c.in-Some-after_byte.ensures

pub returns-in-None-clause-reads : goal.returns-in-None-clause-reads
returns-in-None-clause-reads c = grind (arith, read_only_slash)

pub returns-in-None-clause-leaves : goal.returns-in-None-clause-leaves
returns-in-None-clause-leaves c = grind (arith, shorter)

pub returns-in-Some-after_byte-clause-leaves : goal.returns-in-Some-after_byte-clause-leaves
returns-in-Some-after_byte-clause-leaves c = grind (arith, shorter)

pub returns-in_default-class_of : goal.returns-in_default-class_of
returns-in_default-class_of c = grind (arith, shorter, leaves_less, skip_before_name)
