use Rattle.crawl_keys.proofs.Prelude.{refl, arith, CLASS, may_begin}
use Rattle.crawl_keys.proofs.PlainLemmas.{from_table}
use Rattle.crawl_keys.proofs.plain.may_begin.Goals as goal

pub returns : goal.returns
returns c = from_table CLASS 2 may_begin c.args.byte (omega arith) refl
