use Rattle.crawl_keys.proofs.Prelude.{refl, arith, CLASS, is_host_byte}
use Rattle.crawl_keys.proofs.PlainLemmas.{from_table}
use Rattle.crawl_keys.proofs.plain.is_host_byte.Goals as goal

pub returns : goal.returns
returns c = from_table CLASS 4 is_host_byte c.args.byte (omega arith) refl
