use Rattle.crawl_keys.proofs.Prelude.{refl, arith, CLASS, is_kept}
use Rattle.crawl_keys.proofs.PlainLemmas.{from_table}
use Rattle.crawl_keys.proofs.plain.is_kept.Goals as goal

pub returns : goal.returns
returns c = from_table CLASS 1 is_kept c.args.byte (omega arith) refl
