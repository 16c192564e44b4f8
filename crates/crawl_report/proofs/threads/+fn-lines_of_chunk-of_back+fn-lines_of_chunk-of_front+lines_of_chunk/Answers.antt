use Rattle.crawl_report.proofs.Prelude.{arith, take-append-drop, map-append, flat_map-append}
use Rattle.crawl_report.proofs.threads.+fn-lines_of_chunk-of_back+fn-lines_of_chunk-of_front+lines_of_chunk.Goals as goal

pub returns : goal.returns
returns g t c = grind (arith, take-append-drop, flat_map-append, map-append)
