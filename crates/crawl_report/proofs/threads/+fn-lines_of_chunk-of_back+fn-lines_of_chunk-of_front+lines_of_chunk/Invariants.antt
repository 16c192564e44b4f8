use Rattle.std.proofs.Common.{◌+◌, ◌*◌}
use Rattle.crawl_report.proofs.threads.+fn-lines_of_chunk-of_back+fn-lines_of_chunk-of_front+lines_of_chunk.Given as goal

abbrev pub decreases-of_back : goal.decreases-of_back
decreases-of_back g l = 2 * l.fewer + 1

abbrev pub decreases-of_front : goal.decreases-of_front
decreases-of_front g l = 2 * l.fewer + 1

abbrev pub decreases-lines_of_chunk : goal.decreases-lines_of_chunk
decreases-lines_of_chunk g l = 2 * l.halvings
