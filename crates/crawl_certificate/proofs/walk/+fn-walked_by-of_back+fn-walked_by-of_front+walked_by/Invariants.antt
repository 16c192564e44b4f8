use Rattle.std.proofs.Common.{◌+◌, ◌*◌}
use Rattle.crawl_certificate.proofs.walk.+fn-walked_by-of_back+fn-walked_by-of_front+walked_by.Given as goal

abbrev pub decreases-of_back : goal.decreases-of_back
decreases-of_back g l = 2 * l.half + 1

abbrev pub decreases-of_front : goal.decreases-of_front
decreases-of_front g l = 2 * l.half + 1

abbrev pub decreases-walked_by : goal.decreases-walked_by
decreases-walked_by g l = 2 * l.threads
