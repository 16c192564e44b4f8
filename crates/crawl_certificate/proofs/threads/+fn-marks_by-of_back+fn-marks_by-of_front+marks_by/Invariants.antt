use Rattle.std.proofs.Common.{◌+◌, ◌*◌}
use Rattle.crawl_certificate.proofs.threads.+fn-marks_by-of_back+fn-marks_by-of_front+marks_by.Given as goal

abbrev pub decreases-of_back : goal.decreases-of_back
decreases-of_back g l = 2 * l.half + 1

abbrev pub decreases-of_front : goal.decreases-of_front
decreases-of_front g l = 2 * l.half + 1

abbrev pub decreases-marks_by : goal.decreases-marks_by
decreases-marks_by g l = 2 * l.threads
