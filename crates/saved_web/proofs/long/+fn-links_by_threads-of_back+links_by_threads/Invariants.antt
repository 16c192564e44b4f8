use Rattle.std.proofs.Common.{◌+◌, ◌*◌}
use Rattle.saved_web.proofs.long.+fn-links_by_threads-of_back+links_by_threads.Given as goal

abbrev pub decreases-of_back : goal.decreases-of_back
decreases-of_back g l = 2 * l.fewer + 1

abbrev pub decreases-links_by_threads : goal.decreases-links_by_threads
decreases-links_by_threads g l = 2 * l.threads
