use Rattle.std.proofs.Common.{◌+◌, ◌*◌}
use Rattle.saved_web.proofs.web_pages.+fn-some_has_in_threads-in_back+fn-some_has_in_threads-in_front+some_has_in_threads.Given as goal

abbrev pub decreases-in_back : goal.decreases-in_back
decreases-in_back g l = 2 * l.fewer + 1

abbrev pub decreases-in_front : goal.decreases-in_front
decreases-in_front g l = 2 * l.fewer + 1

abbrev pub decreases-some_has_in_threads : goal.decreases-some_has_in_threads
decreases-some_has_in_threads g l = 2 * l.halvings
