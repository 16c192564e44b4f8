use Rattle.std.proofs.Common.{◌+◌, ◌*◌}
use Rattle.site_check.proofs.linked.+fn-linked_in-of_back+fn-linked_in-of_front+linked_in.Given as goal

abbrev pub decreases-of_back : goal.decreases-of_back
decreases-of_back g l = 2 * l.fewer + 1

abbrev pub decreases-of_front : goal.decreases-of_front
decreases-of_front g l = 2 * l.fewer + 1

abbrev pub decreases-linked_in : goal.decreases-linked_in
decreases-linked_in g l = 2 * l.halvings
