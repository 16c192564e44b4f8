use Rattle.site_check.proofs.link_base.+rest_after.Given as goal

abbrev pub decreases-rest_after : goal.decreases-rest_after
decreases-rest_after l = l.slashes
