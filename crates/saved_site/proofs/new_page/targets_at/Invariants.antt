use Rattle.saved_site.specs.SiteAnchors.{HaveUrls}
use Rattle.saved_site.proofs.new_page.targets_at.Given as goal

abbrev pub invariant-links : goal.invariant-links
invariant-links l = HaveUrls l.files l.yielded l.targets.items
