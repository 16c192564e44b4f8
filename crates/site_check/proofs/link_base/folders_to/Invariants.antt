use Rattle.site_check.proofs.Prelude.{◌≡◌, pointed, take}
use Rattle.site_check.specs.LinkBase.{folders_to}
use Rattle.site_check.proofs.link_base.folders_to.Given as goal

abbrev pub invariant-loop-url : goal.invariant-loop-url
invariant-loop-url l = pointed l.folders.items ≡ folders_to l.slashes (pointed (take l.url-index l.urls))
