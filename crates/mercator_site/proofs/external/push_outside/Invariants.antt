use Rattle.mercator_site.proofs.Prelude.{◌≡◌, ◌++◌, take, pointed, outside}
use Rattle.mercator_site.proofs.external.push_outside.Given as goal

abbrev pub invariant-loop-link : goal.invariant-loop-link
invariant-loop-link l = pointed l.urls.items ≡ pointed l.fn.urls.items ++ outside l.root (take l.link-index l.links)
