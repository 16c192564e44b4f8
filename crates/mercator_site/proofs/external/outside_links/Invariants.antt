use Rattle.mercator_site.proofs.Prelude.{◌≡◌, take, pointed, outside_links}
use Rattle.mercator_site.proofs.external.outside_links.Given as goal

abbrev pub invariant-loop-one : goal.invariant-loop-one
invariant-loop-one l = pointed l.urls.items ≡ outside_links l.root (take l.one-index l.pages)
