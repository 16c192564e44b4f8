use Rattle.site_check.proofs.Prelude.{◌≡◌, ◌++◌, map, take, pointed, shown_at}
use Rattle.site_check.proofs.check.push_urls.Given as goal

abbrev pub invariant-loop-one : goal.invariant-loop-one
invariant-loop-one l = pointed l.texts.items ≡ pointed l.initial.texts.items ++ map shown_at (take l.one-index l.outside)
