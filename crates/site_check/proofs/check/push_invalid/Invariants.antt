use Rattle.site_check.proofs.Prelude.{◌≡◌, ◌++◌, map, take, pointed, text_of}
use Rattle.site_check.proofs.check.push_invalid.Given as goal

abbrev pub invariant-loop-one : goal.invariant-loop-one
invariant-loop-one l = pointed l.texts.items ≡ pointed l.initial.texts.items ++ map text_of (take l.one-index l.invalid)
