use Rattle.site_check.proofs.Prelude.{◌≡◌, map, take, pointed, anchor_text}
use Rattle.site_check.proofs.check.anchor_texts.Given as goal

abbrev pub invariant-loop-anchor : goal.invariant-loop-anchor
invariant-loop-anchor l = pointed l.texts.items ≡ map anchor_text (take l.anchor-index l.anchors)
