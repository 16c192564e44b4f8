use Rattle.page_anchors.proofs.Prelude.{◌≡◌, false, take, list_any, is_odd}
use Rattle.page_anchors.proofs.indicated.is_plain.Given as goal

abbrev pub invariant-loop-byte : goal.invariant-loop-byte
invariant-loop-byte l = list_any is_odd (take l.byte-index l.text) ≡ false
