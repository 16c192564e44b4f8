use Rattle.link_fixes.proofs.Prelude.{◌≡◌, true, take, list_all, is_plain}
use Rattle.link_fixes.proofs.new_link.are_plain.Given as goal

abbrev pub invariant-loop-byte : goal.invariant-loop-byte
invariant-loop-byte l = list_all is_plain (take l.byte-index l.text) ≡ true
