use Rattle.site_check.proofs.Prelude.{◌≡◌, steps_up, string_bytes, take}
use Rattle.site_check.proofs.leaving.steps_up.Given as goal

abbrev pub invariant-loop-byte : goal.invariant-loop-byte
invariant-loop-byte l = string_bytes l.text ≡ steps_up (take l.byte-index l.folders)
