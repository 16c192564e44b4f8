use Rattle.site_check.proofs.Prelude.{◌≡◌, false, take, matches, list_any}
use Rattle.site_check.proofs.ignored.is_used_by.Given as goal

abbrev pub invariant-loop-text : goal.invariant-loop-text
invariant-loop-text l = list_any (λ text. matches l.entry text.now) (take l.text-index l.texts) ≡ false
