use Rattle.site_check.proofs.Prelude.{◌≡◌, false, take, string_bytes, list_any}
use Rattle.site_check.specs.Broken.{matches_target}
use Rattle.site_check.proofs.unlisted.is_used_for.Given as goal

abbrev pub invariant-loop-document : goal.invariant-loop-document
invariant-loop-document l = list_any (λ document. matches_target l.entry (string_bytes document)) (take l.document-index l.documents) ≡ false
