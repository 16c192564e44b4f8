use Rattle.site_check.proofs.Prelude.{◌≡◌, ℕ, List, take, is_document, is_in}
use Rattle.site_check.proofs.url_sets.document_urls.Given as goal

abbrev pub invariant-loop-own : goal.invariant-loop-own
invariant-loop-own l = (url : List ℕ) → is_in l.set url ≡ is_document (take l.own-index l.documents) url
