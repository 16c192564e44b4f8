use Rattle.site_check.proofs.Prelude.{◌≡◌, map, take, invalid_at, link_text, texts_in}
use Rattle.site_check.proofs.invalid.found_links.Given as goal

abbrev pub invariant-loop-source : goal.invariant-loop-source
invariant-loop-source l = map link_text l.links.items ≡ texts_in (invalid_at l.documents) (take l.source l.results)
