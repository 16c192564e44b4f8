use Rattle.site_check.proofs.Prelude.{◌≡◌, ◌++◌, map, take, link_text, link_texts}
use Rattle.site_check.proofs.invalid.push_links.Given as goal

abbrev pub invariant-loop-link : goal.invariant-loop-link
invariant-loop-link l = map link_text l.links.items ≡ map link_text l.initial.links.items ++ link_texts (take l.link-index l.own)
