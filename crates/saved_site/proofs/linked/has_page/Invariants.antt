use Rattle.saved_site.proofs.Prelude.{◌≡◌, drop, flat_map, is_some, page_with}
use Rattle.saved_site.proofs.linked.has_page.Given as goal

abbrev pub invariant-threads : goal.invariant-threads
invariant-threads l =
    is_some (page_with (flat_map (λ made. made) (drop l.made-index l.threads)) l.url)
    ≡ is_some (page_with (flat_map (λ made. made) l.threads) l.url)
