use Rattle.saved_site.proofs.Prelude.{◌≡◌, drop, flat_map, page_with}
use Rattle.saved_site.proofs.linked.first_page.Given as goal

abbrev pub invariant-threads : goal.invariant-threads
invariant-threads l =
    page_with (flat_map (λ made. made) (drop l.made-index l.threads)) l.url ≡ page_with (flat_map (λ made. made) l.threads) l.url
