use Rattle.crawl_certificate.proofs.Prelude.{◌≡◌, ◌+◌, ◌==◌, Bool, ◌||◌, ◌&&◌, map, take, Entry, allows, contains_url, is_lost, IsLeast, url_of}
use Rattle.crawl_certificate.proofs.marks.mark_links.Given as goal

abbrev pub invariant-loop-link : goal.invariant-loop-link
invariant-loop-link l = record {
  linked : (known : Entry → Bool) → l.fn.linked ≡ map known l.accepted → l.linked ≡ map (λ e. known e || (contains_url (take l.link-index l.links) e.url && e.hops == l.hops + 1)) l.accepted;
  missing : IsLeast (λ url. contains_url (take l.link-index l.links) url && is_lost (allows l.filter) l.accepted url) (url_of l.missing);
}
