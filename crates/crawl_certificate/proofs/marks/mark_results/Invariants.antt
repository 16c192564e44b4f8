use Rattle.crawl_certificate.proofs.Prelude.{◌≡◌, ◌&&◌, map, take, None, allows, has_result, is_linked, is_lost, is_a_link, is_a_stray, is_twice, IsLeast, url_of}
use Rattle.crawl_certificate.proofs.marks.mark_results.Given as goal

abbrev pub invariant-loop-one : goal.invariant-loop-one
invariant-loop-one l = record {
  fetched : l.fetched ≡ map (λ e. has_result (take l.one-index l.results) e.url) l.accepted;
  linked : l.linked ≡ map (is_linked l.accepted (take l.one-index l.results)) l.accepted;
  missing : IsLeast (λ url. is_a_link (take l.one-index l.results) url && is_lost (allows l.filter) l.accepted url) (url_of l.least.missing);
  stray : IsLeast (is_a_stray l.accepted (take l.one-index l.results)) (url_of l.least.stray);
  twice : url_of l.least.stray ≡ None → IsLeast (is_twice (take l.one-index l.results)) (url_of l.least.twice);
}
