use Rattle.crawl_certificate.proofs.Prelude.{◌≡◌, ◌+◌, Bool, true, length, Entry, contains_url, MarksOnly}
use Rattle.crawl_certificate.proofs.walk.walk_page.Given as goal

abbrev pub invariant-loop-link : goal.invariant-loop-link
invariant-loop-link l = record {
  long : length l.linked ≡ length l.fn.linked;
  marks : (holds : Entry → Bool) → ((e : Entry) → contains_url l.links e.url ≡ true → e.hops ≡ l.hops + 1 → holds e ≡ true) → MarksOnly holds l.accepted l.fn.linked → MarksOnly holds l.accepted l.linked;
}
