use Rattle.crawl_certificate.proofs.Prelude.{◌≡◌, ℕ, ◌+◌, ◌<◌, ◌^◌, true, length, slice_get, Some, PageResult, is_linked, has_url_at, MarksOnly}
use Rattle.crawl_certificate.proofs.walk.walk.Given as goal

abbrev pub invariant-loop-index : goal.invariant-loop-index
invariant-loop-index l = record {
  long : length l.linked ≡ length l.fn.linked;
  own : l.chunk.first + length l.chunk.results.now < 2 ^ 64 → (k : ℕ) (r : PageResult) → k < l.index → slice_get l.chunk.results.now k ≡ Some r → has_url_at l.chunk.accepted.now (l.chunk.first + k) r.url ≡ true;
  marks : MarksOnly (is_linked l.chunk.accepted.now l.chunk.results.now) l.chunk.accepted.now l.fn.linked → MarksOnly (is_linked l.chunk.accepted.now l.chunk.results.now) l.chunk.accepted.now l.linked;
}
