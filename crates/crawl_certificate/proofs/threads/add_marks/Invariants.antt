use Rattle.crawl_certificate.proofs.Prelude.{◌≡◌, Bool, ◌&&◌, map, take, list_any, bytes_eq, Entry, IsLeast, url_of, in_one, pointed}
use Rattle.crawl_certificate.proofs.threads.add_marks.Given as goal

abbrev pub invariant-loop-index : goal.invariant-loop-index
invariant-loop-index l = record {
  marks : l.marks ≡ in_one l.fn.marks (take l.index l.more);
  both : (own its : Entry → Bool) → l.fn.marks ≡ map own (pointed l.entries) → l.more ≡ map its (pointed l.entries) → IsLeast (λ url. list_any (λ e. bytes_eq e.url url && (own e && its e)) (pointed (take l.index l.entries))) (url_of l.both);
}
