use Rattle.crawl_certificate.proofs.Prelude.{◌≡◌, ◌==◌, Bool, not, ◌&&◌, map, take, if◌then◌else◌, list_any, bytes_eq, Entry, allows, IsLeast, url_of, pointed, is_in}
use Rattle.crawl_certificate.proofs.founded.least_unfounded.Given as goal

abbrev pub invariant-loop-index : goal.invariant-loop-index
invariant-loop-index l =
    (linked : Entry → Bool) → l.marks ≡ map linked (pointed l.entries) → IsLeast (λ url. list_any (λ e. bytes_eq e.url url && not (allows l.filter e.url && (if e.hops == 0 then is_in l.seeds e.url else linked e))) (pointed (take l.index l.entries))) (url_of l.least)
