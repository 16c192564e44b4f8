use Rattle.crawl_certificate.proofs.Prelude.{◌≡◌, ℕ, List, take, contains_url, is_in}
use Rattle.crawl_certificate.proofs.lookups.url_set.Given as goal

abbrev pub invariant-loop-url : goal.invariant-loop-url
invariant-loop-url l = (url : List ℕ) → is_in l.set url ≡ contains_url (take l.url-index l.urls) url
