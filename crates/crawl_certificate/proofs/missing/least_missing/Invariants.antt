use Rattle.crawl_certificate.proofs.Prelude.{◌&&◌, take, allows, contains_url, is_lost, IsLeast, url_of}
use Rattle.crawl_certificate.proofs.missing.least_missing.Given as goal

abbrev pub invariant-loop-url : goal.invariant-loop-url
invariant-loop-url l = IsLeast (λ url. contains_url (take l.url-index l.urls) url && is_lost (allows l.filter) l.accepted url) (url_of l.least)
