use Rattle.crawl_report.proofs.Prelude.{◌≡◌, take, allows, pointed, unseen_of}
use Rattle.crawl_report.proofs.unseen.not_seen.Given as goal

abbrev pub invariant-loop-url : goal.invariant-loop-url
invariant-loop-url l = pointed l.found.items ≡ unseen_of (allows l.filter) l.seen (take l.url-index l.urls)
