use Rattle.crawl_report.proofs.Prelude.{◌≡◌, ◌+◌, take}
use Rattle.std.specs.List.{count_by}
use Rattle.crawl_pages.specs.Pages.{is_found, is_missing, is_moved}
use Rattle.crawl_report.proofs.printing.total_of.Given as goal

abbrev pub invariant-loop-one : goal.invariant-loop-one
invariant-loop-one l = record {
  found : l.found ≡ count_by (λ r. is_found r.page) (take l.one-index l.pages);
  missing : l.missing ≡ count_by (λ r. is_missing r.page) (take l.one-index l.pages);
  moved : l.moved ≡ count_by (λ r. is_moved r.page) (take l.one-index l.pages);
  all : l.found + l.missing + l.moved ≡ l.one-index;
}
