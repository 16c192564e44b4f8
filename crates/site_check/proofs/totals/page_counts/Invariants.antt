use Rattle.site_check.proofs.Prelude.{◌≡◌, ◌≤◌, count_by, sum_by, take, capped, is_alias_page, is_document_page, is_file_page, is_in, own_links}
use Rattle.site_check.proofs.totals.page_counts.Given as goal

abbrev pub invariant-loop-one : goal.invariant-loop-one
invariant-loop-one l = record {
  documents : l.documents ≡ count_by (is_document_page (is_in l.others) (is_in l.texts)) (take l.one-index l.results);
  documents_fit : l.documents ≤ l.one-index;
  files : l.files ≡ count_by (is_file_page (is_in l.others) (is_in l.texts)) (take l.one-index l.results);
  files_fit : l.files ≤ l.one-index;
  aliases : l.aliases ≡ count_by (is_alias_page (is_in l.others)) (take l.one-index l.results);
  aliases_fit : l.aliases ≤ l.one-index;
  links : l.links ≡ capped (sum_by (own_links (is_in l.others)) (take l.one-index l.results));
}
