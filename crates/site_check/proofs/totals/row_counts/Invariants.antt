use Rattle.site_check.proofs.Prelude.{◌≡◌, ◌≤◌, count_by, sum_by, take, capped, is_invalid, is_leaving, is_missing, is_page, is_anchor, links_if, places_if}
use Rattle.site_check.proofs.totals.row_counts.Given as goal

abbrev pub invariant-loop-one : goal.invariant-loop-one
invariant-loop-one l = record {
  broken_links : l.broken_links ≡ capped (sum_by (places_if is_missing) (take l.one-index l.broken));
  urls : l.urls ≡ count_by (λ b. is_page b.kind) (take l.one-index l.broken);
  urls_fit : l.urls ≤ l.one-index;
  anchors : l.anchors ≡ count_by (λ b. is_anchor b.kind) (take l.one-index l.broken);
  anchors_fit : l.anchors ≤ l.one-index;
  invalid_links : l.invalid_links ≡ capped (sum_by (links_if is_invalid) (take l.one-index l.broken));
  leaving_links : l.leaving_links ≡ capped (sum_by (links_if is_leaving) (take l.one-index l.broken));
}
