use Rattle.saved_web.proofs.Prelude.{shadow, Utf8, ◌≡◌, ◌+◌, ◌≤◌, ◌++◌, length, count_by, filter_map, is_none, lines, AreLinks, link_texts, link_url}
use Rattle.saved_web.proofs.links.find_links.Given as goal

abbrev pub invariant-loop-text : goal.invariant-loop-text
invariant-loop-text l = record {
  text : shadow (Utf8 l.rest);
  page : l.folder ≡ l.fn.folder;
  known : AreLinks l.folder l.known;
  few : l.skipped + length l.rest ≤ length l.following;
  kept : l.links.items ++ filter_map (link_url l.folder) (link_texts (lines l.rest)) ≡ filter_map (link_url l.folder) (link_texts (lines l.following));
  counted : l.skipped + count_by (λ text. is_none (link_url l.folder text)) (link_texts (lines l.rest)) ≡ count_by (λ text. is_none (link_url l.folder text)) (link_texts (lines l.following));
}

abbrev pub decreases-loop-text : goal.decreases-loop-text
decreases-loop-text l = length l.rest
