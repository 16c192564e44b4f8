use Rattle.site_check.proofs.Prelude.{◌∙◌, sym, ap, map, list_any, link_text, texts_in}
use Rattle.std.proofs.Common.{rules}
use Rattle.std.proofs.lemmas.Cmp.{nat_list_cmp_total}
use Rattle.std.proofs.lemmas.List.Sorted.{IsPermutation-map, answers_always, list_any-IsPermutation, ranks_by}
use Rattle.site_check.proofs.TextsOnce.{link_lt, rises_sorted}
use Rattle.site_check.proofs.invalid.sorted_links.Goals as goal

pub returns-clause-sorted : goal.returns-clause-sorted
returns-clause-sorted c =
    rises_sorted c.sort_by.new.self.items
    (c.in_ok-sort_by.ensures.sorted link_lt (ranks_by nat_list_cmp_total link_text) (answers_always _ _ _ (λ f a r g h. search rules)))

pub returns-clause-same : goal.returns-clause-same
returns-clause-same c = λ test.
    let found = c.in_ok-links.links.items in
    sym (list_any-IsPermutation test (map link_text found) (map link_text c.sort_by.new.self.items) (IsPermutation-map link_text found c.sort_by.new.self.items c.sort_by.ensures.permutation))
    ∙ ap (list_any test) c.in_ok-links.ensures
    ∙ (λ i. list_any test (texts_in (λ url. c.in_ok-documents.ensures url i) c.args.results.now))
