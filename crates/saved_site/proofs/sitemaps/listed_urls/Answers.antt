use Rattle.saved_site.proofs.Prelude.{ℕ, List, ◌∙◌, ap, subst, rules, slice_cmp, nat_list_cmp_total, nat_cmp, is_lt}
use Rattle.std.proofs.lemmas.List.Sorted.{answers_always, ranks_by}
use Rattle.std.specs.List.Sorted.{IsPermutation}
use Rattle.saved_site.specs.Sitemaps.{links_at, listed_with}
use Rattle.saved_site.proofs.sitemaps.listed_urls.Goals as goal

pub returns : goal.returns
returns c is =
    let files = c.args.files.now in
    let pages = c.args.pages.now in
    let urls = c.sort_by.new.self.items in
    let listed = c.in_ok-urls.ensures ∙ ap (λ (named : List (List ℕ)). listed_with files pages (links_at pages named)) is in
    record {
      same = subst (λ (us : List (List ℕ)). IsPermutation us urls) listed c.sort_by.ensures.permutation;
      sorted = c.in_ok-sort_by.ensures.sorted (λ (a b : List ℕ). is_lt (slice_cmp nat_cmp a b)) (ranks_by nat_list_cmp_total (λ (u : List ℕ). u)) (answers_always _ _ _ (λ f a r g h. search rules));
    }
