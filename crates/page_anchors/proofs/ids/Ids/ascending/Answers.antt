use Rattle.page_anchors.proofs.Prelude.{◌≡◌, ◌∙◌, ◌++◌, List, ℕ, subst, sym, IsPermutation-map, Bor, IsPermutation, pointed, DoAscend}
use Rattle.page_anchors.proofs.Block.{pointed_ascend}
use Rattle.page_anchors.proofs.ids.Ids.ascending.Goals as goal

pub returns : goal.returns
returns c =
    let before = c.in_ok-ids.ids.items in
    let after = c.sort.new.self.items in
    let all : c.push_all.new.self ≡ pointed after = c.in_ok-push_all.ensures ∙ (λ i. c.in_ok-sorted.ensures i ++ pointed (c.as_slice.ensures.value i)) in
    let moved : IsPermutation (pointed before) (pointed after) = IsPermutation-map (λ (text : Bor (List ℕ)). text.now) before after c.sort.ensures.permutation in
    record {
      ascend = subst (λ (ids : List (List ℕ)). DoAscend ids) (sym all) (pointed_ascend after c.in_ok-sort.ensures.sorted);
      same = subst (λ (ids : List (List ℕ)). IsPermutation c.args.self.now ids) (sym all) (subst (λ (ids : List (List ℕ)). IsPermutation ids (pointed after)) c.in_ok-ids.ensures moved);
    }
