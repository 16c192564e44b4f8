use Rattle.crawl_frontier.proofs.Prelude.{rules, ◌≡◌, ◌∙◌, List, false, Some, None, refl, sym, ap, subst, arith, length, map, slice_get, is_some, slice_get_read, index_of, Entry, has_url, ShardId}
use Rattle.crawl_frontier.proofs.Urls.{has_index, index_within, url_there}
use Rattle.crawl_frontier.proofs.Admitting.{answered}
use Rattle.crawl_frontier.proofs.shard.Shard.admit.Goals as goal

pub index-requires : goal.index-requires
index-requires g c =
    let es = c.self.inside.sent.items in
    let is : index_of (map (λ e. e.url) es) c.args.offered.now.url.now ≡ Some c.in-Some.index = search rules in
    omega (arith, index_within es c.args.offered.now.url.now c.in-Some.index is, c.self.inside.sent.ok.0)

pub overflow_cast-index : goal.overflow_cast-index
overflow_cast-index g c =
    let es = c.self.inside.sent.items in
    let is : index_of (map (λ e. e.url) es) c.args.offered.now.url.now ≡ Some c.in-Some.index = search rules in
    omega (arith, index_within es c.args.offered.now.url.now c.in-Some.index is, c.self.invariant.5)

pub returns-in-Some : goal.returns-in-Some
returns-in-Some g c =
    let es = c.self.inside.sent.items in
    let url = c.args.offered.now.url.now in
    let k = c.in-Some.index in
    let there = c.index.result.now in
    let is : index_of (map (λ e. e.url) es) url ≡ Some k = search rules in
    let here : slice_get es k ≡ Some there = slice_get_read es (length es) k there refl (index_within es url k is) c.index.ensures in
    let same : there.url ≡ url = url_there es url k there is here in
    answered c.args.self.now c.args.self.now url c.args.offered.now.id c.args.offered.now.own c.args.offered.now.hops c.args.unit there k c.seen.result (search rules) refl
    (subst (λ (s : ShardId). slice_get s.sent k ≡ Some there) c.self.view_is here) same c.seen.ensures

pub returns : goal.returns
returns g c =
    let es = c.self.inside.sent.items in
    let url = c.args.offered.now.url.now in
    let none : index_of (map (λ e. e.url) es) url ≡ None = search rules in
    let new : has_url url es ≡ false = sym (has_index es url) ∙ ap is_some none in (
      search rules,
      subst (λ (xs : List Entry). has_url url xs ≡ false) (ap (λ (s : ShardId). s.sent) c.self.view_is) new,
      search rules,
      search rules,
      search rules,
    )
