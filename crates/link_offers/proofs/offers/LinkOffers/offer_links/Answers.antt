use Rattle.link_offers.proofs.Prelude.{List, ℕ, [], ◌∷◌, refl, take, subst, ◌∙◌, slice_index_or, take_more, allows, LinkResults}
use Rattle.link_offers.proofs.LinkResults.{link_answers_on, unchanged_at}
use Rattle.link_offers.proofs.offers.LinkOffers.offer_links.Goals as goal

pub loop-index-init : goal.loop-index-init
loop-index-init g c = (refl, λ known. record { link_results = []; each = refl; losses = refl; known = known })

pub loop-index-preserved : goal.loop-index-preserved
loop-index-preserved g c =
    let inv = c.loop-index.invariant in
    let i = c.loop-index.index in
    let x = c.index-links-index.result in
    let links = c.args.links.now in (
      unchanged_at c.loop-index.links i x c.offer_link.new.url c.offer_link.ensures.url ∙ inv.0,
      λ known.
          let before = inv.1 known in
          rw (take_more links i x c.loop-index-test.true)
          (link_answers_on g.K.Name.workers (allows g.K.Name.filter) (take i links) (slice_index_or links i x ∷ []) _ _ _ _ _ _ before
          (subst (λ (ls : List (List ℕ)). LinkResults g.K.Name.workers (allows g.K.Name.filter) (slice_index_or ls i x ∷ []) c.loop-index.busy c.offer_link.new.busy c.loop-index.self c.offer_link.new.self) inv.0 (c.offer_link.ensures.offered before.known))),
    )
