use Rattle.link_offers.proofs.Prelude.{◌∷◌, [], None, Ok, Err, refl, sym, subst, allows, HasLine, IsOffer}
use native.Mathlib.Omega.{arith}
use Rattle.link_offers.proofs.Logs.{offer_line}
use Rattle.link_offers.proofs.LinkResults.{link_offered, known_after, lost_as}
use Rattle.link_offers.proofs.offers.LinkOffers.offer_link.Goals as goal

pub returns-then-has_marked-clause-offered : goal.returns-then-has_marked-clause-offered
returns-then-has_marked-clause-offered g c = λ known. record {
  link_results = None ∷ [];
  each = (c.args.busy.now, (refl, c.has_marked.ensures.line g.K.Name.workers _ known c.if-has_marked.true), refl);
  losses = refl;
  known = known;
}

pub returns-in-Ok-clause-offered : goal.returns-in-Ok-clause-offered
returns-in-Ok-clause-offered g c = λ known.
    let is = c.in-Ok.ensures in
    let log = c.offer_shared.new.self.worker.book.log in
    let offer : IsOffer g.K.Name.workers (allows g.K.Name.filter) c.args.busy.now c.offer_shared.new.self c.has_marked.new.url (Ok c.in-Ok.outcome) = record { books = is.books; words = is.words; filtered = is.filtered; entry = is.entry; same = is.same } in
    let line = offer_line g.K.Name.workers _ _ c.has_marked.new.url _ c.in-Ok.outcome is.books in
    link_offered g.K.Name.workers (allows g.K.Name.filter) _ _ c.has_marked.new.url c.args.url.now (Ok c.in-Ok.outcome) _ _ c.has_marked.ensures.url offer refl
    (c.remember.ensures g.K.Name.workers log (known_after g.K.Name.workers (allows g.K.Name.filter) _ _ _ _ c.args.self.now.recent offer known) (subst (HasLine g.K.Name.workers log) (sym c.offer_shared.ensures.url) line))

pub returns-in-Err-Filtered-clause-offered : goal.returns-in-Err-Filtered-clause-offered
returns-in-Err-Filtered-clause-offered g c = grind (arith, link_offered, known_after)

pub returns-in-Err-clause-offered : goal.returns-in-Err-clause-offered
returns-in-Err-clause-offered g c = λ known.
    let is = c.in-Err.ensures in
    let offer : IsOffer g.K.Name.workers (allows g.K.Name.filter) c.args.busy.now c.offer_shared.new.self c.has_marked.new.url (Err c.in-Err.refused) = record { books = is.books; words = is.words; filtered = is.filtered; entry = is.entry; same = is.same } in
    link_offered g.K.Name.workers (allows g.K.Name.filter) _ _ c.has_marked.new.url c.args.url.now (Err c.in-Err.refused) _ _ c.has_marked.ensures.url offer
    (lost_as c.in-Err.refused c.loss_of.result c.args.self.now.losses _ c.loss_of.ensures c.count.ensures)
    (known_after g.K.Name.workers (allows g.K.Name.filter) _ _ _ _ c.args.self.now.recent offer known)
