-- The outcomes for the URLs that a worker takes.
use Rattle.crawl_workers.proofs.Prelude.{◌≡◌, inl, inr, ℕ, ◌+◌, Bool, List, [], ◌∷◌, ◌++◌, refl, sym, ap, subst, ◌∙◌, arith, flat_map, append-nil, append_assoc, map-append, flat_map_more, Page, PageResult, links_of, Entry, MayFollow, KeepsRule, BookId, WorkerId, BusyId, worker, Loss, LinkOffers, no_losses, HaveResults, LinkResults, losses_by, with_losses, Outcome, OffersLinks, Turn, IsTurn, AreTurns, losses_at, found_at, entries_in, unkept, kept, Progress, UrlOutcome, HasRoomOrNot, SameBusy, busy_same, answers_same, losses_on}
use Rattle.link_offers.specs.declared.losses.Loss.TheVariants as loss
use Rattle.crawl_workers.specs.declared.output.WorkerOutput.{WorkerOutput}
use Rattle.link_offers.specs.Recent.{Knows}

-- ## A URL

pub continues_same : (workers : ℕ) (allowed : List ℕ → Bool) (b b' : BusyId) (links : List (List ℕ)) (outcome : Outcome) → OffersLinks workers allowed b b' links outcome → SameBusy b b'
continues_same workers allowed b b' links outcome goes = grind (arith, busy_same, answers_same)

-- its page was fetched, its links were offered, and its result was kept or lost
pub page_fetched : (workers : ℕ) (allowed : List ℕ → Bool) (meaning : List ℕ → Page) (b b' : BusyId) (page : Page) (old mid new : WorkerOutput)
    → page ≡ meaning b.message.entry.url → mid.results.items ≡ old.results.items → LinkResults workers allowed (links_of page) b b' old.offers mid.offers
    → HasRoomOrNot b.message.entry.url page mid new → UrlOutcome workers allowed meaning b b' old new
page_fetched workers allowed meaning b b' page old mid new means items links keeps =
    let each : HaveResults workers allowed b b' (links_of (meaning b.message.entry.url)) links.link_results = subst (λ (p : Page). HaveResults workers allowed b b' (links_of p) links.link_results) means links.each in
    elim keeps [
      | inl k ↦ record {
        outcome = kept links.link_results;
        links = each;
        results = k.0 ∙ ap (λ (rs : List PageResult). rs ++ record { url = b.message.entry.url; page = page } ∷ []) items
            ∙ ap (λ (p : Page). old.results.items ++ record { url = b.message.entry.url; page = p } ∷ []) means;
        losses = ap (λ (o : LinkOffers). o.losses) k.1 ∙ links.losses;
        known = subst (λ (o : LinkOffers). Knows workers b'.worker.book.log o.recent) (sym k.1) links.known;
      }
      | inr l ↦ record {
        outcome = unkept links.link_results;
        links = each;
        results = l.0 ∙ items ∙ sym (append-nil old.results.items);
        losses = losses_on (flat_map losses_by links.link_results) (loss.Unkept ∷ []) old.offers.losses mid.offers.losses new.offers.losses links.losses l.1;
        known = subst (Knows workers b'.worker.book.log) (sym l.2) links.known;
      }
    ]

-- ## A run

pub progress_none : (workers : ℕ) (allowed : List ℕ → Bool) (meaning : List ℕ → Page) (w : WorkerId) (output : WorkerOutput)
    → output.results.items ≡ [] → output.offers.losses ≡ no_losses → Knows workers w.book.log output.offers.recent → Progress workers allowed meaning w w output.results.items output.offers
progress_none workers allowed meaning w output none losses known = record {
  queue = refl;
  accounted = record { turns = []; taken = sym (append-nil w.taken); found = none; books = refl; why = losses };
  rule = tt;
  known = known;
}

-- the same queue, list and books
pub progress_still : (workers : ℕ) (allowed : List ℕ → Bool) (meaning : List ℕ → Page) (start w v : WorkerId) (results : List PageResult) (offers : LinkOffers)
    → v.queue ≡ w.queue → v.taken ≡ w.taken → v.book ≡ w.book → Progress workers allowed meaning start w results offers → Progress workers allowed meaning start v results offers
progress_still workers allowed meaning start w v results offers queue taken book so_far = record {
  queue = queue ∙ so_far.queue;
  accounted = record {
    turns = so_far.accounted.turns;
    taken = taken ∙ so_far.accounted.taken;
    found = so_far.accounted.found;
    books = subst (λ (b : BookId). AreTurns workers allowed meaning start.book b so_far.accounted.turns) (sym book) so_far.accounted.books;
    why = so_far.accounted.why;
  };
  rule = so_far.rule;
  known = subst (λ (b : BookId). Knows workers b.log offers.recent) (sym book) so_far.known;
}

rule_more : (workers queue : ℕ) (before es : List Entry) (e : Entry) → KeepsRule workers queue before es → MayFollow workers queue (before ++ es) e → KeepsRule workers queue before (es ++ e ∷ [])
rule_more workers queue before [] e rule may = (subst (λ xs. MayFollow workers queue xs e) (append-nil before) may, tt)
rule_more workers queue before (x ∷ es) e rule may = (rule.0, rule_more workers queue (before ++ x ∷ []) es e rule.1 (rw (append_assoc before (x ∷ []) es) may))

turns_more : (workers : ℕ) (allowed : List ℕ → Bool) (meaning : List ℕ → Page) (ts : List Turn) (t : Turn) (b m c : BookId)
    → AreTurns workers allowed meaning b m ts → IsTurn workers allowed meaning m c t.0 t.1 → AreTurns workers allowed meaning b c (ts ++ t ∷ [])
turns_more workers allowed meaning [] t b m c are is = (c, subst (λ (x : BookId). IsTurn workers allowed meaning x c t.0 t.1) are is, refl)
turns_more workers allowed meaning (u ∷ ts) t b m c are is = (are.0, are.1, turns_more workers allowed meaning ts t are.0 m c are.2 is)

-- a turn with a URL
pub progress_more : (workers : ℕ) (allowed : List ℕ → Bool) (meaning : List ℕ → Page) (start w v : WorkerId) (b b' : BusyId) (old new : WorkerOutput)
    → (b.worker ≡ worker w.queue w.seat (w.taken ++ b.message.entry ∷ []) w.empty_pops w.book) → MayFollow workers w.queue w.taken b.message.entry
    → v.queue ≡ b'.worker.queue → v.taken ≡ b'.worker.taken → v.book ≡ b'.worker.book
    → (Knows workers b.worker.book.log old.offers.recent → UrlOutcome workers allowed meaning b b' old new)
    → Progress workers allowed meaning start w old.results.items old.offers → Progress workers allowed meaning start v new.results.items new.offers
progress_more workers allowed meaning start w v b b' old new takes may queue taken book outcome so_far =
    let accounted = so_far.accounted in
    let book_was : b.worker.book ≡ w.book = ap (λ (x : WorkerId). x.book) takes in
    let url = outcome (subst (λ (x : BookId). Knows workers x.log old.offers.recent) (sym book_was) so_far.known) in
    let same : SameBusy b b' = continues_same workers allowed b b' (links_of (meaning b.message.entry.url)) url.outcome url.links in
    let t : Turn = (b.message.entry, url.outcome) in
    let all : v.taken ≡ w.taken ++ b.message.entry ∷ [] = taken ∙ (ap (λ (x : WorkerId). x.taken) same.worker ∙ ap (λ (x : WorkerId). x.taken) takes) in
    let entries : entries_in (accounted.turns ++ t ∷ []) ≡ entries_in accounted.turns ++ b.message.entry ∷ [] = map-append (λ (x : Turn). x.0) accounted.turns (t ∷ []) in
    let turn : IsTurn workers allowed meaning w.book v.book b.message.entry url.outcome = record {
      before = b;
      after = b';
      entry = refl;
      first = book_was;
      last = sym book;
      links = url.links;
    } in
    record {
      queue = queue ∙ (ap (λ (x : WorkerId). x.queue) same.worker ∙ ap (λ (x : WorkerId). x.queue) takes) ∙ so_far.queue;
      accounted = record {
        turns = accounted.turns ++ t ∷ [];
        taken = all ∙ ap (λ (es : List Entry). es ++ b.message.entry ∷ []) accounted.taken
            ∙ append_assoc start.taken (entries_in accounted.turns) (b.message.entry ∷ [])
            ∙ ap (λ (es : List Entry). start.taken ++ es) (sym entries);
        found = url.results ∙ ap (λ (rs : List PageResult). rs ++ found_at meaning b.message.entry.url url.outcome) accounted.found
            ∙ flat_map_more (λ (x : Turn). found_at meaning x.0.url x.1) [] accounted.turns t;
        books = turns_more workers allowed meaning accounted.turns t start.book w.book v.book accounted.books turn;
        why = losses_on (flat_map (λ (x : Turn). losses_at x.1) accounted.turns) (losses_at url.outcome) no_losses old.offers.losses new.offers.losses accounted.why url.losses
            ∙ ap (λ (xs : List Loss). with_losses xs no_losses) (flat_map_more (λ (x : Turn). losses_at x.1) [] accounted.turns t);
      };
      rule = subst (λ (es : List Entry). KeepsRule workers start.queue start.taken es) (sym entries) (rule_more workers start.queue start.taken (entries_in accounted.turns) b.message.entry so_far.rule (rw (← so_far.queue, ← accounted.taken) may));
      known = subst (λ (x : BookId). Knows workers x.log new.offers.recent) (sym book) url.known;
    }
