use Rattle.crawl_frontier.proofs.Prelude.{◌≡◌, ◌<◌, ◌∙◌, ap, sym, refl, Some, slice_get, length, vec_len, arith, subst, ℕ, ◌+◌, List, [], ◌∷◌, ◌++◌, length-append, vec_capacity, slice_get_read, entry, BookId, IsBook, book_of, book_accepting, book_seeing, sent_to, Numbered, append-nil, Entry, Logged, Accepted, Seen}
use Rattle.crawl_keys.specs.Assignment.{subqueue_of}
use Rattle.crawl_frontier.proofs.Gets.{get_set_same, get_set_other, get_len_set}
use Rattle.crawl_frontier.proofs.offer.deliver.Goals as goal

-- books with one more line
sent_to-append : (q : ℕ) (ls ms : List Logged) → sent_to q (ls ++ ms) ≡ sent_to q ls ++ sent_to q ms
sent_to-append q [] ms = refl
sent_to-append q (Accepted e p ∷ ls) ms = grind (arith, sent_to-append q ls ms)
sent_to-append q (Seen u p ∷ ls) ms = sent_to-append q ls ms

numbered-snoc : (id n : ℕ) (xs : List Entry) (e : Entry) → Numbered id n xs → e.sender ≡ id → e.number ≡ n + length xs → Numbered id n (xs ++ e ∷ [])
numbered-snoc id n [] e all sender number = (sender, omega (arith, number), tt)
numbered-snoc id n (x ∷ xs) e all sender number = (all.0, all.1, numbered-snoc id (n + 1) xs e all.2 sender (omega (arith, number)))

book_accepts : (workers : ℕ) (b : BookId) (q n : ℕ) (e : Entry) → IsBook workers b → q < workers → slice_get b.counts q ≡ Some n → e.sender ≡ b.id → e.number ≡ n → IsBook workers (book_accepting b q n e)
book_accepts workers b q n e is below at sender number = grind (arith, get_len_set, sent_to-append, get_set_same, get_set_other, numbered-snoc, append-nil, length-append)

book_sees : (workers : ℕ) (b : BookId) (url : List ℕ) (q : ℕ) → IsBook workers b → IsBook workers (book_seeing b url q)
book_sees workers b url q is = grind (arith, sent_to-append, append-nil)

pub accept-requires-clause-within : goal.accept-requires-clause-within
accept-requires-clause-within g c =
    let same : vec_len c.admit.new.book.counts ≡ vec_len c.args.book.now.counts = ap vec_len c.in-Admitted.ensures.rest.1 in
    omega (arith, same, c.subqueue-queue.ensures.below, c.workers.ensures.0, c.requires.book.len, c.args.book.now.counts.ok.0)

pub accept-requires-clause-narrow : goal.accept-requires-clause-narrow
accept-requires-clause-narrow g c = omega (arith, c.subqueue-queue.ensures.below, c.workers.ensures.1.1)

pub accept-requires-clause-small : goal.accept-requires-clause-small
accept-requires-clause-small g c = omega (arith, c.in-Admitted.ensures.replies.0, c.in-Admitted.ensures.replies.1)

pub accept-requires-clause-room : goal.accept-requires-clause-room
accept-requires-clause-room g c = subst (λ v. vec_len v < vec_capacity v) (sym c.in-Admitted.ensures.rest.2) c.requires.room

pub see-requires-clause-narrow : goal.see-requires-clause-narrow
see-requires-clause-narrow g c = omega (arith, c.subqueue-queue.ensures.below, c.workers.ensures.1.1)

pub see-requires-clause-room : goal.see-requires-clause-room
see-requires-clause-room g c = subst (λ v. vec_len v < vec_capacity v) (sym c.in-Seen.ensures.rest.2) c.requires.room

-- the books after the URL was accepted
module _ (g : _) (c : goal.After-accept g) where
  abbrev e : Entry
  e = entry c.args.candidate.now.url.now c.args.book.now.id c.in-Admitted.number c.args.candidate.now.hops

  below : c.subqueue-queue.result < g.K.Name.workers
  below = omega (arith, c.subqueue-queue.ensures.below, c.workers.ensures.0)

  get : slice_get (book_of c.args.book.now).counts c.subqueue-queue.result ≡ Some c.in-Admitted.number
  get =
      let counts = (book_of c.args.book.now).counts in
      slice_get_read counts (length counts) c.subqueue-queue.result c.index-own.result.now refl (omega (arith, below, c.requires.book.len)) c.index-own.ensures ∙ ap Some (sym c.in-Admitted.ensures.replies.0)

  after : book_of c.accept.new.self ≡ book_accepting (book_of c.args.book.now) c.subqueue-queue.result c.in-Admitted.number e
  after = c.accept.ensures.log e c.in-Admitted.ensures.index ∙ ap (λ (x : BookId). book_accepting x c.subqueue-queue.result c.in-Admitted.number e) c.in-Admitted.ensures.same

pub returns-in-Admitted-clause-books : goal.returns-in-Admitted-clause-books
returns-in-Admitted-clause-books g c =
    (c.subqueue-queue.ensures.value ∙ ap (subqueue_of c.args.candidate.now.url.now) c.workers.ensures.0, get g c, c.in-Admitted.ensures.replies.2, after g c)

pub returns-in-Admitted-clause-book : goal.returns-in-Admitted-clause-book
returns-in-Admitted-clause-book g c =
    subst (IsBook g.K.Name.workers) (sym (after g c)) (book_accepts g.K.Name.workers (book_of c.args.book.now) c.subqueue-queue.result c.in-Admitted.number (e g c) c.requires.book (below g c) (get g c) refl refl)

pub returns-in-Admitted-clause-known : goal.returns-in-Admitted-clause-known
returns-in-Admitted-clause-known g c = c.accept.ensures.known g.K.Name.queues g.K.Name.workers (e g c) c.in-Admitted.ensures.index c.in-Admitted.ensures.known

pub returns-in-Seen-clause-books : goal.returns-in-Seen-clause-books
returns-in-Seen-clause-books g c =
    let url = c.args.candidate.now.url.now in
    let at : c.subqueue-queue.result ≡ subqueue_of url g.K.Name.workers = c.subqueue-queue.ensures.value ∙ ap (subqueue_of url) c.workers.ensures.0 in
    let there = c.in-Seen.ensures.index in
    c.see.ensures.log there.0 there.1 ∙ (λ i. book_seeing (c.in-Seen.ensures.same i) (there.2 i) (at i))

pub returns-in-Seen-clause-book : goal.returns-in-Seen-clause-book
returns-in-Seen-clause-book g c =
    let b = book_of c.args.book.now in
    let there = c.in-Seen.ensures.index in
    let after : book_of c.see.new.self ≡ book_seeing b there.0.url c.subqueue-queue.result =
    c.see.ensures.log there.0 there.1 ∙ ap (λ (x : BookId). book_seeing x there.0.url c.subqueue-queue.result) c.in-Seen.ensures.same in
    subst (IsBook g.K.Name.workers) (sym after) (book_sees g.K.Name.workers b there.0.url c.subqueue-queue.result c.requires.book)

pub returns-in-Seen-clause-known : goal.returns-in-Seen-clause-known
returns-in-Seen-clause-known g c =
    let there = c.in-Seen.ensures.index in
    c.see.ensures.known g.K.Name.queues g.K.Name.workers there.0 there.1 c.in-Seen.ensures.known

pub returns-in-Crossed-clause-books : goal.returns-in-Crossed-clause-books
returns-in-Crossed-clause-books g c =
    let b = book_of c.args.book.now in
    let url = c.args.candidate.now.url.now in
    let queue = c.subqueue-queue.result in
    let own = c.index-own.result.now in
    let below : queue < g.K.Name.workers = omega (arith, c.subqueue-queue.ensures.below, c.workers.ensures.0) in
    let get : slice_get b.counts queue ≡ Some own = slice_get_read b.counts (length b.counts) queue own refl (omega (arith, below, c.requires.book.len)) c.index-own.ensures in
    let at : queue ≡ subqueue_of url g.K.Name.workers = c.subqueue-queue.ensures.value ∙ ap (subqueue_of url) c.workers.ensures.0 in
    (c.in-Crossed.ensures.same, subst (λ k. slice_get b.counts k ≡ Some own) at get, c.in-Crossed.ensures.replies.0)

pub returns-in-Crossed-clause-book : goal.returns-in-Crossed-clause-book
returns-in-Crossed-clause-book g c = subst (IsBook g.K.Name.workers) (sym c.in-Crossed.ensures.same) c.requires.book

pub returns-in-TooFar-clause-book : goal.returns-in-TooFar-clause-book
returns-in-TooFar-clause-book g c = subst (IsBook g.K.Name.workers) (sym c.in-TooFar.ensures.same) c.requires.book

pub returns-in-NoMemory-clause-book : goal.returns-in-NoMemory-clause-book
returns-in-NoMemory-clause-book g c = subst (IsBook g.K.Name.workers) (sym c.in-NoMemory.ensures.same) c.requires.book
