use Rattle.crawl_frontier.proofs.Prelude.{◌≡◌, ◌<◌, ◌+◌, ◌∷◌, ◌++◌, ◌∙◌, [], None, length, map, vec_len, sym, ap, subst, arith, rules, ℕ, zero, suc, ◌≤◌, Bool, true, false, cond, eqb, List, Some, refl, ⊎_elim, nil_from_length, append_assoc, map-append, MatchOption, book_of, BookId, sent_to, Numbered, IsBook, queue_of, AgreesBelow, DisagreesAt, AgreeTo, HoldsIn, LogHolds, CountsHold, CountFails, OneDisagrees, KeepRuleBelow, nat_tests, cases_lt, Entry, Logged, Accepted, Seen, count_of, entries_of, Book, At, rule-numbered}
use Rattle.crawl_frontier.proofs.finish.compare.books_agree.Goals as goal

-- the k-th entry of a numbered list has the k-th number
numbered_at : (id n : ℕ) (xs : List Entry) (k : ℕ) (x : Entry) → Numbered id n xs → At xs k x → (x.sender ≡ id) × (x.number ≡ n + k)
numbered_at id n [] k x all at = absurd (cc (at))
numbered_at id n (y ∷ ys) zero x all at = let same : y ≡ x = cc in (ap (λ e. e.sender) (sym same) ∙ all.0, ap (λ e. e.number) (sym same) ∙ (all.1 ∙ omega arith))
numbered_at id n (y ∷ ys) (suc k) x all at = let r = numbered_at id (n + 1) ys k x all.2 at in (r.0, omega (arith, r.1))

-- two numbered lists of equal length are the same if each entry of the first is in the second
same_numbered : (id n : ℕ) (xs ys : List Entry) → Numbered id n xs → Numbered id n ys → length xs ≡ length ys → ((j : ℕ) (x : Entry) → At xs j x → (k : ℕ) × At ys k x) → xs ≡ ys
same_numbered id n [] [] a b len holds = refl
same_numbered id n [] (y ∷ ys) a b len holds = absurd (omega arith)
same_numbered id n (x ∷ xs) [] a b len holds = absurd (omega arith)
same_numbered id n (x ∷ xs) (y ∷ ys) a b len holds =
    let s = holds 0 x refl in
    λ i. first s.0 s.1 i ∷ same_numbered id (n + 1) xs ys a.2 b.2 (omega arith) (λ j z at. let t = holds (suc j) z at in rest j z at t.0 t.1) i
  where
    first : (k : ℕ) → At (y ∷ ys) k x → x ≡ y
    first zero at = cc
    first (suc k) at = let r = numbered_at id (n + 1) ys k x b.2 at in absurd (omega (arith, r.1, a.1))

    rest : (j : ℕ) (z : Entry) → At xs j z → (k : ℕ) → At (y ∷ ys) k z → (l : ℕ) × At ys l z
    rest j z here zero at =
        let r = numbered_at id (n + 1) xs j z a.2 here in
        let same : y ≡ z = cc in
        let number : y.number ≡ z.number = ap (λ e. e.number) same in
        absurd (omega (arith, r.1, b.1, number))
    rest j z here (suc k) at = (k, at)

entries_of-length : (id : ℕ) (es : List Entry) → length (entries_of id es) ≡ count_of id es
entries_of-length id [] = refl
entries_of-length id (e ∷ es) = grind (arith, entries_of-length id es)

entries_of-at : (id : ℕ) (es : List Entry) (k : ℕ) (x : Entry) → At es k x → x.sender ≡ id → (j : ℕ) × At (entries_of id es) j x
entries_of-at id [] k x at own = absurd (cc (at))
entries_of-at id (e ∷ es) zero x at own = here (eqb e.sender id) refl
  where
    here : (t : Bool) → eqb e.sender id ≡ t → (j : ℕ) × At (cond t (e ∷ entries_of id es) (entries_of id es)) j x
    here true is = (0, at)
    here false is =
        let same : e ≡ x = cc in
        let sender : e.sender ≡ id = ap (λ z. z.sender) same ∙ own in
        absurd (grind (arith, nat_tests))
entries_of-at id (e ∷ es) (suc k) x at own = later (eqb e.sender id) (entries_of-at id es k x at own)
  where
    later : (t : Bool) → (j : ℕ) × At (entries_of id es) j x → (j : ℕ) × At (cond t (e ∷ entries_of id es) (entries_of id es)) j x
    later true r = (suc r.0, r.1)
    later false r = r

-- each accepted entry of the log is in the list
sent_to-holds : (q : ℕ) (es : List Entry) (log : List Logged) → ((k : ℕ) (l : Logged) → At log k l → queue_of l ≡ q → HoldsIn es l) → (j : ℕ) (x : Entry) → At (sent_to q log) j x → (k : ℕ) × At es k x
sent_to-holds q es [] holds j x at = absurd (cc (at))
sent_to-holds q es (Seen u p ∷ ls) holds j x at = sent_to-holds q es ls (λ k. holds (suc k)) j x at
sent_to-holds q es (Accepted e p ∷ ls) holds j x at = by_case (eqb p q) refl j at (λ i here. sent_to-holds q es ls (λ k. holds (suc k)) i x here)
  where
    by_case : (t : Bool) → eqb p q ≡ t → (j : ℕ) → At (cond t (e ∷ sent_to q ls) (sent_to q ls)) j x → ((i : ℕ) → At (sent_to q ls) i x → (k : ℕ) × At es k x) → (k : ℕ) × At es k x
    by_case true is zero here rest =
        let same : p ≡ q = grind (arith, nat_tests) in
        let equal : e ≡ x = cc in
        subst (λ z. (k : ℕ) × At es k z) equal (holds 0 (Accepted e p) refl same)
    by_case true is (suc j) here rest = rest j here
    by_case false is j here rest = rest j here

-- comparing the counts is enough: if they agree, the book agrees with the lists
agrees : (workers least below : ℕ) (lists : List (List Entry)) (b : BookId) → IsBook workers b → least ≤ workers → KeepRuleBelow workers least lists
    → below ≤ least → LogHolds below lists b.log → (now : ℕ) → now ≤ below → CountsHold now lists b → AgreesBelow now lists b
agrees workers least below lists b is within rule under holds now under' counts q es lt at = record {
  sent = same_numbered b.id 0 (sent_to q b.log) (entries_of b.id es) (is.numbered q) (rule-numbered workers q b.id [] es (rule q es (omega arith) at)) len found;
  seen = λ k url here. holds k (Seen url q) here (omega arith) es at;
}
  where
    len : length (sent_to q b.log) ≡ length (entries_of b.id es)
    len =
        let counted : Some (length (sent_to q b.log)) ≡ Some (count_of b.id es) = sym (is.counted q (omega arith)) ∙ counts q es lt at in
        let same : length (sent_to q b.log) ≡ count_of b.id es = cc in
        same ∙ sym (entries_of-length b.id es)

    in_list : (k : ℕ) (l : Logged) → At b.log k l → queue_of l ≡ q → HoldsIn es l
    in_list k l here queue = holds k l here (omega (arith, queue)) es (subst (λ p. At lists p es) (sym queue) at)

    found : (j : ℕ) (x : Entry) → At (sent_to q b.log) j x → (k : ℕ) × At (entries_of b.id es) k x
    found j x here =
        let r = sent_to-holds q es b.log in_list j x here in
        entries_of-at b.id es r.0 x r.1 (numbered_at b.id 0 (sent_to q b.log) j x (is.numbered q) here).0

-- ---- a difference that is found is an error

-- a count that differs
count_disagrees : (workers q : ℕ) (lists : List (List Entry)) (b : BookId) → IsBook workers b → q < workers → CountFails q lists b → DisagreesAt q lists b
count_disagrees workers q lists b is lt (es, n, here, counted, differs) = grind (arith, entries_of-length)

-- if the bound falls only to queues at which something fails, something fails at the bound
fails_next : (P : ℕ → Type 0) (first old new : ℕ) → new ≤ old → (old < first → P old) → (new < old → P new) → new < first → P new
fails_next P first old new le before now lt = ⊎_elim now (λ not. let same : old ≡ new = omega (arith, le, not) in subst P same (before (omega (arith, lt, same)))) (cases_lt new old)

-- ---- from the last book to the first

-- one more book, before those that were compared
agree_first : (lists : List (List Entry)) (b : BookId) (bs : List BookId) (settled old new : ℕ) → AgreeTo old settled lists bs → new ≤ old → AgreesBelow new lists b → (new < old → DisagreesAt new lists b)
    → AgreeTo new settled lists (b ∷ bs)
agree_first lists b bs settled old new (within, agree, differ) le one differs =
    (omega (arith, le, within), all, fails_next (λ q. OneDisagrees q lists (b ∷ bs)) settled old new le (λ lt. later (differ lt)) (λ lt. (0, b, refl, differs lt)))
  where
    all : (j : ℕ) (c : BookId) → At (b ∷ bs) j c → AgreesBelow new lists c
    all zero c at = let same : b ≡ c = cc in subst (AgreesBelow new lists) same one
    all (suc j) c at = λ q es below here. agree j c at q es (omega (arith, below, le)) here

    later : OneDisagrees old lists bs → OneDisagrees old lists (b ∷ bs)
    later d = (suc d.0, d.1, d.2, d.3)

-- an element of the second of two lists is in both together
second_half : {X : Type 0} (xs ys : List X) (j : ℕ) (x : X) → At ys j x → (i : ℕ) × At (xs ++ ys) i x
second_half [] ys j x at = (j, at)
second_half (z ∷ zs) ys j x at = let r = second_half zs ys j x at in (suc r.0, r.1)

-- the last of the remaining books is one of all books
last_one : (all : List BookId) (books left : List Book) (b : Book) (bs : List BookId) → all ≡ map book_of books ++ bs → books ≡ left ++ b ∷ [] → all ≡ map book_of left ++ book_of b ∷ bs
last_one all books left b bs is last = grind (arith, map-append, append_assoc)

is_one : (all : List BookId) (left : List BookId) (b : BookId) (bs : List BookId) → all ≡ left ++ b ∷ bs → (j : ℕ) × At all j b
is_one all left b bs is = let here = second_half left (b ∷ bs) 0 b refl in (here.0, subst (λ xs. At xs here.0 b) (sym is) here.1)

pub counts_hold-least-requires-clause-lists : goal.counts_hold-least-requires-clause-lists
counts_hold-least-requires-clause-lists c = omega (arith, c.requires.least, c.loop-book.invariant.2.0)

pub counts_hold-least-requires-clause-counts : goal.counts_hold-least-requires-clause-counts
counts_hold-least-requires-clause-counts c =
    let b = c.in-Some.book in
    let left = c.pop.new.self.items in
    let inv = c.loop-book.invariant in
    let all = last_one (map book_of c.args.books.items) c.loop-book.books.items left b inv.0 inv.1 c.in-Some.ensures.items in
    let here = is_one (map book_of c.args.books.items) (map book_of left) (book_of b) inv.0 all in
    let is = c.requires.books here.0 (book_of b) here.1 in
    omega (arith, is.len, c.requires.least, inv.2.0)

pub loop-book-preserved : goal.loop-book-preserved
loop-book-preserved c =
    let b = c.in-Some.book in
    let left = c.pop.new.self.items in
    let lists = c.args.lists.now in
    let old = c.loop-book.least in
    let inv = c.loop-book.invariant in
    let all = last_one (map book_of c.args.books.items) c.loop-book.books.items left b inv.0 inv.1 c.in-Some.ensures.items in
    let here = is_one (map book_of c.args.books.items) (map book_of left) (book_of b) inv.0 all in
    let is = c.requires.books here.0 (book_of b) here.1 in
    let count = c.counts_hold-least.ensures in
    let next = c.counts_hold-least.result in
    let agree : AgreesBelow next lists (book_of b) = agrees (length lists) old old lists (book_of b) is (omega (arith, c.requires.least, inv.2.0)) (λ q es lt at. c.requires.rule q es (omega (arith, lt, inv.2.0)) at) (omega arith)
    (λ k l at lt. c.requires.logs here.0 (book_of b) here.1 k l at (omega (arith, lt, inv.2.0))) next count.below count.holds in
    let differ : next < old → DisagreesAt next lists (book_of b) = λ lt. count_disagrees (length lists) next lists (book_of b) is (omega (arith, lt, c.requires.least, inv.2.0)) (count.fails lt) in
    (book_of b ∷ inv.0, all, agree_first lists (book_of b) inv.0 c.args.least old next inv.2 count.below agree differ)

pub returns : goal.returns
returns c =
    let books = c.loop-book.books in
    let inv = c.loop-book.invariant in
    let over : c.pop.result ≡ None = search rules in
    let none : vec_len books ≡ 0 = (subst (λ o. MatchOption o ((vec_len books ≡ 0) × (vec_len c.pop.new.self ≡ 0)) (λ _. vec_len c.pop.new.self + 1 ≡ vec_len books)) over c.pop.ensures.cases).0 in
    let empty : books.items ≡ [] = nil_from_length books.items (omega (arith, none, books.ok.0)) in
    let all : map book_of c.args.books.items ≡ inv.0 = inv.1 ∙ ap (λ xs. map book_of xs ++ inv.0) empty in
    subst (λ bs. AgreeTo c.loop-book.least c.args.least c.args.lists.now bs) (sym all) inv.2
