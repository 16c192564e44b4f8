use Rattle.crawl_frontier.proofs.Prelude.{◌≡◌, ◌<◌, ℕ, List, [], Option, true, None, Some, map, sym, subst, inl, inr, length, arith, ◌≤◌, false, true≢false, refl, ap, ◌∙◌, ⊎_elim, is_some, nat_cmp, get, BTreeMap, Book, Entry, Doubt, BookId, IsBook, book_of, ShardId, WorkerId, SenderId, At, HasWorkers, Agrees, HasSenders, HasUnknownSender, Found, IsFound, AreFound, IsSettled, IsFirstUnsettled, AllAre, Gathered, LogsAreOf, SendersIn, IdsOf, KeepRuleBelow, HasOtherSender, Slots, Placed, IsShared, SettlesAt, AllSettle, AgreesBelow, OneDisagrees, cases_lt, BTreeSet, contains, GateId, QueueId, PassId}
use Rattle.crawl_frontier.proofs.Learning.{logs_hold}
use Rattle.crawl_frontier.proofs.Settling.{Settled, settled, accounts, all_work, one_is_missing, has_book}
use Rattle.crawl_frontier.proofs.Gets.{get_within, has_at, same_at, list_of}
use Rattle.crawl_frontier.proofs.finish.settled.settle_run.Goals as goal

-- what was found for queue q has this list and this doubt
record Tied (workers : ℕ) (closed : List WorkerId) (lists : List (List Entry)) (doubts : List (Option Doubt)) (q : ℕ) (f : Found) : Type 0 where
  pub listed : At lists q f.sent
  pub clear : At doubts q None → (f.queue ≡ q) × (f.is_taken ≡ true)
  pub unclear : (why : Doubt) → At doubts q (Some why) → f.is_taken ≡ false
  pub found : IsFound workers closed q f

module _ (gate : GateId) (workers : ℕ) (queues : List QueueId) (closed : List WorkerId) (shards : List ShardId) (rights : BTreeMap ℕ PassId) (lists : List (List Entry)) (doubts : List (Option Doubt)) where
  tied : Slots gate workers queues closed rights → (q : ℕ) (es : List Entry) (doubt : Option Doubt) → At lists q es → At doubts q doubt → SettlesAt workers queues shards rights q es doubt → (f : Found) × Tied workers closed lists doubts q f
  tied slots q es None at there (j, s, right, here, sum, has, (same, rule, (queue, taken))) =
      let w = slots q right has in (
        record { queue = s.queue; sent = es; is_taken = true },
        record {
          listed = at;
          clear = λ none. (queue, refl);
          unclear = λ why some. let both : Some None ≡ Some (Some why) = sym there ∙ some in absurd (cc (both));
          found = record { rule = rule; taken = λ is. (w.0, w.1, w.2, w.3, ap (λ v. v.taken) (sym w.4) ∙ (sym taken ∙ sym same)) };
        },
      )
  tied slots q es (Some why) at there (j, s, right, here, sum, has, (same, rule, shows)) = (
    record { queue = s.queue; sent = es; is_taken = false },
    record {
      listed = at;
      clear = λ none. let both : Some (Some why) ≡ Some None = sym there ∙ none in absurd (cc (both));
      unclear = λ other some. refl;
      found = record { rule = rule; taken = λ is. absurd (true≢false (sym is)) };
    },
  )

  -- what was found, queue by queue
  found : Slots gate workers queues closed rights → AllSettle workers queues shards rights lists doubts → length lists ≡ workers → length doubts ≡ workers
      → (fs : List Found) × AreFound workers closed fs × ((q : ℕ) (f : Found) → At fs q f → Tied workers closed lists doubts q f)
  found slots all len len' =
      let fs = list_of (Tied workers closed lists doubts) workers (λ q lt.
      let es = has_at lists q (omega (arith, lt, len)) in
      let doubt = has_at doubts q (omega (arith, lt, len')) in
      tied slots q es.0 doubt.0 es.1 doubt.1 (all q es.0 doubt.0 es.1 doubt.1)) in
      (fs.0, record { len = fs.1; each = λ q f at. (fs.2 q f at).found }, fs.2)

module _ (workers : ℕ) (closed : List WorkerId) (senders : List SenderId) (lists : List (List Entry)) (doubts : List (Option Doubt)) (books : List BookId) (ids : BTreeSet ℕ) (fs : List Found) where
  -- an entry whose sender is not among the ids of the books
  strangers : Gathered workers closed senders [] [] books → IdsOf books ids → AreFound workers closed fs → ((q : ℕ) (f : Found) → At fs q f → Tied workers closed lists doubts q f) → length lists ≡ workers
      → ((q : ℕ) × (es : List Entry) × At lists q es × HasOtherSender ids es) → (q : ℕ) × (f : Found) × At fs q f × HasUnknownSender closed senders f.sent
  strangers g of_ids are ties len (q, es, at, (k, e, here, unknown)) =
      let f = has_at fs q (let lt = get_within lists q es at in omega (arith, lt, len, are.len)) in
      let same : es ≡ f.0.sent = same_at lists q es f.0.sent at (ties q f.0 f.1).listed in (
        q,
        f.0,
        f.1,
        (
          k,
          e,
          subst (λ xs. At xs k e) same here,
          λ b part own.
              let h = has_book workers closed senders books g b part in
              true≢false (sym (of_ids.all h.0 b h.1) ∙ (ap (contains nat_cmp ids) own ∙ unknown)),
        ),
      )

  all_senders : Gathered workers closed senders [] [] books → IdsOf books ids → AllAre (SendersIn ids) lists → ((q : ℕ) (f : Found) → At fs q f → Tied workers closed lists doubts q f)
      → (q : ℕ) (f : Found) → At fs q f → HasSenders closed senders f.sent
  all_senders g of_ids in_ids ties q f at k e here =
      let t = of_ids.of_books e.sender (in_ids q f.sent (ties q f at).listed k e here) in
      (t.1, g.parts t.0 t.1 t.2, t.3)

  -- the least queue at which something is found
  first_unsettled : (gate : GateId) (rights : BTreeMap ℕ PassId) (unshared clear least : ℕ) → Placed gate workers closed 0 rights unshared → Gathered workers closed senders [] [] books → AreFound workers closed fs
      → ((q : ℕ) (f : Found) → At fs q f → Tied workers closed lists doubts q f) → clear ≤ unshared → ((q : ℕ) → q < clear → At doubts q None) → (clear < unshared → (why : Doubt) × At doubts clear (Some why)) → (unshared < workers → IsShared closed unshared)
      → least ≤ clear → AllAre (AgreesBelow least lists) books → (least < clear → OneDisagrees least lists books) → least < workers → IsFirstUnsettled closed senders fs least
  first_unsettled gate rights unshared clear least placed g are ties le none named shared le' agree disagree within = record {
    there = let f = has_at fs least (omega (arith, within, are.len)) in (f.0, f.1, unsettled f.0 f.1);
    below = λ p f lt at.
        let t = ties p f at in
        let shown = t.clear (none p (omega (arith, lt, le'))) in
        record {
          here = shown.0;
          taken = shown.1;
          once = λ j k v w at_j at_k v_here w_here. placed.once j k v w at_j at_k (omega arith) (omega arith) (v_here ∙ sym w_here) (omega (arith, w_here, lt, le, le'));
          agrees = λ b part. let h = has_book workers closed senders books g b part in agree h.0 b h.1 p f.sent lt t.listed;
        };
  }
    where
      unsettled : (f : Found) → At fs least f → IsSettled closed senders least f → ⊥
      unsettled f at is = ⊎_elim by_books (λ not. ⊎_elim (by_doubt not) (by_sharing not) (cases_lt clear unshared)) (cases_lt least clear)
        where
          by_books : least < clear → ⊥
          by_books lt =
              let d = disagree lt in
              let same : d.3.0 ≡ f.sent = same_at lists least d.3.0 f.sent d.3.1 (ties least f at).listed in
              d.3.2 (subst (λ es. Agrees least es d.1) (sym same) (is.agrees d.1 (g.parts d.0 d.1 d.2)))

          by_doubt : clear ≤ least → clear < unshared → ⊥
          by_doubt not lt =
              let why = named lt in
              let same : clear ≡ least = omega (arith, not, le') in
              true≢false (sym is.taken ∙ (ties least f at).unclear why.0 (subst (λ q. At doubts q (Some why.0)) same why.1))

          by_sharing : clear ≤ least → unshared ≤ clear → ⊥
          by_sharing not not' =
              let same : unshared ≡ least = omega (arith, not, not', le, le') in
              let two = shared (omega (arith, same, within)) in
              two.8 (is.once two.0 two.1 two.2 two.3 two.4 two.5 (two.6 ∙ same) (two.7 ∙ same))

pub returns-then-not-all_there : goal.returns-then-not-all_there
returns-then-not-all_there g c =
    let is : c.parts_of-workers.result.0 ≡ g.K.Name.workers = c.parts_of-workers.ensures.workers.0 in
    let gone = c.all_there.ensures.missing c.if-not-all_there.true in
    inl (one_is_missing g.K.Name.gate g.K.Name.workers c.args.closed.items c.in_ok-rights.rights c.in_ok-rights.unshared gone.0 c.in_ok-rights.ensures.1 (omega (arith, gone.1, is)) gone.2)

pub returns-then-not-complete : goal.returns-then-not-complete
returns-then-not-complete g c =
    let lists = c.in_ok-lists.lists in
    let doubts = c.in_ok-lists.doubts in
    let s = c.in_ok-lists.ensures in
    let gathered = c.in_ok-rights.ensures in
    let is : c.parts_of-workers.result.0 ≡ g.K.Name.workers = c.parts_of-workers.ensures.workers.0 in
    let books = map book_of c.extend_books.new.books.items in
    let all_books : Gathered g.K.Name.workers c.args.closed.items c.args.senders.items [] [] books =
    subst (λ (bs : List BookId). Gathered g.K.Name.workers c.args.closed.items c.args.senders.items [] [] bs) (sym c.extend_books.ensures.books) gathered.2 in
    let len : length lists.items ≡ g.K.Name.workers = omega (arith, s.0, lists.ok.0) in
    let fs = found g.K.Name.gate g.K.Name.workers g.K.Name.queues c.args.closed.items c.extend_books.new.shards.items c.in_ok-rights.rights lists.items doubts.items gathered.0 s.2 len (omega (arith, s.1, doubts.ok.0)) in
    let ids : IdsOf books c.in_ok-complete.ensures.0 = subst (λ (bs : List Book). IdsOf (map book_of bs) c.in_ok-complete.ensures.0) c.as_slice-2.ensures.value c.in_ok-complete.ensures.1 in
    let gone : (q : ℕ) × (es : List Entry) × At lists.items q es × HasOtherSender c.in_ok-complete.ensures.0 es =
    subst (λ (l : List (List Entry)). (q : ℕ) × (es : List Entry) × At l q es × HasOtherSender c.in_ok-complete.ensures.0 es) c.as_slice.ensures.value (c.in_ok-complete.ensures.3 c.if-not-complete.true) in
    let work : HasWorkers g.K.Name.workers c.args.closed.items =
    all_work g.K.Name.gate g.K.Name.workers g.K.Name.queues c.args.closed.items c.in_ok-rights.rights gathered.0 (λ q lt. c.all_there.ensures.all c.if-not-all_there.false q (omega (arith, lt, is))) in
    inr (work, (fs.0, fs.1, strangers g.K.Name.workers c.args.closed.items c.args.senders.items lists.items doubts.items books c.in_ok-complete.ensures.0 fs.0 all_books ids fs.1 fs.2 len gone))

pub returns : goal.returns
returns g c =
    let lists = c.in_ok-lists.lists in
    let doubts = c.in_ok-lists.doubts in
    let s = c.in_ok-lists.ensures in
    let gathered = c.in_ok-rights.ensures in
    let rights = c.in_ok-rights.rights in
    let unshared = c.in_ok-rights.unshared in
    let books = map book_of c.extend_books.new.books.items in
    let all_books : Gathered g.K.Name.workers c.args.closed.items c.args.senders.items [] [] books =
    subst (λ (bs : List BookId). Gathered g.K.Name.workers c.args.closed.items c.args.senders.items [] [] bs) (sym c.extend_books.ensures.books) gathered.2 in
    let clear = c.first_doubt-least.result in
    let below = c.first_doubt-least.ensures.below in
    let is : c.parts_of-workers.result.0 ≡ g.K.Name.workers = c.parts_of-workers.ensures.workers.0 in
    let len : length lists.items ≡ g.K.Name.workers = omega (arith, s.0, lists.ok.0) in
    let there : (q : ℕ) → q < g.K.Name.workers → is_some (get nat_cmp rights q) ≡ true = λ q lt. c.all_there.ensures.all c.if-not-all_there.false q (omega (arith, lt, is)) in
    let fs = found g.K.Name.gate g.K.Name.workers g.K.Name.queues c.args.closed.items c.extend_books.new.shards.items rights lists.items doubts.items gathered.0 s.2 len (omega (arith, s.1, doubts.ok.0)) in
    let ids : IdsOf books c.in_ok-complete.ensures.0 = subst (λ (bs : List Book). IdsOf (map book_of bs) c.in_ok-complete.ensures.0) c.as_slice-2.ensures.value c.in_ok-complete.ensures.1 in
    let senders : AllAre (SendersIn c.in_ok-complete.ensures.0) lists.items = subst (λ (l : List (List Entry)). AllAre (SendersIn c.in_ok-complete.ensures.0) l) c.as_slice.ensures.value (c.in_ok-complete.ensures.2 c.if-not-complete.false) in
    let none : (q : ℕ) → q < clear → At doubts.items q None = subst (λ (l : List (Option Doubt)). (q : ℕ) → q < clear → At l q None) c.as_slice-3.ensures.value c.first_doubt-least.ensures.none in
    let named : clear < unshared → (why : Doubt) × At doubts.items clear (Some why) = subst (λ (l : List (Option Doubt)). clear < unshared → (why : Doubt) × At l clear (Some why)) c.as_slice-3.ensures.value c.first_doubt-least.ensures.named in
    let logs : LogsAreOf c.extend_books.new.shards.items books =
    subst (λ (y : List ShardId × List BookId). LogsAreOf y.0 y.1) (λ i. (sym c.extend_books.ensures.same i, sym c.extend_books.ensures.books i)) c.extend_books.ensures.logs in
    let kept : Settled g.K.Name.workers rights clear lists.items = settled g.K.Name.workers g.K.Name.queues c.extend_books.new.shards.items rights lists.items doubts.items clear s.2 none in
    record {
      workers_are = is;
      len = len;
      within = omega (arith, below, gathered.3, is, len);
      books = subst (λ (n : ℕ). AllAre (IsBook n) books) (sym len) all_books.are_books;
      logs = logs_hold g.K.Name.workers g.K.Name.queues c.extend_books.new.shards.items rights lists.items doubts.items clear books s.2 none logs;
      rule = subst (λ (n : ℕ). KeepRuleBelow n clear lists.items) (sym len) (λ q es lt at. (kept q es lt at).1);
      account = λ least now agree.
          accounts g.K.Name.gate g.K.Name.workers g.K.Name.queues c.args.closed.items c.args.senders.items rights books lists.items unshared clear least c.in_ok-complete.ensures.0
          len gathered.0 gathered.1 all_books there kept ids senders agree.1 now agree.0 below;
      error = λ least lt agree. (
        all_work g.K.Name.gate g.K.Name.workers g.K.Name.queues c.args.closed.items rights gathered.0 there,
        (
          fs.0,
          fs.1,
          all_senders g.K.Name.workers c.args.closed.items c.args.senders.items lists.items doubts.items books c.in_ok-complete.ensures.0 fs.0 all_books ids senders fs.2,
          first_unsettled g.K.Name.workers c.args.closed.items c.args.senders.items lists.items doubts.items books c.in_ok-complete.ensures.0 fs.0 g.K.Name.gate rights unshared clear least gathered.1 all_books fs.1 fs.2
              below none named (λ less. gathered.4 (omega (arith, less, is))) agree.0 agree.1 agree.2 lt,
        ),
      );
    }
