-- What the machine's invariants mean for what a state represents, and the rows of the table.
use Rattle.crawl_tie.proofs.Prelude.{◌≡◌, ℕ, zero, suc, ◌<◌, Bool, true, false, ◌||◌, List, [], ◌∷◌, ◌++◌, take, drop, map, slice_get, Some, refl, sym, ap, ◌∙◌, subst, arith, true≢false, append_assoc, bytes_eq, option_map, append-nil, Subqueue, State, start, count_of, Run, slice_get-map, slice_get-take, Event, Reply, run_sound, gate_invariant, Moment, GateInvariant, IsMaximum, GateId, Entry, Message, MayFollow, KeepsRule, has_url, Whole, Act, Atomic, UnitsAreOwned, events_of, message_of, ShowsWhole, ShowsGate, ShowsLists, IsPlaced, CountsUnits, ListsKeep}
use Rattle.std.proofs.lemmas.Slice.Eq.{bytes_eq-Decides}
use Rattle.crawl_core.specs.Messages.{count_from}
use Rattle.crawl_core.specs.Invariants as machine
use Rattle.crawl_tie.proofs.Lanes.{same_counts}
use Rattle.crawl_tie.proofs.Steps.{Ties, step}
use Rattle.crawl_tie.proofs.Closing.{run_same}

pub counts_units : (state : State) (gate : Moment) → machine.GateInvariant state.gate (count_of state) → ShowsGate state gate → CountsUnits state.gate.max gate
counts_units state gate inv shows = grind arith

-- the k-th entry may come after those before it
rule_from : (n q : ℕ) (before es : List Entry) → ((k : ℕ) (e : Entry) → slice_get es k ≡ Some e → MayFollow n q (before ++ take k es) e) → KeepsRule n q before es
rule_from n q before [] f = tt
rule_from n q before (x ∷ xs) f = (
  subst (λ b. MayFollow n q b x) (append-nil before) (f 0 x refl),
  rule_from n q (before ++ x ∷ []) xs (λ k e at. subst (λ b. MayFollow n q b e) (sym (append_assoc before (x ∷ []) (take k xs))) (f (suc k) e at)),
)

record Found (url : List ℕ) (es : List Entry) : Type 0 where
  pub index : ℕ
  pub item : Entry
  pub at : slice_get es index ≡ Some item
  pub same : item.url ≡ url

found : (url : List ℕ) (es : List Entry) → has_url url es ≡ true → Found url es
found url [] e = absurd (true≢false (sym e))
found url (x ∷ xs) e = by_first (bytes_eq x.url url) refl e (λ rest. found url xs rest)
  where
    by_first : (b : Bool) → bytes_eq x.url url ≡ b → (b || has_url url xs) ≡ true → (has_url url xs ≡ true → Found url xs) → Found url (x ∷ xs)
    by_first true is e later = record { index = 0; item = x; at = refl; same = (bytes_eq-Decides x.url url).0 is }
    by_first false is e later = let f = later e in record { index = suc f.index; item = f.item; at = f.at; same = f.same }

below_take : {X : Type 0} (xs : List X) (n i : ℕ) (x : X) → slice_get (take n xs) i ≡ Some x → i < n
below_take [] zero i x at = absurd (cc (at))
below_take [] (suc n) i x at = absurd (cc (at))
below_take (z ∷ zs) zero i x at = absurd (cc (at))
below_take (z ∷ zs) (suc n) zero x at = omega arith
below_take (z ∷ zs) (suc n) (suc i) x at = let below = below_take zs n i x at in omega (arith, below)

take_map : {X Y : Type 0} (f : X → Y) (n : ℕ) (xs : List X) → map f (take n xs) ≡ take n (map f xs)
take_map f zero [] = refl
take_map f zero (x ∷ xs) = refl
take_map f (suc n) [] = refl
take_map f (suc n) (x ∷ xs) = ap (λ ys. f x ∷ ys) (take_map f n xs)

take_drop : {X : Type 0} (n : ℕ) (xs : List X) → xs ≡ take n xs ++ drop n xs
take_drop zero [] = refl
take_drop zero (x ∷ xs) = refl
take_drop (suc n) [] = refl
take_drop (suc n) (x ∷ xs) = ap (λ ys. x ∷ ys) (take_drop n xs)

pub lists_keep : (workers q : ℕ) (queue : Subqueue) (sent taken : List Entry) (waits : List Message) → machine.SubqueueInvariant queue → IsPlaced workers q queue → ShowsLists queue sent taken waits → ListsKeep workers q sent taken waits
lists_keep workers q queue sent taken waits inv placed shows = record {
  split = shows.sends ∙ (take_drop queue.taken queue.accepted ∙ rw (shows.takes, shows.leaves) refl);
  rule = rule_from workers q [] sent (λ k e at. record {
    new = by_test k e at (has_url e.url (take k sent)) refl;
    here = placed k (message_of e) (there k e at);
    number = inv.numbered k (message_of e) (there k e at) ∙ (ap (λ ms. count_from (take k ms) e.sender) (sym shows.sends) ∙ (ap (λ ms. count_from ms e.sender) (sym (take_map message_of k sent)) ∙ same_counts (take k sent) e.sender));
  });
}
  where
    there : (k : ℕ) (e : Entry) → slice_get sent k ≡ Some e → slice_get queue.accepted k ≡ Some (message_of e)
    there k e at = ap (λ ms. slice_get ms k) (sym shows.sends) ∙ (slice_get-map message_of sent k ∙ ap (option_map message_of) at)

    twice : (k : ℕ) (e : Entry) → slice_get sent k ≡ Some e → Found e.url (take k sent) → ⊥
    twice k e at f =
        let below = below_take sent k f.index f.item f.at in
        let first = slice_get-take sent k f.index f.item f.at in
        let same = inv.distinct f.index k (message_of f.item) (message_of e) (there f.index f.item first) (there k e at) f.same in
        omega (arith, below, same)

    by_test : (k : ℕ) (e : Entry) → slice_get sent k ≡ Some e → (b : Bool) → has_url e.url (take k sent) ≡ b → b ≡ false
    by_test k e at true is = absurd (twice k e at (found e.url (take k sent) is))
    by_test k e at false is = refl

pub row : (gate : GateId) (workers : ℕ) (history : List (Event × Reply)) (state : State) (w v : Whole) (act : Act) → IsMaximum gate.max_pending → w.max ≡ gate.max_pending → GateInvariant gate.max_pending w.gate → UnitsAreOwned w
    → Run (start workers gate.max_pending) history state → ShowsWhole gate workers state w → Atomic w act v
    → (next : State) × Run state (events_of act) next × ShowsWhole gate workers next v × ((other : State) → Run state (events_of act) other → other ≡ next)
row gate workers history state w v act fits max keeps owned came shows a =
    let ties : Ties gate workers w state = record {
      shows = shows;
      owned = owned;
      keeps = keeps;
      sound = run_sound workers gate.max_pending history state came;
      within = (gate_invariant workers gate.max_pending history state (omega (arith, fits.0)) came).within;
      max = max;
      fits = fits;
    } in
    let n = step gate workers w v state ties act a in
    (n.state, n.run, n.ties.shows, λ other run. run_same state other n.state (events_of act) run n.run)
