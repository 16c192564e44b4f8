-- The lines of a log stay true while more becomes known of the lists, and at the end.
use Rattle.crawl_frontier.proofs.Prelude.{◌≡◌, ℕ, zero, suc, Bool, true, List, [], ◌∷◌, map, set, Some, refl, sym, ap, ◌∙◌, subst, arith, if◌then◌else◌, Entry, LogLine, Accepted, Seen, QueueId, has_url, Stays, KnownList, items_of, lists_of, says, line_of, log_of, AreThere, AllStay, ListsAre, AreKnown, queue_of, ShardId, At, HoldsIn, AreRaised, IsHome, AreTrueOf, LogIsOf, entry_there, log_stays, there_stays}
use Rattle.std.proofs.lemmas.Slice.Eq.{bytes_eq-Decides}
use mathlib.Core.Logic.{dite}
use native.Mathlib.Decide.{ℕ_discrete}
use Rattle.crawl_frontier.proofs.Gets.{get_set_same, get_set_other, get_len_set, get_within, has_at, same_at}

pub at_map : {X Y : Type 0} (f : X → Y) (xs : List X) (k : ℕ) (x : X) → At xs k x → At (map f xs) k (f x)
at_map f [] k x e = absurd (cc (e))
at_map f (y ∷ ys) zero x e = let same : y ≡ x = cc in ap (λ z. Some (f z)) same
at_map f (y ∷ ys) (suc k) x e = at_map f ys k x e

of_map : {X Y : Type 0} (f : X → Y) (xs : List X) (k : ℕ) (y : Y) → At (map f xs) k y → (x : X) × At xs k x × (f x ≡ y)
of_map f [] k y e = absurd (cc (e))
of_map f (x ∷ xs) zero y e = (x, refl, cc)
of_map f (x ∷ xs) (suc k) y e = of_map f xs k y e

-- ---- more becomes known of the lists

pub raised_on : (start before after : List KnownList) → AreRaised start before → AreRaised before after → AreRaised start after
raised_on start before after r s = grind arith

-- for one queue
pub raised_at : (learned : List KnownList) (q : ℕ) (t u : KnownList) → At learned q t → u.list ≡ t.list → Stays t.items u.items → AreRaised learned (set learned q u)
raised_at learned q t u at list stay = (
  get_len_set learned q u,
  λ p v here.
      dite (ℕ_discrete p q)
      (λ same.
      let is : v ≡ t = same_at learned q v t (subst (λ (k : ℕ). At learned k v) same here) at in (
        u,
        subst (λ (k : ℕ). At (set learned q u) k u) (sym same) (get_set_same learned q u t at),
        list ∙ ap (λ (x : KnownList). x.list) (sym is),
        subst (λ (x : KnownList). Stays x.items u.items) (sym is) stay,
      ))
      (λ other. (v, get_set_other learned q p u other ∙ here, refl, λ k x e. e)),
)

all_stay : (before after : List KnownList) → AreRaised before after → AllStay (lists_of before) (lists_of after)
all_stay before after r q es at =
    let t = of_map items_of before q es at in
    let u = r.1 q t.0 t.1 in
    (u.0.items, at_map items_of after q u.0 u.1, subst (λ (l : List Entry). Stays l u.0.items) t.2 u.3)

-- the lines keep their meaning
pub raised_log : (before after : List KnownList) (ls : List LogLine) → AreRaised before after → AreThere (lists_of before) ls → log_of (lists_of after) ls ≡ log_of (lists_of before) ls
raised_log before after ls r there = log_stays (lists_of before) (lists_of after) ls (all_stay before after r) there

-- likewise for the same lists
pub raised_lists : (queues : List QueueId) (before after : List KnownList) → AreRaised before after → ListsAre queues before → ListsAre queues after
raised_lists queues before after r are q s v there at =
    let lt = get_within after q v at in
    let t = has_at before q (omega (arith, lt, r.0)) in
    let u = r.1 q t.0 t.1 in
    let same : u.0 ≡ v = same_at after q u.0 v u.1 at in
    ap (λ (x : KnownList). x.list) (sym same) ∙ (u.2 ∙ are q s t.0 there t.1)

pub raised_known : (queues : List QueueId) (workers : ℕ) (before after : List KnownList) (ls : List LogLine) → AreRaised before after → AreKnown queues workers before ls → AreKnown queues workers after ls
raised_known queues workers before after ls r known = grind (arith, raised_lists, there_stays, all_stay)

-- ---- what is known is true of the shards

pub has_url_at : (es : List Entry) (k : ℕ) (e : Entry) → At es k e → has_url e.url es ≡ true
has_url_at [] k e at = absurd (cc (at))
has_url_at (x ∷ xs) zero e at = grind (arith, bytes_eq-Decides)
has_url_at (x ∷ xs) (suc k) e at = grind (arith, has_url_at xs k e at)

holds_says : (b : Bool) (es : List Entry) (i : ℕ) (e : Entry) (q : ℕ) → At es i e → HoldsIn es (if b then Accepted e q else Seen e.url q)
holds_says b es i e q at = grind (arith, has_url_at)

queue_says : (b : Bool) (e : Entry) (q : ℕ) → queue_of (if b then Accepted e q else Seen e.url q) ≡ q
queue_says b e q = grind arith

pub lines_are_of : (shards : List ShardId) (learned : List KnownList) (ls : List LogLine) → AreTrueOf shards learned → AreThere (lists_of learned) ls → LogIsOf shards (log_of (lists_of learned) ls)
lines_are_of shards learned [] of there k l s at home = absurd (cc (at))
lines_are_of shards learned (x ∷ xs) of there zero l s at home =
    let is : line_of (lists_of learned) x ≡ l = cc in
    let e = there.0.0 in
    let has = there.0.1 in
    let said : says x e ≡ l = sym (ap (says x) (entry_there (lists_of learned) x.queue x.index e has)) ∙ is in
    let queue : queue_of l ≡ x.queue = sym (ap queue_of said) ∙ queue_says x.accepted e x.queue in
    let t = of_map items_of learned x.queue has.0 has.1 in
    let here : IsHome shards x.queue s = subst (λ (q : ℕ). IsHome shards q s) queue home in
    let stays : Stays t.0.items s.sent = of x.queue s t.0 here t.1 in
    let there_still : At s.sent x.index e = stays x.index e (subst (λ (es : List Entry). At es x.index e) (sym t.2) has.2) in
    subst (HoldsIn s.sent) said (holds_says x.accepted s.sent x.index e x.queue there_still)
lines_are_of shards learned (x ∷ xs) of there (suc k) l s at home = lines_are_of shards learned xs of there.1 k l s at home
