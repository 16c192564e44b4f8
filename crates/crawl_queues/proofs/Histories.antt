-- The laws of a subqueue.
use Rattle.crawl_queues.proofs.Prelude.{common_steps, ◌≡◌, ◌≢◌, ℕ, zero, suc, ◌<◌, true, List, [], ◌∷◌, ◌++◌, take, set, Some, slice_get, refl, ap, arith, true≢false, length, sym, ◌∙◌, subst, ⊎_elim, append_assoc, append-nil, get_elem?, Entry, PassView, MayFollow, KeepsRule, has_url, SubqueueInvariant, pushing, popping, undivided, reunited, plain, Message}
use Rattle.std.proofs.lemmas.Bool.{cases_order}
use Rattle.std.proofs.lemmas.Slice.Eq.{bytes_eq-Decides}
use Rattle.crawl_queues.specs.History.{IsAcceptedList, Moment, SubqueueStep, ListsMove, settles, divides, IsHistory, first_moment, AllKept, pushes, pops, finds_nothing, takes_in}
use Rattle.crawl_queues.proofs.Entries.{rule-numbered}
use Rattle.crawl_queues.proofs.Passing as pass

-- the k-th entry may come after those before it
rule-get : (n q : ℕ) (before es : List Entry) (k : ℕ) (e : Entry) → KeepsRule n q before es → slice_get es k ≡ Some e → MayFollow n q (before ++ take k es) e
rule-get n q before [] k e rule at = absurd (cc (at))
rule-get n q before (x ∷ xs) zero e rule at =
    let same : x ≡ e = cc in
    subst (λ z. MayFollow n q (before ++ []) z) same (subst (λ b. MayFollow n q b x) (sym (append-nil before)) rule.0)
rule-get n q before (x ∷ xs) (suc k) e rule at =
    subst (λ b. MayFollow n q b e) (append_assoc before (x ∷ []) (take k xs)) (rule-get n q (before ++ x ∷ []) xs k e rule.1 at)

-- an entry's URL is in the list
has_url-get : (es : List Entry) (j k : ℕ) (a : Entry) → j < k → slice_get es j ≡ Some a → has_url a.url (take k es) ≡ true
has_url-get [] j k a lt at = absurd (cc (at))
has_url-get (x ∷ xs) j zero a lt at = absurd (omega arith)
has_url-get (x ∷ xs) zero (suc k) a lt at = grind (arith, common_steps, bytes_eq-Decides)
has_url-get (x ∷ xs) (suc j) (suc k) a lt at = grind (arith, common_steps, has_url-get xs j k a)

pub accepted_lists : (workers q : ℕ) (es : List Entry) → KeepsRule workers q [] es → IsAcceptedList workers q es
accepted_lists workers q es rule = record {
  differ = λ j k a b at there same. ⊎_elim (λ e. e) (λ o. ⊎_elim (λ lt. absurd (twice j k a b lt at there same)) (λ lt. absurd (twice k j b a lt there at (sym same))) o) (cases_order j k);
  belong = λ k e at. (rule-get workers q [] es k e rule at).here;
  numbered = λ id. rule-numbered workers q id [] es rule;
}
  where
    twice : (j k : ℕ) (a b : Entry) → j < k → slice_get es j ≡ Some a → slice_get es k ≡ Some b → a.url ≡ b.url → ⊥
    twice j k a b lt at there same = true≢false (sym (has_url-get es j k a lt at) ∙ (ap (λ u. has_url u (take k es)) same ∙ (rule-get workers q [] es k b rule there).new))

set_apart : (views : List PassView) (i j : ℕ) (w : PassView) → j ≢ i → get_elem? (set views i w) j ≡ get_elem? views j
set_apart [] i j w ne = refl
set_apart (z ∷ zs) zero zero w ne = absurd (ne refl)
set_apart (z ∷ zs) zero (suc j) w ne = refl
set_apart (z ∷ zs) (suc i) zero w ne = refl
set_apart (z ∷ zs) (suc i) (suc j) w ne = set_apart zs i j w (λ e. ne (ap suc e))

abbrev After : List Entry → List Entry → Moment → Type 0
After sent taken m = (k : SubqueueInvariant m.items m.views) × ((k.sent ≡ sent) × (k.taken ≡ taken))

-- each kind of step keeps the invariant, and changes the lists as it should
pub step_moves : (m m' : Moment) (k : SubqueueInvariant m.items m.views) (step : SubqueueStep m m') → (k' : SubqueueInvariant m'.items m'.views) × ListsMove step k.sent k.taken k'.sent k'.taken
unfolding pass.settles pass.divides pass.sends pass.takes pass.counts pass.unites
step_moves m m' k (settles p h old at is) =
    let mine = k.passes p (undivided old) at in
    subst (After k.sent k.taken) (sym is) (pass.settles p (undivided old) h refl m.items m.views k at, ((mine.sends refl).1, (mine.takes refl).1))
step_moves m m' k (divides p h at is) = subst (After k.sent k.taken) (sym is) (pass.divides p (undivided h) refl m.items m.views k at, (refl, refl))
step_moves m m' k (pushes p h sent x at unit may is) =
    subst (After (k.sent ++ plain x ∷ []) k.taken) (sym is) ((pass.sends (suc (length m.items)) p (pushing h sent) x refl unit may m.items m.views (omega arith) k at).1, (refl, refl))
step_moves m m' k (pops p h taken n x rest at items is) =
    subst (λ (l : List Message). (k : SubqueueInvariant l m.views) → After k.sent (k.taken ++ plain x ∷ []) m') (sym items)
    (λ k. subst (After k.sent (k.taken ++ plain x ∷ [])) (sym is) ((pass.takes p (popping h taken n) refl x rest m.views k at).1, (refl, refl))) k
step_moves m m' k (finds_nothing p h taken n at is) = subst (After k.sent k.taken) (sym is) (pass.counts p (popping h taken n) refl m.items m.views k at, (refl, refl))
step_moves m m' k (takes_in p h sent q home taken n apart at there is) =
    subst (After k.sent k.taken) (sym is)
    (pass.unites p (pushing h sent) q (popping home taken n) refl refl m.items m.views k at (λ e. apart (sym e)) (set_apart m.views p q (reunited (pushing h sent) (popping home taken n)) (λ e. apart (sym e)) ∙ there), (refl, refl))

pub kept_step : (m m' : Moment) → SubqueueInvariant m.items m.views → SubqueueStep m m' → SubqueueInvariant m'.items m'.views
kept_step m m' k step = (step_moves m m' k step).0

all_kept : (m : Moment) (later : List Moment) → SubqueueInvariant m.items m.views → IsHistory m later → AllKept later
all_kept m [] k h = tt
all_kept m (next ∷ later) k h = let now = kept_step m next k h.0 in (now, all_kept next later now h.1)

pub invariant_in_histories : (later : List Moment) → IsHistory first_moment later → AllKept (first_moment ∷ later)
invariant_in_histories later h = (pass.begins, all_kept first_moment later pass.begins h)
