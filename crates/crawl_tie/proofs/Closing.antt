-- A history from the step that closes the gate.
use Rattle.crawl_tie.proofs.Prelude.{◌≡◌, ℕ, ◌<◌, true, List, [], ◌∷◌, ◌++◌, length, map, Option, None, refl, sym, ap, ◌∙◌, subst, arith, append_assoc, filter_map, list_all, append-nil, filter_map-append, Event, Close, Reply, one_if, State, start, count_of, Run, Sound, gate_effect, closed_means_finished, bits, closed_at, IsMaximum, GateId, Entry, Message, plain, Whole, IsFirst, Act, Atomic, History, events_of, events, ShowsWhole, pushed_to, popped_from, fetched_at, accepted, delivered, fetches_done, is_closing, is_quiet, Delivers, Finished}
use Rattle.crawl_core.specs.declared.reply.Reply.TheVariants as says
use Rattle.crawl_core.specs.History as cores
use Rattle.crawl_core.specs.Invariants as finish
use Rattle.crawl_tie.proofs.Lanes.{all_taken, lists_split}
use Rattle.crawl_tie.proofs.Steps.{Ties, met, step, runs, first_ties}
use Rattle.crawl_tie.proofs.Lists.{Reached, reached_first, reached_all, delivers, some_there}

-- a machine has one run
pub run_same : (a b c : State) (xs : List (Event × Reply)) → Run a xs b → Run a xs c → b ≡ c
run_same a b c [] first second = first ∙ sym second
run_same a b c (x ∷ xs) first second = grind (arith, run_same second.0 b c xs)

events_append : (xs ys : List Act) → events (xs ++ ys) ≡ events xs ++ events ys
events_append [] ys = refl
events_append (x ∷ xs) ys = ap (λ es. events_of x ++ es) (events_append xs ys) ∙ sym (append_assoc (events_of x) (events xs) (events ys))

-- the last step of a history
last_step : (w v : Whole) (xs : List Act) (act : Act) → History w (xs ++ act ∷ []) v → (u : Whole) × History w xs u × Atomic u act v
last_step w v [] act h = (w, refl, subst (λ z. Atomic w act z) (sym h.2) h.1)
last_step w v (x ∷ xs) act h = let rest = last_step h.0 v xs act h.2 in (rest.0, (h.0, h.1, rest.1), rest.2)

-- what the two closing steps have in common
pub record Ends (act : Act) : Type 0 where
  pub event : events_of act ≡ (Close, says.Closed) ∷ []
  pub pushed : (q : ℕ) → pushed_to q act ≡ None
  pub popped : (q : ℕ) → popped_from q act ≡ None
  pub finished : (q : ℕ) → fetched_at q act ≡ None
  pub word : (w v : Whole) → Atomic w act v → v.gate.words ≡ bits (closed_at 0) ∷ []

ends : (act : Act) → is_closing act ≡ true → Ends act
ends act e = grind arith

unchanged : {B : Type 0} (h : Act → Option B) (xs : List Act) (act : Act) → h act ≡ None → filter_map h (xs ++ act ∷ []) ≡ filter_map h xs
unchanged h xs act none = filter_map-append h xs (act ∷ []) ∙ rw none (append-nil (filter_map h xs))

-- ## After the closing step

abbrev AllQuiet : List (Event × Reply) → Type 0
AllQuiet es = list_all (λ x. cores.is_quiet x.1) es ≡ true

quiet_run : (s t : State) (es : List (Event × Reply)) → Sound s → s.gate.closed ≡ true → Run s es t → AllQuiet es × (t.gate.closed ≡ true)
quiet_run s t [] sound closed run = (refl, ap (λ (z : State). z.gate.closed) run ∙ closed)
quiet_run s t (x ∷ xs) sound closed run = grind (arith, gate_effect, quiet_run run.0 t xs)

act_quiet : (act : Act) → AllQuiet (events_of act) → is_quiet act ≡ true
act_quiet act e = grind arith

quiet_history : (gate : GateId) (workers : ℕ) (w v : Whole) (s : State) (acts : List Act) → Ties gate workers w s → s.gate.closed ≡ true → History w acts v → list_all is_quiet acts ≡ true
quiet_history gate workers w v s [] ties closed h = refl
quiet_history gate workers w v s (act ∷ acts) ties closed h =
    let n = step gate workers w h.0 s ties act h.1 in
    let q = quiet_run s n.state (events_of act) ties.sound closed n.run in
    rw (act_quiet act q.0) (quiet_history gate workers h.0 v n.state acts n.ties q.1 h.2)

-- ## At the closing step

pub at_closing : (gate : GateId) (workers : ℕ) (first mid last : Whole) (before later : List Act) (act : Act) → IsMaximum gate.max_pending → IsFirst gate workers first → History first (before ++ act ∷ []) mid → is_closing act ≡ true → History mid later last → Finished workers before mid × (list_all is_quiet later ≡ true)
at_closing gate workers first mid last before later act fits is_first h is_closing_act rest =
    let max = gate.max_pending in
    let c = ends act is_closing_act in
    let n = runs gate workers (before ++ act ∷ []) first mid (start workers max) (first_ties gate workers first fits is_first) h in
    let es : events (before ++ act ∷ []) ≡ events before ++ (Close, says.Closed) ∷ [] = events_append before (act ∷ []) ∙ ap (λ ys. events before ++ ys) (append-nil (events_of act) ∙ c.event) in
    let run : Run (start workers max) (events before ++ (Close, says.Closed) ∷ []) n.state = subst (λ ys. Run (start workers max) ys n.state) es n.run in
    let done = closed_means_finished workers max (events before) [] Close n.state run in
    let finished : finish.IsFinished n.state = subst finish.IsFinished (run_same (start workers max) done.0 n.state (events before ++ (Close, says.Closed) ∷ []) done.1 run) done.2 in
    let shows = n.ties.shows in
    let end = last_step first mid before act h in
    let word = c.word end.0 mid end.2 in
    let is : closed_at 0 ≡ (count_of n.state, n.state.gate.closed) = met gate workers mid n.state n.ties (closed_at 0) word (omega arith) in
    let closed : n.state.gate.closed ≡ true = sym (ap (λ y. y.1) is) in
    let r = reached_all gate workers first mid [] (before ++ act ∷ []) (reached_first gate workers first is_first) h in (
      record {
        nobody = sym shows.holders ∙ finished.nobody;
        seeded = sym shows.opening ∙ finished.opened;
        drained = λ q lt. (all_done gate workers mid n.state before act c shows finished r q lt).0;
        fetched = λ q lt. (all_done gate workers mid n.state before act c shows finished r q lt).1;
      },
      quiet_history gate workers mid last n.state later n.ties closed rest,
    )
  where
    all_done : (gate : GateId) (workers : ℕ) (mid : Whole) (s : State) (before : List Act) (act : Act) → Ends act → ShowsWhole gate workers s mid → finish.IsFinished s → Reached gate workers mid (before ++ act ∷ []) → (q : ℕ) → q < workers → (delivered q before ≡ accepted q before) × (fetches_done q before ≡ length (delivered q before))
    all_done gate workers mid s before act c shows finished r q lt =
        let l = some_there mid.lanes q (rw r.len lt) in
        let queue = shows.lanes q l.0 l.1 in
        let idle = finished.done q queue.0 queue.1 in
        let lane = r.all q l.0 l.1 in
        let empty : l.0.moment.items ≡ [] = all_taken gate workers q queue.0 l.0 queue.2 idle.0 in
        let pushed = unchanged (pushed_to q) before act (c.pushed q) in
        let popped = unchanged (popped_from q) before act (c.popped q) in
        let ended = unchanged (fetched_at q) before act (c.finished q) in
        let same : accepted q (before ++ act ∷ []) ≡ delivered q (before ++ act ∷ []) =
        lists_split gate workers q l.0.moment (accepted q (before ++ act ∷ [])) (delivered q (before ++ act ∷ [])) lane.has ∙ (ap (λ (ms : List Message). delivered q (before ++ act ∷ []) ++ map plain ms) empty ∙ append-nil (delivered q (before ++ act ∷ []))) in
        let all : delivered q before ≡ accepted q before = sym popped ∙ (sym same ∙ pushed) in
        let none : one_if l.0.fetching ≡ 0 = ap one_if (sym queue.2.busy ∙ idle.1) in
        let fetches = lane.fetches in
        let taken_len : length (delivered q (before ++ act ∷ [])) ≡ length (delivered q before) = ap (λ (xs : List Entry). length xs) popped in
        let ended_len : fetches_done q (before ++ act ∷ []) ≡ fetches_done q before = ap (λ (xs : List ℕ). length xs) ended in
        (all, omega (arith, none, fetches, taken_len, ended_len))

pub all_delivered : (gate : GateId) (workers : ℕ) (first last : Whole) (acts : List Act) → IsMaximum gate.max_pending → IsFirst gate workers first → History first acts last → Delivers workers acts
all_delivered gate workers first last acts fits is_first h = delivers gate workers last acts (reached_all gate workers first last [] acts (reached_first gate workers first is_first) h)
