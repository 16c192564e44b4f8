-- Parts of a run, and the invariants of every run.
use Rattle.crawl_core.proofs.Prelude.{common_steps, Bool, true, ◌||◌, eq-eqb, ◌≡◌, ℕ, zero, suc, ◌+◌, ◌-◌, ◌<◌, List, [], ◌∷◌, ◌++◌, length, take, drop, nat_eq, replicate, slice_get, Some, refl, sym, ap, subst, ◌∙◌, arith, mul-zero, zero-add, count_by, zip, length-replicate, sum_by-cons, Event, Look, Reply, empty_subqueue, unfinished, holds, State, start, count_of, Step, turn, Run, IsRun, comes_out, comes_back, stated_count, AreOut, ReportsUnits, was_closed, ReportsClosing}
use Rattle.std.proofs.lemmas.List.Folds.{sum_by-replicate}
use Rattle.crawl_core.specs.declared.reply.Reply.TheVariants as says
use Rattle.crawl_core.proofs.Effects.{take_one_more}
use Rattle.crawl_core.proofs.RunSteps.{Run-push}
use Rattle.crawl_core.proofs.Sound.{Sound, gate_effect, or_nothing, some_is}

pub eqb_same : (n : ℕ) → nat_eq n n ≡ true
eqb_same n = eq-eqb n n refl

pub pair_is : {A B : Type 0} {p : A × B} {a : A} {b : B} → p.0 ≡ a → p.1 ≡ b → p ≡ (a, b)
pair_is e f = rw (← e, ← f) refl

pub slice_get-drop : {A : Type 0} (xs : List A) (n k : ℕ) → slice_get (drop n xs) k ≡ slice_get xs (n + k)
slice_get-drop xs zero k = rw (zero-add k) refl
slice_get-drop [] (suc n) k = refl
slice_get-drop (x ∷ xs) (suc n) k = let sum : suc n + k ≡ suc (n + k) = omega arith in slice_get-drop xs n k ∙ sym (ap (slice_get (x ∷ xs)) sum)

-- a later index of a list, counted from an earlier one
pub later_place : {A : Type 0} (xs : List A) (i j : ℕ) (x : A) → i < j → slice_get xs j ≡ Some x → slice_get (drop (suc i) xs) (j - suc i) ≡ Some x
later_place xs i j x below at = let place : suc i + (j - suc i) ≡ j = omega arith in slice_get-drop xs (suc i) (j - suc i) ∙ ap (slice_get xs) place ∙ at

-- ## Parts of a run

-- a property that each turn keeps is kept by a run
pub run_keeps : (P : State → Type 0) → ((state : State) → P state → (event : Event) → P (turn state event).state) → (old : State) (history : List (Event × Reply)) (new : State) → P old → Run old history new → P new
run_keeps P keeps old [] new holds run = subst P (sym run) holds
run_keeps P keeps old (x ∷ xs) new holds run = run_keeps P keeps run.0 xs new (subst P (sym run.1.state_is) (keeps old holds x.0)) run.2

-- the state before an event of a run, and the one after it
pub record Moment (old : State) (history : List (Event × Reply)) (place : ℕ) (x : Event × Reply) (new : State) : Type 0 where
  pub before : State
  pub after : State
  pub came : Run old (take place history) before
  pub step : Step before x.0 x.1 after
  pub goes : Run after (drop (suc place) history) new

pub run_at : (old : State) (history : List (Event × Reply)) (place : ℕ) (x : Event × Reply) (new : State) → Run old history new → slice_get history place ≡ Some x → Moment old history place x new
run_at old [] place x new run at = absurd (cc)
run_at old (y ∷ ys) zero x new run at = grind (arith, some_is)
run_at old (y ∷ ys) (suc place) x new run at = grind (arith, run_at run.0 ys place x new run.2 at)

-- a run of two parts
pub run_split : (old : State) (front back : List (Event × Reply)) (new : State) → Run old (front ++ back) new → (mid : State) × Run old front mid × Run mid back new
run_split old [] back new run = (old, refl, run)
run_split old (x ∷ xs) back new run = let rest = run_split run.0 xs back new run.2 in (rest.0, (run.0, run.1, rest.1), rest.2)

-- ## The first state, and every one

pub get-replicate : {X : Type 0} (n : ℕ) (x : X) (i : ℕ) (y : X) → slice_get (replicate n x) i ≡ Some y → y ≡ x
get-replicate zero x i y at = absurd (cc)
get-replicate (suc n) x zero y at = sym (some_is at)
get-replicate (suc n) x (suc i) y at = get-replicate n x i y at

pub start_sound : (workers max : ℕ) → Sound (start workers max)
start_sound workers max = grind (arith, get-replicate)

pub run_sound : (workers max : ℕ) (history : List (Event × Reply)) (state : State) → Run (start workers max) history state → Sound state
run_sound workers max history state run =
    run_keeps Sound (λ s sound event. (gate_effect s sound event).sound) (start workers max) history state (start_sound workers max) run

-- ## One run

same_runs : (old : State) (events : List Event) (replies others : List Reply) (new new' : State) → length replies ≡ length events → length others ≡ length events → Run old (zip events replies) new → Run old (zip events others) new' → replies ≡ others
same_runs old [] [] [] new new' n m run other = refl
same_runs old [] (r ∷ rs) others new new' n m run other = absurd (omega (arith, n))
same_runs old [] [] (r ∷ rs) new new' n m run other = absurd (omega (arith, m))
same_runs old (e ∷ es) [] others new new' n m run other = absurd (omega (arith, n))
same_runs old (e ∷ es) (r ∷ rs) [] new new' n m run other = absurd (omega (arith, m))
same_runs old (e ∷ es) (r ∷ rs) (q ∷ qs) new new' n m run other = grind (arith, same_runs run.0 es rs qs new new')

pub one_run : (workers max : ℕ) (events : List Event) (replies others : List Reply) → IsRun workers max events replies → IsRun workers max events others → replies ≡ others
one_run workers max events replies others run other = grind (arith, same_runs)

-- ## The units

pub start_count : (workers max : ℕ) → count_of (start workers max) ≡ 1
start_count workers max = rw (sum_by-replicate unfinished workers empty_subqueue, mul-zero workers) refl

-- the number of units held changes by the units that were taken and given back
run_units : (old : State) (history : List (Event × Reply)) (new : State) → Sound old → Run old history new → count_of new + count_by (λ (x : Event × Reply). comes_back x.1) history ≡ count_of old + count_by (λ (x : Event × Reply). comes_out x.1) history
run_units old [] new sound run = rw run refl
run_units old (x ∷ xs) new sound run = grind (arith, common_steps, gate_effect, sum_by-cons, run_units run.0 xs new)

pub units_out_of : (workers max : ℕ) (history : List (Event × Reply)) (state : State) → Run (start workers max) history state → AreOut (count_of state) history
units_out_of workers max history state run =
    let changes = run_units (start workers max) history state (start_sound workers max) run in
    rw (start_count workers max) at changes

pub reports_units : (workers max : ℕ) (events : List Event) (replies : List Reply) → IsRun workers max events replies → ReportsUnits (zip events replies)
reports_units workers max events replies run k count event reply at answered_is =
    let history = zip events replies in
    let moment = run_at (start workers max) history k (event, reply) run.end run.run at in
    let effect = gate_effect moment.before (run_sound workers max (take k history) moment.before moment.came) event in
    let told_here : stated_count (turn moment.before event).reply ≡ Some count = rw (← moment.step.reply_is) answered_is in
    let is_count : count_of moment.after ≡ count = rw moment.step.state_is (effect.tells count told_here) in
    let whole : Run (start workers max) (take (suc k) history) moment.after = rw (take_one_more history k (event, reply) at) (Run-push (start workers max) (take k history) moment.before (event, reply) moment.after moment.came moment.step) in
    rw (← is_count) (units_out_of workers max (take (suc k) history) moment.after whole)

-- ## Closed or not

or_three : (a b c : Bool) → ((a || b) || c) ≡ (a || (b || c))
or_three a b c = grind arith

run_closes : (old : State) (history : List (Event × Reply)) (new : State) → Sound old → Run old history new → new.gate.closed ≡ (old.gate.closed || was_closed history)
run_closes old [] new sound run = rw run (or_nothing old.gate.closed)
run_closes old (x ∷ xs) new sound run = grind (arith, gate_effect, or_three, run_closes run.0 xs new)

pub closed_of : (workers max : ℕ) (history : List (Event × Reply)) (state : State) → Run (start workers max) history state → state.gate.closed ≡ was_closed history
closed_of workers max history state run = run_closes (start workers max) history state (start_sound workers max) run

flag_of_word : {a b : ℕ} {c d : Bool} → says.Word a c ≡ says.Word b d → c ≡ d
flag_of_word e = cc

pub reports_closing : (workers max : ℕ) (events : List Event) (replies : List Reply) → IsRun workers max events replies → ReportsClosing (zip events replies)
reports_closing workers max events replies run k sender count closed at =
    let history = zip events replies in
    let moment = run_at (start workers max) history k (Look sender, says.Word count closed) run.end run.run at in
    flag_of_word moment.step.reply_is ∙ closed_of workers max (take k history) moment.before moment.came

-- ## The numbers of a frontier

pub record Shape (workers max : ℕ) (state : State) : Type 0 where
  pub sound : Sound state
  pub maximum : state.gate.max ≡ max
  pub right_length : length state.subqueues ≡ workers

pub run_shape : (workers max : ℕ) (history : List (Event × Reply)) (state : State) → Run (start workers max) history state → Shape workers max state
run_shape workers max history state run =
    run_keeps (Shape workers max) (λ s shape event. let effect = gate_effect s shape.sound event in record { sound = effect.sound; maximum = effect.max ∙ shape.maximum; right_length = effect.right_length ∙ shape.right_length }) (start workers max) history state (record { sound = start_sound workers max; maximum = refl; right_length = length-replicate workers empty_subqueue }) run

-- ## A run for all events

record Replied (old : State) (events : List Event) : Type 0 where
  pub replies : List Reply
  pub right_length : length replies ≡ length events
  pub end : State
  pub run : Run old (zip events replies) end

replied : (old : State) (events : List Event) → Replied old events
replied old [] = record { replies = []; right_length = refl; end = old; run = refl }
replied old (e ∷ es) =
    let rest = replied (turn old e).state es in
    record {
      replies = (turn old e).reply ∷ rest.replies;
      right_length = ap suc rest.right_length;
      end = rest.end;
      run = ((turn old e).state, record { reply_is = refl; state_is = refl }, rest.run);
    }

pub some_run : (workers max : ℕ) (events : List Event) → (replies : List Reply) × IsRun workers max events replies
some_run workers max events =
    let all = replied (start workers max) events in
    (all.replies, record { right_length = all.right_length; end = all.end; run = all.run })
