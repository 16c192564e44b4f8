-- How a run continues.
use Rattle.crawl_core.proofs.Prelude.{◌≡◌, ℕ, List, [], ◌∷◌, ◌++◌, length, refl, ap, arith, zip, length_push, Event, Reply, State, start, Step, Run, Kept, Shows, Makes}

-- a new frontier had these replies to these events, and this is kept after them
pub record RunTo (workers max : ℕ) (events : List Event) (replies : List Reply) (kept : Kept) : Type 0 where
  pub right_length : length replies ≡ length events
  pub state : State
  pub run : Run (start workers max) (zip events replies) state
  pub shown : Shows kept state

pub zip_push : {A B : Type 0} (xs : List A) (ys : List B) (x : A) (y : B) → length ys ≡ length xs → zip (xs ++ x ∷ []) (ys ++ y ∷ []) ≡ zip xs ys ++ (x, y) ∷ []
zip_push [] [] x y e = refl
zip_push [] (b ∷ ys) x y e = absurd (omega (arith, e))
zip_push (a ∷ xs) [] x y e = absurd (omega (arith, e))
zip_push (a ∷ xs) (b ∷ ys) x y e = ap (λ zs. (a, b) ∷ zs) (zip_push xs ys x y (omega (arith, e)))

-- a run continues by one step
pub Run-push : (old : State) (xs : List (Event × Reply)) (mid : State) (x : Event × Reply) (new : State) → Run old xs mid → Step mid x.0 x.1 new → Run old (xs ++ x ∷ []) new
Run-push old [] mid x new run step = (new, rw (← run) step, refl)
Run-push old (first ∷ xs) mid x new run step = (run.0, run.1, Run-push run.0 xs mid x new run.2 step)

pub run_more : (workers max : ℕ) (events : List Event) (replies : List Reply) (old new : Kept) (event : Event) (reply : Reply) → RunTo workers max events replies old → Makes old event reply new → RunTo workers max (events ++ event ∷ []) (replies ++ reply ∷ []) new
run_more workers max events replies old new event reply to makes = grind (arith, length_push, zip_push, Run-push)
