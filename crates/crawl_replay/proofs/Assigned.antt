-- The subqueue that the admission at an index names.
use Rattle.crawl_replay.proofs.Prelude.{◌≡◌, ℕ, zero, suc, List, [], ◌∷◌, slice_get, Some, subst, AllByRecursion, recursion_from_All, Event, IsPlaced, IsAssigned}

pub all_at : {X : Type 0} (P : X → Type 0) (xs : List X) (i : ℕ) (x : X) → AllByRecursion P xs → slice_get xs i ≡ Some x → P x
all_at P [] i x all at = absurd (cc)
all_at P (y ∷ ys) zero x all at = let same : y ≡ x = cc in subst P same all.0
all_at P (y ∷ ys) (suc i) x all at = all_at P ys i x all.1 at

pub placed_at : (workers : ℕ) (events : List Event) (place : ℕ) (event : Event) → IsAssigned workers events → slice_get events place ≡ Some event → IsPlaced workers event
placed_at workers events place event assigned at = all_at (IsPlaced workers) events place event (recursion_from_All (IsPlaced workers) events assigned) at
