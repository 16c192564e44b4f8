-- Workers and their ends, in order, and workers in turn.
use Rattle.crawl_workers.proofs.Prelude.{◌≡◌, ℕ, zero, suc, ◌+◌, ◌<◌, Bool, List, [], ◌∷◌, ◌++◌, length, Some, refl, ap, subst, ◌∙◌, arith, slice_get, slice_set, slice_index_or, take, length_push, AllZip, Page, WorkerId, get_before, get_last, RanTo, AllRan, AllGo, RunnerRan, IsEnded, EndedBelow}
use Rattle.std.proofs.Math.Seq.{take-append_seam}
use Rattle.crawl_workers.specs.declared.worker_end.WorkerEnd.{WorkerEnd}
use Rattle.crawl_workers.specs.declared.turns.Runner.{Runner}
use Rattle.crawl_workers.specs.declared.turns.Runner.TheVariants.{Ended}

all_zip_push : {A B : Type 0} (R : A → B → Type 0) (xs : List A) (ys : List B) (x : A) (y : B) → AllZip R xs ys → R x y → AllZip R (xs ++ x ∷ []) (ys ++ y ∷ [])
all_zip_push R [] [] x y all last = (last, tt)
all_zip_push R [] (b ∷ ys) x y all last = absurd all
all_zip_push R (a ∷ xs) [] x y all last = absurd all
all_zip_push R (a ∷ xs) (b ∷ ys) x y all last = (all.0, all_zip_push R xs ys x y all.1 last)

all_zip_length : {A B : Type 0} (R : A → B → Type 0) (xs : List A) (ys : List B) → AllZip R xs ys → length ys ≡ length xs
all_zip_length R [] [] all = refl
all_zip_length R [] (b ∷ ys) all = absurd all
all_zip_length R (a ∷ xs) [] all = absurd all
all_zip_length R (a ∷ xs) (b ∷ ys) all = ap (λ n. suc n) (all_zip_length R xs ys all.1)

-- the ends of all workers but the last, and that of the last
pub all_ran_push : {K : _} (workers : ℕ) (allowed : List ℕ → Bool) (meaning : List ℕ → Page) (starts : List WorkerId) (ends : List (WorkerEnd K)) (w : WorkerId) (e : WorkerEnd K)
    → AllRan workers allowed meaning starts ends → RanTo workers allowed meaning w e → AllRan workers allowed meaning (starts ++ w ∷ []) (ends ++ e ∷ [])
all_ran_push {K} workers allowed meaning starts ends w e all ran = grind (arith, all_zip_push)

pub all_ran_length : {K : _} (workers : ℕ) (allowed : List ℕ → Bool) (meaning : List ℕ → Page) (starts : List WorkerId) (ends : List (WorkerEnd K)) → AllRan workers allowed meaning starts ends → length ends ≡ length starts
all_ran_length {K} workers allowed meaning starts ends all = grind (arith, all_zip_length)

-- an element is overwritten
all_zip_set : {A B : Type 0} (R : A → B → Type 0) (xs : List A) (ys : List B) (i : ℕ) (y y' : B) → slice_get ys i ≡ Some y → ((x : A) → R x y → R x y') → AllZip R xs ys → AllZip R xs (slice_set ys i y')
all_zip_set R [] [] i y y' at goes all = absurd (cc)
all_zip_set R [] (b ∷ ys) i y y' at goes all = absurd all
all_zip_set R (a ∷ xs) [] i y y' at goes all = absurd all
all_zip_set R (a ∷ xs) (b ∷ ys) zero y y' at goes all = let same : b ≡ y = cc in (goes a (rw (← same) all.0), all.1)
all_zip_set R (a ∷ xs) (b ∷ ys) (suc i) y y' at goes all = (all.0, all_zip_set R xs ys i y y' at goes all.1)

all_zip_at : {A B : Type 0} (R : A → B → Type 0) (xs : List A) (ys : List B) (i : ℕ) (y : B) → slice_get ys i ≡ Some y → AllZip R xs ys → (x : A) × R x y
all_zip_at R [] [] i y at all = absurd (cc)
all_zip_at R [] (b ∷ ys) i y at all = absurd all
all_zip_at R (a ∷ xs) [] i y at all = absurd all
all_zip_at R (a ∷ xs) (b ∷ ys) zero y at all = let same : b ≡ y = cc in (a, rw (← same) all.0)
all_zip_at R (a ∷ xs) (b ∷ ys) (suc i) y at all = all_zip_at R xs ys i y at all.1

-- all but the last, and the last
record Unsnoc {A B : Type 0} (R : A → B → Type 0) (xs : List A) (ys : List B) (y : B) : Type 0 where
  pub front : List A
  pub last : A
  pub is : xs ≡ front ++ last ∷ []
  pub all : AllZip R front ys
  pub ran : R last y

all_zip_unsnoc : {A B : Type 0} (R : A → B → Type 0) (xs : List A) (ys : List B) (y : B) → AllZip R xs (ys ++ y ∷ []) → Unsnoc R xs ys y
all_zip_unsnoc R [] [] y all = absurd all
all_zip_unsnoc R [] (b ∷ ys) y all = absurd all
all_zip_unsnoc R (a ∷ []) [] y all = record { front = []; last = a; is = refl; all = tt; ran = all.0 }
all_zip_unsnoc R (a ∷ c ∷ xs) [] y all = absurd all.1
all_zip_unsnoc R (a ∷ xs) (b ∷ ys) y all =
    let rest = all_zip_unsnoc R xs ys y all.1 in
    record { front = a ∷ rest.front; last = rest.last; is = ap (λ zs. a ∷ zs) rest.is; all = (all.0, rest.all); ran = rest.ran }

pub all_go_set : {K : _} (workers : ℕ) (allowed : List ℕ → Bool) (meaning : List ℕ → Page) (starts : List WorkerId) (rs : List (Runner K)) (i : ℕ) (r r' : Runner K) → slice_get rs i ≡ Some r
    → ((start : WorkerId) → RunnerRan workers allowed meaning start r → RunnerRan workers allowed meaning start r') → AllGo workers allowed meaning starts rs → AllGo workers allowed meaning starts (slice_set rs i r')
all_go_set {K} workers allowed meaning starts rs i r r' at goes all = all_zip_set (λ (w : WorkerId) (x : Runner K). RunnerRan workers allowed meaning w x) starts rs i r r' at goes all

-- the first i + 1 have ended, if those before i had, and the one at i has ended now
pub ended_set : {K : _} (rs : List (Runner K)) (i : ℕ) (r' : Runner K) → IsEnded r' → EndedBelow i rs → EndedBelow (i + 1) (slice_set rs i r')
ended_set {K} [] i r' is below k y less at = absurd (cc)
ended_set {K} (r ∷ rs) zero r' is below zero y less at = let same : r' ≡ y = cc in subst (λ (z : Runner K). IsEnded z) same is
ended_set {K} (r ∷ rs) zero r' is below (suc k) y less at = absurd (omega (arith, less))
ended_set {K} (r ∷ rs) (suc i) r' is below zero y less at = below 0 y (omega arith) at
ended_set {K} (r ∷ rs) (suc i) r' is below (suc k) y less at = ended_set rs i r' is (λ j z l a. below (suc j) z (omega (arith, l)) a) k y (omega (arith, less)) at

pub go_ran : {K : _} (workers : ℕ) (allowed : List ℕ → Bool) (meaning : List ℕ → Page) (starts : List WorkerId) (rs : List (Runner K)) (i : ℕ) (r : Runner K) → slice_get rs i ≡ Some r → AllGo workers allowed meaning starts rs → (start : WorkerId) × RunnerRan workers allowed meaning start r
go_ran {K} workers allowed meaning starts rs i r at all = all_zip_at (λ (w : WorkerId) (x : Runner K). RunnerRan workers allowed meaning w x) starts rs i r at all

pub all_go_push : {K : _} (workers : ℕ) (allowed : List ℕ → Bool) (meaning : List ℕ → Page) (starts : List WorkerId) (rs : List (Runner K)) (w : WorkerId) (r : Runner K) → AllGo workers allowed meaning starts rs → RunnerRan workers allowed meaning w r → AllGo workers allowed meaning (starts ++ w ∷ []) (rs ++ r ∷ [])
all_go_push {K} workers allowed meaning starts rs w r all ran = all_zip_push (λ (v : WorkerId) (x : Runner K). RunnerRan workers allowed meaning v x) starts rs w r all ran

-- what `ends_of` must return for the rest, and for the whole
pub ended_front : {K : _} (rs : List (Runner K)) (r : Runner K) (all : List (Runner K)) → all ≡ rs ++ r ∷ [] → EndedBelow (length all) all → EndedBelow (length rs) rs
ended_front {K} rs r all is ended k x less at = ended k x (rw (is, length_push) (omega (arith, less))) (rw is (get_before rs r x k at))

pub ended_last : {K : _} (rs : List (Runner K)) (r : Runner K) (all : List (Runner K)) → all ≡ rs ++ r ∷ [] → EndedBelow (length all) all → IsEnded r
ended_last {K} rs r all is ended = ended (length rs) r (rw (is, length_push) (omega arith)) (rw is (get_last rs r))

pub ends_none : {K : _} (workers : ℕ) (allowed : List ℕ → Bool) (meaning : List ℕ → Page) (starts : List WorkerId) (rs : List (Runner K)) (ends : List (WorkerEnd K)) → length rs ≡ 0 → ends ≡ [] → AllGo workers allowed meaning starts rs → AllRan workers allowed meaning starts ends
ends_none {K} workers allowed meaning [] [] ends none is go = rw is tt
ends_none {K} workers allowed meaning (s ∷ ss) [] ends none is go = absurd go
ends_none {K} workers allowed meaning starts (r ∷ rs) ends none is go = absurd (omega (arith, none))

pub length_set : {X : Type 0} (xs : List X) (i : ℕ) (x : X) → length (slice_set xs i x) ≡ length xs
length_set [] i x = refl
length_set (y ∷ xs) zero x = refl
length_set (y ∷ xs) (suc i) x = ap (λ n. suc n) (length_set xs i x)

pub get_at : {X : Type 0} (xs : List X) (i : ℕ) (d : X) → i < length xs → slice_get xs i ≡ Some (slice_index_or xs i d)
get_at [] i d less = absurd (omega (arith, less))
get_at (y ∷ xs) zero d less = refl
get_at (y ∷ xs) (suc i) d less = get_at xs i d (omega (arith, less))

pub take_front : {X : Type 0} (n : ℕ) (xs ys : List X) → n ≡ length xs → take n (xs ++ ys) ≡ xs
take_front n xs ys e = ap (λ k. take k (xs ++ ys)) e ∙ take-append_seam xs ys

pub not_ended : {K : _} (r : Runner K) → ((e : WorkerEnd K) → r ≡ Ended e → ⊥) → IsEnded r → ⊥
not_ended r never is = grind arith

pub ends_push : {K : _} (workers : ℕ) (allowed : List ℕ → Bool) (meaning : List ℕ → Page) (starts : List WorkerId) (rs all : List (Runner K)) (r : Runner K) (e : WorkerEnd K) (ends : List (WorkerEnd K))
    → all ≡ rs ++ r ∷ [] → r ≡ Ended e → ((ss : List WorkerId) → AllGo workers allowed meaning ss rs → AllRan workers allowed meaning ss ends) → AllGo workers allowed meaning starts all → AllRan workers allowed meaning starts (ends ++ e ∷ [])
ends_push {K} workers allowed meaning starts rs all r e ends is end rest go = grind (arith, all_zip_unsnoc, all_zip_push)
