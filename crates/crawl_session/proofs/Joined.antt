-- A queue gives out the URLs that joined it, in order: each when it was accepted, and each time that it was put back.
use Rattle.crawl_session.proofs.Prelude.{◌≡◌, ℕ, zero, suc, ◌+◌, ◌-◌, ◌<◌, Bool, true, false, not, ◌&&◌, if◌then◌else◌, is_some, nat_lt, List, [], ◌∷◌, ◌++◌, length, map, drop, slice_get, Option, Some, None, refl, ap, ◌∙◌, arith, append-nil, ltb-true, ltb-false, option_map, option_or, option_to_list, length-map, length-drop, map-append, drop-append-le, length_push, is_fetching, Message, SubqueueInvariant, fetch_of, Subqueue, after_accepting, after_finishing, after_taking, oldest, waiting, Deferred, accepted_at, is_due, Deferrals, waits_again}
use Rattle.crawl_core.proofs.Simulation.{drop-slice_get}
use Rattle.crawl_session.proofs.InLine.{Within, in_line, line_accepts, line_defers, line_takes, within_more}

-- ---- one queue

abbrev pub taken_at : Option Subqueue → ℕ
taken_at None = 0
taken_at (Some queue) = queue.taken

abbrev pub url_of : Message → List ℕ
url_of m = m.url

abbrev pub urls_at : Option Subqueue → List (List ℕ)
urls_at None = []
urls_at (Some queue) = map url_of (waiting queue)

-- what waits in a queue, in order
abbrev pub line_at : Option Subqueue → List Deferred → List (List ℕ)
line_at queue ds = in_line (taken_at queue) (urls_at queue) ds

abbrev pub fetched_at : Option Subqueue → Option (List ℕ)
fetched_at None = None
fetched_at (Some queue) = fetch_of queue

-- the URL that a queue is busy with
abbrev pub busy_at : Option Subqueue → Option Deferred → Option (List ℕ)
busy_at queue (Some d) = Some d.url
busy_at queue None = fetched_at queue

-- URLs that were put back come after at most all accepted URLs; while one of them is fetched, the machine's queue is not busy
pub record Fine (queue : Option Subqueue) (deferrals : Deferrals) : Type 0 where
  pub within : Within (accepted_at queue) deferrals.waiting
  pub apart : is_some deferrals.fetched ≡ true → is_fetching queue ≡ false

-- what happens in a queue: a URL joins its end, or one is taken, or a fetch ends
pub record Flow (old : Option Subqueue) (before : Deferrals) (joins takes : Option (List ℕ)) (ends : Bool) (new : Option Subqueue) (after : Deferrals) : Type 0 where
  pub line : line_at old before.waiting ++ option_to_list joins ≡ option_to_list takes ++ line_at new after.waiting
  pub busy : busy_at new after.fetched ≡ (if ends then None else option_or takes (busy_at old before.fetched))
  pub was : ends ≡ true → is_some (busy_at old before.fetched) ≡ true
  pub free : is_some takes ≡ true → busy_at old before.fetched ≡ None

pub flow_still : (queue : Option Subqueue) (deferrals : Deferrals) → Flow queue deferrals None None false queue deferrals
flow_still queue deferrals = grind (arith, append-nil)

-- the URLs that were taken and those that wait are all that were accepted
all_there : (queue : Subqueue) → SubqueueInvariant queue → queue.taken + length (map url_of (waiting queue)) ≡ length queue.accepted
all_there queue inv = grind (arith, length-map, length-drop)

fits_in : (queue : Subqueue) (ds : List Deferred) → SubqueueInvariant queue → Within (length queue.accepted) ds → Within (queue.taken + length (map url_of (waiting queue))) ds
fits_in queue ds inv within = grind (arith, all_there, within_more)

got_before : {A : Type 0} (xs : List A) (y : A) (i : ℕ) → i < length xs → slice_get (xs ++ y ∷ []) i ≡ slice_get xs i
got_before [] y i below = absurd (omega (arith, below))
got_before (x ∷ xs) y zero below = refl
got_before (x ∷ xs) y (suc i) below = got_before xs y i (omega (arith, below))

pub flow_accepts : (queue : Subqueue) (m : Message) (deferrals : Deferrals) → SubqueueInvariant queue → Fine (Some queue) deferrals → Flow (Some queue) deferrals (Some m.url) None false (Some (after_accepting queue m)) deferrals
flow_accepts queue m deferrals inv fine = grind (arith, drop-append-le, map-append, line_accepts, fits_in, in_line, got_before)

pub is_some_map : {A B : Type 0} (f : A → B) (o : Option A) → is_some (option_map f o) ≡ is_some o
is_some_map f o = grind arith

there_is : {A : Type 0} (xs : List A) (i : ℕ) → i < length xs → is_some (slice_get xs i) ≡ true
there_is [] i below = absurd (omega (arith, below))
there_is (x ∷ xs) zero below = refl
there_is (x ∷ xs) (suc i) below = there_is xs i (omega (arith, below))

pub fine_accepts : (queue : Subqueue) (m : Message) (deferrals : Deferrals) → Fine (Some queue) deferrals → Fine (Some (after_accepting queue m)) deferrals
fine_accepts queue m deferrals fine = grind (arith, length_push, within_more)

-- a free queue fetches nothing
pub idle_fetch : (queue : Subqueue) → queue.busy ≡ false → fetch_of queue ≡ None
idle_fetch queue idle = ap (λ b. if b then option_map url_of (slice_get queue.accepted (queue.taken - 1)) else None) idle

idle_busy : (queue : Subqueue) (fetched : Option Deferred) → queue.busy ≡ false → fetched ≡ None → busy_at (Some queue) fetched ≡ None
idle_busy queue fetched idle none = ap (busy_at (Some queue)) none ∙ idle_fetch queue idle

-- the first URL that is still to be taken is taken, since none that was put back is due
line_of_first : (queue : Subqueue) (m : Message) (ds : List Deferred) → oldest queue ≡ Some m → queue.busy ≡ false → is_due (Some queue) ds ≡ false → line_at (Some queue) ds ≡ m.url ∷ line_at (Some (after_taking queue)) ds
line_of_first queue m ds first idle due =
    let there : drop queue.taken queue.accepted ≡ m ∷ drop (suc queue.taken) queue.accepted = rw first at (drop-slice_get queue.accepted queue.taken) in
    ap (λ (l : List Message). in_line queue.taken (map url_of l) ds) there ∙ by_first ds due
  where
    rest : List (List ℕ)
    rest = map url_of (drop (suc queue.taken) queue.accepted)

    by_first : (ds : List Deferred) → is_due (Some queue) ds ≡ false → in_line queue.taken (m.url ∷ rest) ds ≡ m.url ∷ in_line (suc queue.taken) rest ds
    by_first [] due = refl
    by_first (d ∷ ds) due = line_takes queue.taken m.url rest d ds (ltb-true queue.taken d.after (early queue.busy (nat_lt queue.taken d.after) idle due))
      where
        early : (b c : Bool) → b ≡ false → (not b && not c) ≡ false → c ≡ true
        early b c idle due = grind arith

one_less : (n : ℕ) → suc n - 1 ≡ n
one_less n = omega arith

pub flow_takes : (queue : Subqueue) (m : Message) (deferrals : Deferrals) → oldest queue ≡ Some m → queue.busy ≡ false → deferrals.fetched ≡ None → is_due (Some queue) deferrals.waiting ≡ false → Flow (Some queue) deferrals None (Some m.url) false (Some (after_taking queue)) deferrals
flow_takes queue m deferrals first idle none due = grind (arith, append-nil, line_of_first, one_less, idle_busy)

pub flow_retakes : (queue : Subqueue) (d : Deferred) (more : List Deferred) (deferrals : Deferrals) → deferrals.waiting ≡ d ∷ more → deferrals.fetched ≡ None → is_due (Some queue) (d ∷ more) ≡ true → Flow (Some queue) deferrals None (Some d.url) false (Some queue) (record { waiting = more; fetched = Some d })
flow_retakes queue d more deferrals waits none due = grind (arith, append-nil, ltb-false, idle_fetch)

pub some_fetch : (queue : Subqueue) → SubqueueInvariant queue → queue.busy ≡ true → is_some (fetch_of queue) ≡ true
some_fetch queue inv busy = grind (arith, is_some_map, there_is)

pub flow_finishes : (queue : Subqueue) (deferrals : Deferrals) → SubqueueInvariant queue → queue.busy ≡ true → deferrals.fetched ≡ None → Flow (Some queue) deferrals None None true (Some (after_finishing queue)) deferrals
flow_finishes queue deferrals inv busy none = grind (arith, append-nil, some_fetch)

pub flow_finishes_again : (queue : Option Subqueue) (d : Deferred) (deferrals : Deferrals) → is_fetching queue ≡ false → deferrals.fetched ≡ Some d → Flow queue deferrals None None true queue (record { waiting = deferrals.waiting; fetched = None })
flow_finishes_again queue d deferrals idle is = grind (arith, append-nil)

pub flow_defers : (queue : Subqueue) (url : List ℕ) (sender : ℕ) (deferrals : Deferrals) → SubqueueInvariant queue → Fine (Some queue) deferrals → fetch_of queue ≡ Some url → deferrals.fetched ≡ None
    → Flow (Some queue) deferrals (busy_at (Some queue) deferrals.fetched) None true (Some (after_finishing queue)) (waits_again deferrals (record { url = url; sender = sender; after = length queue.accepted }))
flow_defers queue url sender deferrals inv fine fetched none = grind (arith, all_there, line_defers, fits_in)

pub flow_defers_again : (queue : Subqueue) (u : Deferred) (deferrals : Deferrals) → SubqueueInvariant queue → Fine (Some queue) deferrals → deferrals.fetched ≡ Some u
    → Flow (Some queue) deferrals (busy_at (Some queue) deferrals.fetched) None true (Some queue) (waits_again deferrals (record { url = u.url; sender = u.sender; after = length queue.accepted }))
flow_defers_again queue u deferrals inv fine is = grind (arith, all_there, line_defers, fits_in, idle_fetch)
