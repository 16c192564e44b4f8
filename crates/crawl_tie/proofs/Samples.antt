-- A sample history, step by step.
use Rattle.crawl_tie.proofs.Prelude.{◌≡◌, ◌≢◌, ℕ, zero, suc, ◌<◌, Bool, true, false, not, List, [], ◌∷◌, slice_get, slice_set, Some, refl, sym, ap, arith, true≢false, View, Word, bits, open_at, closed_at, opening_view, fresh_view, view_looking, view_entering, view_losing, view_leaving, view_closing, view_not_closing, first_moment, GateId, Entry, Message, Home, home, pushing, popping, reunited, spent, Lane, Whole, Seeds, IsFirst, fresh_lane, History, with_gate, after_splitting, after_looking, after_entering, after_leaving, after_fetching, after_seeding, after_pushing}
use Rattle.std.specs.Prelude.{◌%◌}
use Rattle.std.proofs.Math.Nat.{mod-lt}
use Rattle.crawl_keys.specs.Assignment.{hash, subqueue_of}
use Rattle.crawl_keys.specs.HostKey.{host_key}
use Rattle.crawl_gate.specs.GateInvariant as gates
use Rattle.crawl_queues.specs.History as subqueues
use Rattle.crawl_tie.specs.Sample.{offers_made, turns_made}

-- ## One of two subqueues

abbrev queue : Bool → ℕ
queue true = 0
queue false = 1

-- x is at the queue, y at the other
abbrev both : {A : Type 0} → Bool → A → A → List A
both true x y = x ∷ y ∷ []
both false x y = y ∷ x ∷ []

get_one : {A : Type 0} (b : Bool) (x y : A) → slice_get (both b x y) (queue b) ≡ Some x
get_one b x y = grind arith

get_other : {A : Type 0} (b : Bool) (x y : A) → slice_get (both b x y) (queue (not b)) ≡ Some y
get_other b x y = grind arith

set_one : {A : Type 0} (b : Bool) (x y z : A) → both b z y ≡ slice_set (both b x y) (queue b) z
set_one b x y z = grind arith

set_other : {A : Type 0} (b : Bool) (x y z : A) → both b x z ≡ slice_set (both b x y) (queue (not b)) z
set_other b x y z = grind arith

some_queue : (n : ℕ) → (b : Bool) × (n % 2 ≡ queue b)
some_queue n = by_rest (n % 2) refl (mod-lt n (omega arith))
  where
    by_rest : (r : ℕ) → n % 2 ≡ r → r < 2 → (b : Bool) × (n % 2 ≡ queue b)
    by_rest zero e below = (true, e)
    by_rest (suc zero) e below = (false, e)
    by_rest (suc (suc r)) e below = absurd (omega (arith, below))

-- ## The gate

abbrev e : Entry
e = record { url = []; sender = 7; number = 0; hops = 0 }

abbrev fresh : View
fresh = fresh_view 4

-- the seeds' seat; the passes of the two workers; the senders'
abbrev seeds : View
seeds = opening_view 4

abbrev seeds_left : View
seeds_left = view_leaving seeds (open_at 2)

abbrev closer : View
closer = view_closing fresh (open_at 0)

abbrev waiter : View
waiter = view_not_closing fresh (open_at 1)

abbrev reported : View
reported = view_not_closing waiter (closed_at 0)

abbrev seven_looked : View
seven_looked = view_looking fresh (open_at 1)

abbrev seven : View
seven = view_entering seven_looked (open_at 1)

abbrev seven_held : View
seven_held = view_looking seven (open_at 1)

abbrev seven_left : View
seven_left = view_leaving seven_held (open_at 1)

abbrev nine_looked : View
nine_looked = view_looking fresh (open_at 1)

abbrev nine_lost : View
nine_lost = view_losing nine_looked (open_at 2)

abbrev nine_again : View
nine_again = view_looking nine_lost (open_at 2)

abbrev nine : View
nine = view_entering nine_again (open_at 2)

abbrev nine_left : View
nine_left = view_leaving nine (open_at 3)

abbrev gate_with : Word → List View → gates.Moment
gate_with x views = record { words = bits x ∷ []; homes = []; views = views }

-- ## The subqueues

abbrev message : GateId → Message
message gate = record { entry = e; unit = record { table = gate.table; number = 3; view = seven } }

abbrev at_home : GateId → Bool → Home
at_home gate b = home gate 2 (queue b)

abbrev fresh_at : GateId → Bool → Lane
fresh_at gate b = fresh_lane gate 2 (queue b)

abbrev full : Home → GateId → subqueues.Moment
full h gate = record { items = message gate ∷ []; views = pushing h (e ∷ []) ∷ spent ∷ popping h [] 0 ∷ [] }

abbrev popped : Home → subqueues.Moment
popped h = record { items = []; views = pushing h (e ∷ []) ∷ spent ∷ popping h (e ∷ []) 0 ∷ [] }

abbrev counted : Home → subqueues.Moment
counted h = record { items = []; views = pushing h (e ∷ []) ∷ spent ∷ popping h (e ∷ []) 1 ∷ spent ∷ [] }

abbrev one_again : Home → subqueues.Moment
one_again h = record { items = []; views = reunited (pushing h (e ∷ [])) (popping h (e ∷ []) 1) ∷ spent ∷ spent ∷ spent ∷ [] }

abbrev found_none : Home → subqueues.Moment
found_none h = record { items = []; views = pushing h [] ∷ spent ∷ popping h [] 1 ∷ spent ∷ [] }

abbrev found_none_twice : Home → subqueues.Moment
found_none_twice h = record { items = []; views = pushing h [] ∷ spent ∷ popping h [] 2 ∷ spent ∷ spent ∷ [] }

abbrev other_again : Home → subqueues.Moment
other_again h = record { items = []; views = reunited (pushing h []) (popping h [] 2) ∷ spent ∷ spent ∷ spent ∷ spent ∷ [] }

abbrev idle : subqueues.Moment → Lane
idle m = record { moment = m; fetching = false }

abbrev busy : subqueues.Moment → Lane
busy m = record { moment = m; fetching = true }

-- ## The moments

abbrev w0 : GateId → Bool → Whole
w0 gate b = record { gate = first_moment 4; lanes = both b (fresh_at gate b) (fresh_at gate (not b)); owners = Some Seeds ∷ []; offering = []; loaded = []; seeding = true; max = 4 }

abbrev w1 : GateId → Bool → Whole
w1 gate b = after_splitting (w0 gate b) (gate_with (open_at 1) (seeds ∷ fresh ∷ []))

abbrev w2 : GateId → Bool → Whole
w2 gate b = after_splitting (w1 gate b) (gate_with (open_at 1) (seeds ∷ fresh ∷ fresh ∷ []))

abbrev w3 : GateId → Bool → Whole
w3 gate b = after_splitting (w2 gate b) (gate_with (open_at 1) (seeds ∷ fresh ∷ fresh ∷ fresh ∷ []))

abbrev w4 : GateId → Bool → Whole
w4 gate b = after_splitting (w3 gate b) (gate_with (open_at 1) (seeds ∷ fresh ∷ fresh ∷ fresh ∷ fresh ∷ []))

abbrev w5 : GateId → Bool → Whole
w5 gate b = after_looking (w4 gate b) (gate_with (open_at 1) (seeds ∷ fresh ∷ fresh ∷ seven_looked ∷ fresh ∷ [])) 7 (open_at 1)

abbrev w6 : GateId → Bool → Whole
w6 gate b = after_looking (w5 gate b) (gate_with (open_at 1) (seeds ∷ fresh ∷ fresh ∷ seven_looked ∷ nine_looked ∷ [])) 9 (open_at 1)

abbrev w7 : GateId → Bool → Whole
w7 gate b = after_entering (w6 gate b) (gate_with (open_at 2) (seeds ∷ fresh ∷ fresh ∷ seven ∷ nine_looked ∷ [])) 3 7

abbrev w8 : GateId → Bool → Whole
w8 gate b = with_gate (w7 gate b) (gate_with (open_at 2) (seeds ∷ fresh ∷ fresh ∷ seven ∷ nine_lost ∷ []))

abbrev w9 : GateId → Bool → Whole
w9 gate b = after_looking (w8 gate b) (gate_with (open_at 2) (seeds ∷ fresh ∷ fresh ∷ seven ∷ nine_again ∷ [])) 9 (open_at 2)

abbrev w10 : GateId → Bool → Whole
w10 gate b = after_entering (w9 gate b) (gate_with (open_at 3) (seeds ∷ fresh ∷ fresh ∷ seven ∷ nine ∷ [])) 4 9

abbrev w11 : GateId → Bool → Whole
w11 gate b = record (after_pushing (w10 gate b) (queue b) (fresh_at gate b) (full (at_home gate b) gate) 3 7) { lanes = both b (idle (full (at_home gate b) gate)) (fresh_at gate (not b)) }

abbrev w12 : GateId → Bool → Whole
w12 gate b = after_leaving (w11 gate b) (gate_with (open_at 2) (seeds ∷ fresh ∷ fresh ∷ seven ∷ nine_left ∷ [])) 4 9

abbrev w13 : GateId → Bool → Whole
w13 gate b = after_seeding (w12 gate b) (gate_with (open_at 1) (seeds_left ∷ fresh ∷ fresh ∷ seven ∷ nine_left ∷ [])) 0

abbrev w14 : GateId → Bool → Whole
w14 gate b = record (w13 gate b) { lanes = both b (busy (popped (at_home gate b))) (fresh_at gate (not b)) }

abbrev w15 : GateId → Bool → Whole
w15 gate b = after_looking (w14 gate b) (gate_with (open_at 1) (seeds_left ∷ fresh ∷ fresh ∷ seven_held ∷ nine_left ∷ [])) (queue b) (open_at 1)

abbrev w16 : GateId → Bool → Whole
w16 gate b = w15 gate b

abbrev w17 : GateId → Bool → Whole
w17 gate b = with_gate (w16 gate b) (gate_with (open_at 1) (seeds_left ∷ fresh ∷ waiter ∷ seven_held ∷ nine_left ∷ []))

abbrev w18 : GateId → Bool → Whole
w18 gate b = record (w17 gate b) { lanes = both b (busy (popped (at_home gate b))) (idle (found_none (at_home gate (not b)))) }

abbrev w19 : GateId → Bool → Whole
w19 gate b = record (after_fetching (w18 gate b) (gate_with (open_at 0) (seeds_left ∷ fresh ∷ waiter ∷ seven_left ∷ nine_left ∷ [])) 3 (queue b) (busy (popped (at_home gate b)))) { lanes = both b (idle (popped (at_home gate b))) (idle (found_none (at_home gate (not b)))) }

abbrev w20 : GateId → Bool → Whole
w20 gate b = w19 gate b

abbrev w21 : GateId → Bool → Whole
w21 gate b = with_gate (w20 gate b) (gate_with (closed_at 0) (seeds_left ∷ closer ∷ waiter ∷ seven_left ∷ nine_left ∷ []))

abbrev w22 : GateId → Bool → Whole
w22 gate b = record (w21 gate b) { lanes = both b (idle (counted (at_home gate b))) (idle (found_none (at_home gate (not b)))) }

abbrev w23 : GateId → Bool → Whole
w23 gate b = w22 gate b

abbrev w24 : GateId → Bool → Whole
w24 gate b = with_gate (w23 gate b) (gate_with (closed_at 0) (seeds_left ∷ closer ∷ reported ∷ seven_left ∷ nine_left ∷ []))

abbrev w25 : GateId → Bool → Whole
w25 gate b = record (w24 gate b) { lanes = both b (idle (counted (at_home gate b))) (idle (found_none_twice (at_home gate (not b)))) }

abbrev w26 : GateId → Bool → Whole
w26 gate b = record (w25 gate b) { lanes = both b (idle (one_again (at_home gate b))) (idle (found_none_twice (at_home gate (not b)))) }

abbrev w27 : GateId → Bool → Whole
w27 gate b = record (w26 gate b) { lanes = both b (idle (one_again (at_home gate b))) (idle (other_again (at_home gate (not b)))) }

differ : (m n : ℕ) → n < m → open_at m ≢ open_at n
differ m n below e = let same : m ≡ n = ap (λ x. x.0) e in omega (arith, same, below)

shut_is_not_open : closed_at 0 ≢ open_at 0
shut_is_not_open e = true≢false (ap (λ x. x.1) e)

offers : (gate : GateId) (b : Bool) → gate.max_pending ≡ 4 → subqueue_of [] 2 ≡ queue b → History (w0 gate b) (offers_made (queue b) e) (w13 gate b)
offers gate b four here = (w1 gate b, ((gate_with (open_at 1) (seeds ∷ fresh ∷ [])), record { view = seeds; seat = 0; at = refl; next = refl }, refl), (w2 gate b, ((gate_with (open_at 1) (seeds ∷ fresh ∷ fresh ∷ [])), record { view = seeds; seat = 0; at = refl; next = refl }, refl), (w3 gate b, ((gate_with (open_at 1) (seeds ∷ fresh ∷ fresh ∷ fresh ∷ [])), record { view = seeds; seat = 0; at = refl; next = refl }, refl), (w4 gate b, ((gate_with (open_at 1) (seeds ∷ fresh ∷ fresh ∷ fresh ∷ fresh ∷ [])), record { view = seeds; seat = 0; at = refl; next = refl }, refl), (w5 gate b, ((gate_with (open_at 1) (seeds ∷ fresh ∷ fresh ∷ seven_looked ∷ fresh ∷ [])), record { view = fresh; steps = record { seat = 3; view = refl; word = refl; small = omega arith; next = refl } }, refl), (w6 gate b, ((gate_with (open_at 1) (seeds ∷ fresh ∷ fresh ∷ seven_looked ∷ nine_looked ∷ [])), record { view = fresh; steps = record { seat = 4; view = refl; word = refl; small = omega arith; next = refl } }, refl), (w7 gate b, ((gate_with (open_at 2) (seeds ∷ fresh ∷ fresh ∷ seven ∷ nine_looked ∷ [])), record { view = seven_looked; holds_none = refl; room = omega arith; steps = record { seat = 3; view = refl; word = refl; small = omega arith; next = refl } }, refl, refl, refl), (w8 gate b, ((gate_with (open_at 2) (seeds ∷ fresh ∷ fresh ∷ seven ∷ nine_lost ∷ [])), 1, record { view = nine_looked; holds_none = refl; room = omega arith; other = λ e. differ 2 1 (omega arith) e; steps = record { seat = 4; view = refl; word = refl; small = omega arith; next = refl } }, refl, refl, refl), (w9 gate b, ((gate_with (open_at 2) (seeds ∷ fresh ∷ fresh ∷ seven ∷ nine_again ∷ [])), record { view = nine_lost; steps = record { seat = 4; view = refl; word = refl; small = omega arith; next = refl } }, refl), (w10 gate b, ((gate_with (open_at 3) (seeds ∷ fresh ∷ fresh ∷ seven ∷ nine ∷ [])), record { view = nine_again; holds_none = refl; room = omega arith; steps = record { seat = 4; view = refl; word = refl; small = omega arith; next = refl } }, refl, refl, refl), (w11 gate b, (fresh_at gate b, full (at_home gate b) gate, record { pass = 0; home = at_home gate b; sent = []; message = message gate; view = refl; unit = (refl, sym four); may = record { new = refl; here = here; number = refl }; entry_is = refl; next = refl }, get_one b (fresh_at gate b) (fresh_at gate (not b)), record { owner = refl; view = refl }, ap (λ (ls : List Lane). (let u : Whole = record (after_pushing (w10 gate b) (queue b) (fresh_at gate b) (full (at_home gate b) gate) 3 7) { lanes = ls } in u)) (set_one b (fresh_at gate b) (fresh_at gate (not b)) (idle (full (at_home gate b) gate)))), (w12 gate b, ((gate_with (open_at 2) (seeds ∷ fresh ∷ fresh ∷ seven ∷ nine_left ∷ [])), idle (full (at_home gate b) gate), record { view = nine; holds = refl; steps = record { seat = 4; view = refl; word = refl; small = omega arith; next = refl } }, refl, get_one b (idle (full (at_home gate b) gate)) (fresh_at gate (not b)), record { pass = 0; home = at_home gate b; sent = e ∷ []; view = refl; listed = refl }, refl), (w13 gate b, ((gate_with (open_at 1) (seeds_left ∷ fresh ∷ fresh ∷ seven ∷ nine_left ∷ [])), record { view = seeds; holds = refl; steps = record { seat = 0; view = refl; word = refl; small = omega arith; next = refl } }, refl, refl), refl)))))))))))))

turns : (gate : GateId) (b : Bool) → History (w13 gate b) (turns_made (queue b) (queue (not b)) e) (w27 gate b)
turns gate b = (w14 gate b, (idle (full (at_home gate b) gate), popped (at_home gate b), record { pass = 2; home = at_home gate b; taken = []; empty_pops = 0; message = message gate; rest = []; view = refl; items = refl; entry_is = refl; next = refl }, get_one b (idle (full (at_home gate b) gate)) (fresh_at gate (not b)), refl, ap (λ (ls : List Lane). (let u : Whole = record (w13 gate b) { lanes = ls } in u)) (set_one b (idle (full (at_home gate b) gate)) (fresh_at gate (not b)) (busy (popped (at_home gate b))))), (w15 gate b, ((gate_with (open_at 1) (seeds_left ∷ fresh ∷ fresh ∷ seven_held ∷ nine_left ∷ [])), record { view = seven; steps = record { seat = 3; view = refl; word = refl; small = omega arith; next = refl } }, refl), (w16 gate b, (fresh_at gate (not b), get_other b (busy (popped (at_home gate b))) (fresh_at gate (not b)), refl, refl, refl), (w17 gate b, ((gate_with (open_at 1) (seeds_left ∷ fresh ∷ waiter ∷ seven_held ∷ nine_left ∷ [])), record { view = fresh; holds_none = refl; other = λ e. differ 1 0 (omega arith) e; steps = record { seat = 2; view = refl; word = refl; small = omega arith; next = refl } }, refl), (w18 gate b, (fresh_at gate (not b), found_none (at_home gate (not b)), record { pass = 2; home = at_home gate (not b); taken = []; empty_pops = 0; view = refl; next = refl }, get_other b (busy (popped (at_home gate b))) (fresh_at gate (not b)), ap (λ (ls : List Lane). (let u : Whole = record (w17 gate b) { lanes = ls } in u)) (set_other b (busy (popped (at_home gate b))) (fresh_at gate (not b)) (idle (found_none (at_home gate (not b)))))), (w19 gate b, ((gate_with (open_at 0) (seeds_left ∷ fresh ∷ waiter ∷ seven_left ∷ nine_left ∷ [])), busy (popped (at_home gate b)), record { view = seven_held; holds = refl; steps = record { seat = 3; view = refl; word = refl; small = omega arith; next = refl } }, refl, get_one b (busy (popped (at_home gate b))) (idle (found_none (at_home gate (not b)))), refl, ap (λ (ls : List Lane). (let u : Whole = record (after_fetching (w18 gate b) (gate_with (open_at 0) (seeds_left ∷ fresh ∷ waiter ∷ seven_left ∷ nine_left ∷ [])) 3 (queue b) (busy (popped (at_home gate b)))) { lanes = ls } in u)) (set_one b (busy (popped (at_home gate b))) (idle (found_none (at_home gate (not b)))) (idle (popped (at_home gate b))))), (w20 gate b, (idle (popped (at_home gate b)), get_one b (idle (popped (at_home gate b))) (idle (found_none (at_home gate (not b)))), refl, refl, refl), (w21 gate b, ((gate_with (closed_at 0) (seeds_left ∷ closer ∷ waiter ∷ seven_left ∷ nine_left ∷ [])), record { view = fresh; holds_none = refl; steps = record { seat = 1; view = refl; word = refl; small = omega arith; next = refl } }, refl), (w22 gate b, (idle (popped (at_home gate b)), counted (at_home gate b), record { pass = 2; home = at_home gate b; taken = e ∷ []; empty_pops = 0; view = refl; next = refl }, get_one b (idle (popped (at_home gate b))) (idle (found_none (at_home gate (not b)))), ap (λ (ls : List Lane). (let u : Whole = record (w21 gate b) { lanes = ls } in u)) (set_one b (idle (popped (at_home gate b))) (idle (found_none (at_home gate (not b)))) (idle (counted (at_home gate b))))), (w23 gate b, (idle (found_none (at_home gate (not b))), get_other b (idle (counted (at_home gate b))) (idle (found_none (at_home gate (not b)))), refl, refl, refl), (w24 gate b, ((gate_with (closed_at 0) (seeds_left ∷ closer ∷ reported ∷ seven_left ∷ nine_left ∷ [])), record { view = waiter; holds_none = refl; other = λ e. shut_is_not_open e; steps = record { seat = 2; view = refl; word = refl; small = omega arith; next = refl } }, refl), (w25 gate b, (idle (found_none (at_home gate (not b))), found_none_twice (at_home gate (not b)), record { pass = 2; home = at_home gate (not b); taken = []; empty_pops = 1; view = refl; next = refl }, get_other b (idle (counted (at_home gate b))) (idle (found_none (at_home gate (not b)))), ap (λ (ls : List Lane). (let u : Whole = record (w24 gate b) { lanes = ls } in u)) (set_other b (idle (counted (at_home gate b))) (idle (found_none (at_home gate (not b)))) (idle (found_none_twice (at_home gate (not b)))))), (w26 gate b, (idle (counted (at_home gate b)), one_again (at_home gate b), record { pass = 0; home = at_home gate b; sent = e ∷ []; other = 2; home' = at_home gate b; taken = e ∷ []; empty_pops = 1; apart = λ e. absurd (omega (arith, e)); view = refl; view' = refl; next = refl }, get_one b (idle (counted (at_home gate b))) (idle (found_none_twice (at_home gate (not b)))), ap (λ (ls : List Lane). (let u : Whole = record (w25 gate b) { lanes = ls } in u)) (set_one b (idle (counted (at_home gate b))) (idle (found_none_twice (at_home gate (not b)))) (idle (one_again (at_home gate b))))), (w27 gate b, (idle (found_none_twice (at_home gate (not b))), other_again (at_home gate (not b)), record { pass = 0; home = at_home gate (not b); sent = []; other = 2; home' = at_home gate (not b); taken = []; empty_pops = 2; apart = λ e. absurd (omega (arith, e)); view = refl; view' = refl; next = refl }, get_other b (idle (one_again (at_home gate b))) (idle (found_none_twice (at_home gate (not b)))), ap (λ (ls : List Lane). (let u : Whole = record (w26 gate b) { lanes = ls } in u)) (set_other b (idle (one_again (at_home gate b))) (idle (found_none_twice (at_home gate (not b)))) (idle (other_again (at_home gate (not b)))))), refl))))))))))))))

begins : (gate : GateId) (b : Bool) → gate.max_pending ≡ 4 → IsFirst gate 2 (w0 gate b)
begins gate b four = grind arith

queues_differ : (b : Bool) → queue b ≢ queue (not b)
queues_differ true same = omega (arith, same)
queues_differ false same = omega (arith, same)

pub sample : (gate : GateId) → gate.max_pending ≡ 4 → (q : ℕ) × (other : ℕ) × (x : Entry) × (first : Whole) × (mid : Whole) × (last : Whole)
    × (q ≢ other) × IsFirst gate 2 first × History first (offers_made q x) mid × History mid (turns_made q other x) last
sample gate four =
    let at = some_queue (hash (host_key [])) in
    let b = at.0 in
    (queue b, queue (not b), e, w0 gate b, w13 gate b, w27 gate b, queues_differ b, begins gate b four, offers gate b four at.1, turns gate b)
