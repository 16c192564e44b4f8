-- What one step does to the word and to the views.
use Rattle.crawl_gate.proofs.Prelude.{◌≡◌, ℕ, ◌+◌, ◌<◌, [], ◌∷◌, ◌++◌, refl, ap, ◌∙◌, arith, View, StepKind, Load, EnterWon, EnterLost, Leave, CloseWon, CloseLost, Word, top_bit, bits, open_at, closed_at, units_held, fresh_view, view_looking, view_entering, view_losing, view_leaving, view_closing, view_not_closing, Moment, GateInvariant, SeatSteps, GateStep, GainsMet, GateGoes, splits, looks, enters, loses, leaves, closes, not_closes}

words_after : (gate gate' : Moment) (v w : View) (x y : Word) → SeatSteps gate gate' v w x y → gate'.words ≡ bits y ∷ []
words_after gate gate' v w x y s = ap (λ (m : Moment). m.words) s.next

gains : (gate gate' : Moment) (v w : View) (x y : Word) (kind : StepKind) → SeatSteps gate gate' v w x y → w.met ≡ v.met ++ (kind, x) ∷ [] → GainsMet gate gate' kind x
gains gate gate' v w x y kind s met = record { seat = s.seat; before = v; after = w; at = s.view; views = ap (λ (m : Moment). m.views) s.next; met = met }

pub goes : (max : ℕ) (gate gate' : Moment) → GateInvariant max gate → (step : GateStep gate gate') → (x : Word) × (y : Word) × GateGoes gate gate' step x y
goes max gate gate' k (splits v seat at next) =
    let x : Word = (units_held gate.views, k.closed) in
    let within = k.within in
    let limit = k.small in
    let small : units_held gate.views < top_bit = omega arith in
    let added = ap (λ (m : Moment). m.views) next in
    (x, x, record { from = k.word; to = ap (λ (m : Moment). m.words) next ∙ k.word; small = small; small' = small; word = refl; views = (fresh_view v.max_pending, added) })
goes max gate gate' k (looks v x s) =
    (x, x, record { from = s.word; to = words_after gate gate' v (view_looking v x) x x s; small = s.small; small' = s.small; word = refl; views = gains gate gate' v (view_looking v x) x x Load s refl })
goes max gate gate' k (enters v n holds_none room s) =
    let limit = k.small in
    let same = (k.seats s.seat v s.view).0 in
    let small' : n + 1 < top_bit = omega (arith, room, same, limit) in
    let x = open_at n in
    let y = open_at (n + 1) in
    (x, y, record { from = s.word; to = words_after gate gate' v (view_entering v x) x y s; small = s.small; small' = small'; word = (n, refl, refl); views = gains gate gate' v (view_entering v x) x y EnterWon s refl })
goes max gate gate' k (loses v n x holds_none room other s) =
    (x, x, record { from = s.word; to = words_after gate gate' v (view_losing v x) x x s; small = s.small; small' = s.small; word = refl; views = gains gate gate' v (view_losing v x) x x EnterLost s refl })
goes max gate gate' k (leaves v n holds s) =
    let small = s.small in
    let small' : n < top_bit = omega arith in
    let x = open_at (n + 1) in
    let y = open_at n in
    (x, y, record { from = s.word; to = words_after gate gate' v (view_leaving v x) x y s; small = small; small' = small'; word = (n, refl, refl); views = gains gate gate' v (view_leaving v x) x y Leave s refl })
goes max gate gate' k (closes v holds_none s) =
    let small' : 0 < top_bit = omega arith in
    let x = open_at 0 in
    let y = closed_at 0 in
    (x, y, record { from = s.word; to = words_after gate gate' v (view_closing v x) x y s; small = s.small; small' = small'; word = (refl, refl); views = gains gate gate' v (view_closing v x) x y CloseWon s refl })
goes max gate gate' k (not_closes v x holds_none other s) =
    (x, x, record { from = s.word; to = words_after gate gate' v (view_not_closing v x) x x s; small = s.small; small' = s.small; word = refl; views = gains gate gate' v (view_not_closing v x) x x CloseLost s refl })
