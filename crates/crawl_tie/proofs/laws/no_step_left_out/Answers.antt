use Rattle.crawl_tie.proofs.GateSteps.{gate_moves}
use Rattle.crawl_tie.proofs.Lanes.{settled, settling, dividing}
use Rattle.crawl_tie.proofs.Prelude.{◌≡◌, ◌≢◌, ℕ, ◌+◌, Bool, true, false, [], ◌∷◌, ◌++◌, set, refl, sym, ◌∙◌, subst, true≢false, some, get_elem?, GateId, PassView, SubqueueInvariant, home, pushing, popping, reunited, spent, plain, made, IsDivided, IsUnited, LaneMoves, IsMaking, pushing_one, popping_one, counting_one, taking_in_one}
use native.Mathlib.Omega.{arith}
use Rattle.crawl_queues.specs.History.{Moment, SubqueueStep, settles, divides, pushes, pops, finds_nothing, takes_in}
use Rattle.crawl_queues.proofs.Passing as pass
use Rattle.crawl_tie.proofs.laws.no_step_left_out.Goals as goal

-- a pass that does not have both rights
abbrev One : ℕ → PassView → Type 0
One j v = v.sends ≡ true → v.takes ≡ true → ⊥

-- a pass that has both rights, or none
abbrev Both : ℕ → PassView → Type 0
Both j v = v.sends ≡ v.takes

made_divided : (gate : GateId) (workers q : ℕ) → IsDivided (made (home gate workers q))
made_divided gate workers q = grind arith

-- a pass of a divided subqueue gets another view, with at most one right
still_one : (m : Moment) (pass_id : ℕ) (w : PassView) → IsDivided m → One pass_id w → (j : ℕ) (u : PassView) → get_elem? (set m.views pass_id w) j ≡ some u → One j u
still_one m pass_id w one mine = pass.all_set One m.views pass_id w mine (λ j u apart at. one j u at)

lane_moves : (m next : Moment) → SubqueueInvariant m.items m.views → IsDivided m → SubqueueStep m next → LaneMoves m next
lane_moves m next k one (settles p h old at is) = absurd (one p _ at refl refl)
lane_moves m next k one (divides p h at is) = absurd (one p _ at refl refl)
lane_moves m next k one (pushes p h sent x at unit may is) =
    pushing_one (plain x) (record { pass = p; home = h; sent = sent; message = x; view = at; unit = unit; may = may; entry_is = refl; next = is })
    (subst IsDivided (sym is) (still_one m p (pushing h (sent ++ plain x ∷ [])) one (λ s t. true≢false (sym t))))
lane_moves m next k one (pops p h taken n x rest at items is) =
    popping_one (plain x) (record { pass = p; home = h; taken = taken; empty_pops = n; message = x; rest = rest; view = at; items = items; entry_is = refl; next = is })
    (subst IsDivided (sym is) (still_one m p (popping h (taken ++ plain x ∷ []) n) one (λ s t. true≢false (sym s))))
lane_moves m next k one (finds_nothing p h taken n at is) =
    let w : PassView = popping h taken (n + 1) in
    counting_one (record { pass = p; home = h; taken = taken; empty_pops = n; view = at; next = is })
    (subst IsDivided (sym is) (pass.all_push One (set m.views p w) spent (λ s t. true≢false (sym s)) (still_one m p w one (λ s t. true≢false (sym s)))))
lane_moves m next k one (takes_in p h sent other h' taken n apart at there is) =
    let w : PassView = reunited (pushing h sent) (popping h' taken n) in
    let writer = ((k.passes p (pushing h sent) at).sends refl).0 in
    let reader = ((k.passes other (popping h' taken n) there).takes refl).0 in
    taking_in_one (record { pass = p; home = h; sent = sent; other = other; home' = h'; taken = taken; empty_pops = n; apart = apart; view = at; view' = there; next = is })
    (subst IsUnited (sym is) (pass.all_set Both (set m.views p w) other spent refl (λ j u off found.
    pass.all_set (λ i z. i ≢ other → Both i z) m.views p w (λ away. refl) (λ i z apart_from at_i away. no_right k p other writer reader i z apart_from away at_i) j u found off)))
  where
    -- a pass that is neither has no right
    no_right : (k : SubqueueInvariant m.items m.views) (p other : ℕ) → p ≡ k.writer → other ≡ k.reader → (j : ℕ) (u : PassView) → j ≢ p → j ≢ other → get_elem? m.views j ≡ some u → u.sends ≡ u.takes
    no_right k p other writer reader j u off away found =
        let fits = k.passes j u found in
        by_rights u.sends u.takes (λ s. off ((fits.sends s).0 ∙ sym writer)) (λ t. away ((fits.takes t).0 ∙ sym reader))
      where
        by_rights : (s t : Bool) → (s ≡ true → ⊥) → (t ≡ true → ⊥) → s ≡ t
        by_rights true t no_s no_t = absurd (no_s refl)
        by_rights false true no_s no_t = absurd (no_t refl)
        by_rights false false no_s no_t = refl

-- after two passes became one, no pass has only one of the two rights
only_making : (m next : Moment) → IsUnited m → (step : SubqueueStep m next) → IsMaking step ≡ true
only_making m next both step = grind arith

pub returns-clause-gate : goal.returns-clause-gate
returns-clause-gate c = gate_moves

pub returns-clause-made : goal.returns-clause-made
returns-clause-made c = λ h. (settled h, settling h, dividing h)

pub returns-clause-divided : goal.returns-clause-divided
returns-clause-divided c = made_divided

pub returns-clause-subqueues : goal.returns-clause-subqueues
returns-clause-subqueues c = lane_moves

pub returns-clause-united : goal.returns-clause-united
returns-clause-united c = only_making
