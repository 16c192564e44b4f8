use Rattle.mercator.proofs.Prelude.{common_steps, ◌≡◌, ℕ, ◌-◌, List, ◌++◌, length, take, drop, take-append-drop, arith, take_rest, Appends-trans}
use Rattle.mercator.proofs.commands.writing.begin.Goals as goal

moves_front : (all done rest : List ℕ) (n : ℕ) → all ≡ done ++ rest → all ≡ (done ++ take n rest) ++ take (length rest - n) (drop n rest)
moves_front all done rest n e = grind (arith, common_steps, take-append-drop, take_rest)

pub loop-turn-preserved : goal.loop-turn-preserved
loop-turn-preserved g c =
    let (front, split, gained) = c.loop-turn.invariant in
    let rest = c.loop-turn.rest.now in
    let n = c.in-Ok.count in
    (front ++ take n rest, moves_front _ front rest n split, Appends-trans _ _ _ _ _ gained c.in-Ok.ensures.bytes)
