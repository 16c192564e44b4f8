use Rattle.crawl_replay.proofs.Prelude.{sym, ◌∙◌, Admit}
use Rattle.crawl_replay.proofs.Assigned.{placed_at}
use Rattle.crawl_replay.proofs.laws.hosts_keep_to_their_subqueues.Goals as goal

pub returns-clause-once : goal.returns-clause-once
returns-clause-once c workers max events replies run assigned =
    c.taken_once_in_order.ensures.taken_once workers max events replies run
    (λ i j sender other url queue there at_i at_j.
    let first = placed_at workers events i (Admit sender url queue) assigned at_i in
    let second = placed_at workers events j (Admit other url there) assigned at_j in
    first ∙ sym second)

pub returns-clause-own_queue : goal.returns-clause-own_queue
returns-clause-own_queue c workers max events replies run assigned place queue url at =
    let admitted = c.admitted_before.ensures.taken workers max events replies run place queue url at in
    (placed_at workers events admitted.0 (Admit admitted.1 url queue) assigned admitted.2)
