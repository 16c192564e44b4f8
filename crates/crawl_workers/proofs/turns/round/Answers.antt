use Rattle.crawl_workers.proofs.Prelude.{◌∙◌, slice_index_or, sym, arith, allows}
use Rattle.crawl_workers.proofs.Turning.{all_go_set, ended_set, go_ran, length_set, get_at}
use Rattle.crawl_workers.proofs.turns.round.Goals.{then-advance, else-advance}
use Rattle.crawl_workers.proofs.turns.round.Goals as goal

pub loop-i-preserved : goal.loop-i-preserved
loop-i-preserved g c =
    let inv = c.loop-i.invariant in
    let rs = c.loop-i.runners in
    let at = get_at rs c.loop-i.i c.index-runners-i.result (omega (arith, inv.0, c.loop-i-test.true)) in
    let r = slice_index_or rs c.loop-i.i c.index-runners-i.result in (
      length_set rs c.loop-i.i c.advance.new.runner ∙ inv.0,
      λ starts go.
          let before = inv.1 starts go in (
            all_go_set g.K.Name.workers (allows g.K.Name.filter) (g.F.SessionFetch.meaning c.args.fetcher.now) starts rs c.loop-i.i r c.advance.new.runner at c.advance.ensures.ran before.0,
            elim c.if-advance.branch [
              | then-advance w ↦ λ none. absurd (let is = sym w.going-is ∙ none in cc)
              | else-advance w ↦ λ none.
                  let ran = go_ran g.K.Name.workers (allows g.K.Name.filter) (g.F.SessionFetch.meaning c.args.fetcher.now) starts rs c.loop-i.i r at before.0 in
                  ended_set rs c.loop-i.i c.advance.new.runner (c.advance.ensures.ended ran.0 ran.1 w.if-advance.false) (before.1 (sym w.going-is ∙ none))
            ],
          ),
      c.advance.ensures.right,
    )
