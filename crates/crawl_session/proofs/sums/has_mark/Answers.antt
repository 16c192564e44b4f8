use Rattle.std.proofs.Common.{◌≡◌, ◌&&◌, false, sym, ap, ◌∙◌}
use Rattle.crawl_session.specs.Sums.{is_sum}
use Rattle.crawl_session.proofs.SumLines.{kept-unfound}
use Rattle.crawl_session.proofs.sums.has_mark.Goals as goal
use Rattle.crawl_session.proofs.sums.has_mark.Goals.{else-start-via-then-start+else-is_sum, else-start-via-else-start}

pub returns : goal.returns
returns c none =
    let start = c.args.start in
    let bytes = c.args.bytes.now in
    let first : (start && is_sum bytes) ≡ false =
    elim c.else-start.branch [
      | else-start-via-then-start+else-is_sum w ↦ ap (λ b. b && is_sum bytes) w.if-start.true ∙ sym w.is_sum.ensures ∙ w.if-is_sum.false
      | else-start-via-else-start w ↦ ap (λ b. b && is_sum bytes) w.if-start.false
    ] in
    kept-unfound start bytes c.find.result c.find.ensures (sym c.is_some.ensures ∙ none) first
