use Rattle.site_check.proofs.Prelude.{◌∙◌, ap, sym, ◌+◌}
use Rattle.site_check.proofs.DocumentsFound.{numbers_pushed, pushed_length}
use Rattle.site_check.proofs.site_pages.documents_of.Goals as goal

pub loop-number-preserved : goal.loop-number-preserved
loop-number-preserved c =
    let files = c.args.files.now in
    let documents = c.args.anchors.now in
    let number = c.loop-number.number in
    let old = c.loop-number.all.items in
    let new = c.push_number.new.all.items in
    record {
      counted = pushed_length files documents number old new c.in_ok-next.ensures ∙ ap (λ n. n + 1) c.loop-number.invariant.counted;
      are = numbers_pushed files documents number old new (sym c.loop-number.invariant.counted) c.in_ok-next.ensures c.loop-number.invariant.are;
    }
