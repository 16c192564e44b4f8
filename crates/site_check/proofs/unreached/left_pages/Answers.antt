use Rattle.site_check.proofs.Prelude.{arith, map, pages_of, string_bytes}
use Rattle.site_check.proofs.Marks.{page_more, pages_done}
use Rattle.site_check.proofs.unreached.left_pages.Goals as goal
use Rattle.site_check.specs.Unreached.{is_marked}

pub loop-number-preserved : goal.loop-number-preserved
loop-number-preserved c =
    page_more (is_marked c.loop-number.marks) (is_marked c.push_page.new.marks) c.args.front.now (pages_of c.args.files.now) c.loop-number.number (map string_bytes c.loop-number.all.items)
    (map string_bytes c.push_page.new.all.items) _ (omega arith) c.in_ok-push_page.ensures.marks c.in_ok-push_page.ensures.pushed c.loop-number.invariant

pub returns : goal.returns
returns c =
    pages_done (is_marked c.loop-number.marks) c.args.front.now (pages_of c.args.files.now) c.loop-number.number (map string_bytes c.loop-number.all.items) _ (omega arith) c.loop-number.invariant
