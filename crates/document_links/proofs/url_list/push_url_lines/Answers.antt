use Rattle.document_links.proofs.Prelude.{length}
use Rattle.document_links.proofs.Runs.{appended}
use Rattle.document_links.proofs.Feeding.{next_line, next_position}
use Rattle.document_links.proofs.url_list.push_url_lines.Goals as goal

pub lines-preserved : goal.lines-preserved
lines-preserved c = (
  appended c.lines.raw.texts c.push_line-in-lines.new.raw.texts _ _ _ _ c.in_ok-push_line.ensures.texts
      (next_line c.lines.rest.now c.in-Some.line.now c.in-Some.more.now c.in-Some.ensures.0 c.in-Some.ensures.1) c.lines.invariant.0,
  appended c.lines.raw.positions.items c.push_line-in-lines.new.raw.positions.items _ _ _ _ c.in_ok-push_line.ensures.positions
      (next_position (length c.args.text.now) c.lines.rest.now c.in-Some.line.now c.in-Some.more.now c.in-Some.ensures.0 c.in-Some.ensures.1) c.lines.invariant.1,
)
