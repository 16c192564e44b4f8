use Rattle.html_links.proofs.Prelude.{◌∙◌, ◌++◌, [], ap, arith, map, sym, lower, end_tag, read, Data, seen_within}
use Rattle.html_links.proofs.Documents.{read_text, read_less, read_end_tag, read_open_end_tag, end_less, cut_shorter}
use Rattle.html_links.proofs.Passing.{has_then, has_same, passes_end}
use Rattle.html_links.proofs.next_tag.inner_step.Goals as goal

pub returns-in_default : goal.returns-in_default
returns-in_default c = has_same _ [] (ap (seen_within 0) (read_text c.args.context.now c.args.bytes.now c.in_default.ensures))

pub returns-in-Start : goal.returns-in-Start
returns-in-Start c = grind (arith, cut_shorter, has_then, has_same, read_less)

pub returns-in-None : goal.returns-in-None
returns-in-None c = has_same _ [] (ap (seen_within 0) (read_open_end_tag c.args.context.now c.args.bytes.now c.in-Some.opened.now _ c.in-End.more.now c.in-Some.ensures c.in-End.ensures.reads c.in-None.ensures))

pub returns-in-Other : goal.returns-in-Other
returns-in-Other c = grind (arith, cut_shorter, read_less, has_same)

pub returns-in-Unfinished : goal.returns-in-Unfinished
returns-in-Unfinished c = has_same _ [] (ap (seen_within 0) (read_less c.args.context.now c.args.bytes.now c.in-Some.opened.now c.in-Some.ensures ∙ c.in-Unfinished.ensures.reads))

pub returns-in-Some-after_tag : goal.returns-in-Some-after_tag
returns-in-Some-after_tag c = (
  passes_end c.args.context.now c.outer_context.result c.args.bytes.now c.in-Some-after_tag.last.now (map lower c.in-End.name.now)
      (read_end_tag c.args.context.now c.args.bytes.now c.in-Some.opened.now (map lower c.in-End.name.now) c.in-End.more.now c.in-Some-after_tag.last.now c.in-Some.ensures c.in-End.ensures.reads c.in-Some-after_tag.ensures
      ∙ ap (λ after. end_tag c.args.context.now (map lower c.in-End.name.now) ++ read after Data c.in-Some-after_tag.last.now) (sym c.outer_context.ensures)),
  end_less c.args.bytes.now c.in-Some.opened.now c.in-End.more.now c.in-Some-after_tag.last.now c.in-Some.ensures c.in-End.ensures.leaves c.in-Some-after_tag.ensures,
)
