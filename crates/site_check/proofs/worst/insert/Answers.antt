use Rattle.site_check.proofs.Prelude.{List, ◌∙◌, ap, length, map, not, take}
use Rattle.std.proofs.Common.{take_while}
use Rattle.site_check.proofs.WorstFiles.{put_there}
use Rattle.site_check.proofs.worst.insert.Goals as goal
use Rattle.site_check.specs.Worst.{is_before, links_of}
use Rattle.site_check.specs.declared.worst.Count.{Count}

pub returns : goal.returns
returns c =
    ap (map links_of) (c.truncate.ensures.items ∙ ap (take 10) c.in_ok-insert.ensures.items)
    ∙ put_there c.args.first.now.items c.args.count c.place_of-place.result
    (c.place_of-place.ensures ∙ ap (λ (xs : List Count). length (take_while (λ other. not (is_before (links_of c.args.count) (links_of other))) xs)) c.as_slice.ensures.value)
