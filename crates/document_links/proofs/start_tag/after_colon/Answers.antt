use Rattle.std.proofs.Common.{rules}
use Rattle.std.proofs.lemmas.List.{take_rest}
use Rattle.url.proofs.InputLemmas.{rsplit_once_at_last, rsplit_once_none}
use Rattle.document_links.proofs.start_tag.after_colon.Goals as goal

pub returns-in-Some : goal.returns-in-Some
returns-in-Some c =
    let found = rsplit_once_at_last 58 c.args.name.now c.in-Some.at (search rules) (search rules) (search rules) in
    rw (found, take_rest)

pub returns-in-None : goal.returns-in-None
returns-in-None c =
    let none = rsplit_once_none 58 c.args.name.now (search rules) in
    rw none
