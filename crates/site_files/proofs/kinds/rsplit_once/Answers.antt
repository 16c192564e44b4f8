use Rattle.std.proofs.Common.{rules}
use Rattle.std.proofs.lemmas.List.{take_rest}
use Rattle.url.proofs.InputLemmas.{rsplit_once_at_last, rsplit_once_none}
use Rattle.site_files.proofs.kinds.rsplit_once.Goals as goal

pub returns-in-Some : goal.returns-in-Some
returns-in-Some c =
    let text = c.args.text.now in
    let found = rsplit_once_at_last c.args.separator text c.in-Some.at (search rules) (search rules) (search rules) in
    record { before = rw found; after = rw (found, take_rest) }

pub returns-in-None : goal.returns-in-None
returns-in-None c =
    let none = rsplit_once_none c.args.separator c.args.text.now (search rules) in
    record { before = rw none; after = rw none }
