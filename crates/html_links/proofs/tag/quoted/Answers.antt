use Rattle.html_links.proofs.Prelude.{◌∷◌, map, refl, lower}
use Rattle.html_links.proofs.Jumps.{read_double, read_open_double}
use Rattle.html_links.proofs.tag.quoted.Goals as goal

pub returns-in-Some-clause-reads : goal.returns-in-Some-clause-reads
returns-in-Some-clause-reads c =
    read_double (map lower c.args.name.now) (34 ∷ c.args.bytes.now) 34 c.args.bytes.now c.in-Some.value.now c.in-Some.rest.now refl refl c.in-Some.ensures

pub returns-in-None-clause-reads : goal.returns-in-None-clause-reads
returns-in-None-clause-reads c = read_open_double (map lower c.args.name.now) (34 ∷ c.args.bytes.now) 34 c.args.bytes.now refl refl c.in-None.ensures
