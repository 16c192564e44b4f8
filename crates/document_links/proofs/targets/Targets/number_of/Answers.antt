use Rattle.document_links.proofs.Numbering.{number_found}
use Rattle.document_links.proofs.targets.Targets.number_of.Goals as goal

pub returns-in-Some : goal.returns-in-Some
returns-in-Some c = number_found c.args.self.now c.args.text c.in-Some.number c.requires c.in-Some.ensures
