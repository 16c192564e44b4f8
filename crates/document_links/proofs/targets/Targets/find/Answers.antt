use Rattle.document_links.proofs.Prelude.{◌∙◌, sym, subst}
use Rattle.std.specs.Prelude.{IfSome}
use Rattle.document_links.specs.Keeping.{HasNumber}
use Rattle.document_links.proofs.Numbering.{found_entry}
use Rattle.document_links.proofs.targets.Targets.find.Goals as goal

pub returns-2 : goal.returns-2
returns-2 c =
    let targets = c.args.self.now in
    subst (λ found. IfSome found (λ number. HasNumber targets c.args.text.now number)) (sym (c.copied.ensures ∙ c.get.ensures.value)) (found_entry (HasNumber targets) c.args.text.now targets.numbers.entries c.requires.numbers)
