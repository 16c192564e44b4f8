use Rattle.mercator.proofs.Prelude.{subst, Begins}
use Rattle.mercator.specs.ErrorText.{torn_line}
use Rattle.mercator.proofs.commands.sessions.resume_noted.Goals as goal

pub returns-in_err-note_cut-clause-noted : goal.returns-in_err-note_cut-clause-noted
returns-in_err-note_cut-clause-noted g c = subst (λ f. Begins (g.E.Write.contents c.args.err.now) (g.E.Write.contents c.note_cut.new.err) (torn_line f)) c.as_str.ensures.value c.note_cut.ensures.noted

pub returns-clause-noted : goal.returns-clause-noted
returns-clause-noted g c = subst (λ f. Begins (g.E.Write.contents c.args.err.now) (g.E.Write.contents c.note_cut.new.err) (torn_line f)) c.as_str.ensures.value c.note_cut.ensures.noted
