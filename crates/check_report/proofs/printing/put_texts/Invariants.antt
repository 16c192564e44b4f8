use Rattle.check_report.proofs.Prelude.{take, map, string_bytes, Adds, name}
use Rattle.check_report.proofs.printing.put_texts.Given as goal

abbrev pub invariant-loop-text : goal.invariant-loop-text
invariant-loop-text l = Adds l.form l.fn.out.items l.out.items (map (λ text. name l.section (string_bytes text)) (take l.text-index l.texts))
