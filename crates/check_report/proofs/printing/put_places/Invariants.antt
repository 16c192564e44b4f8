use Rattle.check_report.proofs.Prelude.{Bor, take, map, Adds, place}
use Rattle.check_report.specs.declared.value.Place.{Place}
use Rattle.check_report.proofs.printing.put_places.Given as goal

abbrev pub invariant-loop-place : goal.invariant-loop-place
invariant-loop-place l = Adds l.form l.fn.out.items l.out.items (map (λ (p : Bor Place). place l.target p.now) (take l.place-index l.places))
