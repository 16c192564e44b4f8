use Rattle.check_report.proofs.Prelude.{Bor}
use Rattle.std.proofs.Common.{rules}
use Rattle.std.proofs.lemmas.List.Sorted.{answers_always}
use Rattle.check_report.specs.Order.{place_before}
use Rattle.check_report.specs.declared.value.Place.{Place}
use Rattle.check_report.proofs.Sorting.{places_from_sort, places_rank}
use Rattle.check_report.proofs.ordered.places_by_file.Goals as goal

pub returns : goal.returns
returns c =
    places_from_sort c.in_ok-sorted.sorted.items c.sort_by.new.self.items c.args.places.now c.in_ok-sorted.ensures
    (c.in_ok-sort_by.ensures.sorted (λ (a : Bor Place) (b : Bor Place). place_before a.now b.now) places_rank (answers_always _ _ _ (λ f a r g h. search rules)))
    (c.sort_by.ensures.stable (λ (a : Bor Place) (b : Bor Place). place_before a.now b.now) places_rank (answers_always _ _ _ (λ f a r g h. search rules)))
