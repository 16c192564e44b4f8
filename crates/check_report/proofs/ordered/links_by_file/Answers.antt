use Rattle.check_report.proofs.Prelude.{Bor, ◌∙◌, sym, flat_map-map}
use Rattle.std.proofs.Common.{rules}
use Rattle.std.proofs.lemmas.List.Sorted.{answers_always}
use Rattle.check_report.specs.Order.{links_to, place_before}
use Rattle.check_report.specs.declared.ordered.Link.{Link}
use Rattle.check_report.specs.declared.value.Broken.{Broken}
use Rattle.check_report.proofs.Sorting.{links_from_sort, links_rank}
use Rattle.check_report.proofs.ordered.links_by_file.Goals as goal

pub returns : goal.returns
returns c =
    links_from_sort c.in_ok-links.links.items c.sort_by.new.self.items _
    (c.in_ok-links.ensures ∙ sym (flat_map-map (links_to c.args.all) (λ (t : Bor Broken). t.now) c.args.targets.now))
    (c.in_ok-sort_by.ensures.sorted (λ (a : Link) (b : Link). place_before a.place.now b.place.now) links_rank (answers_always _ _ _ (λ f a r g h. search rules)))
    (c.sort_by.ensures.stable (λ (a : Link) (b : Link). place_before a.place.now b.place.now) links_rank (answers_always _ _ _ (λ f a r g h. search rules)))
