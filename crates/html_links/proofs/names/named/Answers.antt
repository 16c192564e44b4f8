use Rattle.html_links.proofs.Prelude.{rules, tests, ◌==◌, ◌+◌, List, ℕ, Some, length, drop, ap, sym, ◌∙◌, find, slice_split, take_rest, option_map}
use Rattle.html_links.specs.Names.{counts, list_at}
use Rattle.std.proofs.lemmas.Iterator.Search.{find_from_yields_List}
use Rattle.std.proofs.lemmas.Iterator.Splits.{YieldsList-from_slice_split}
use Rattle.html_links.proofs.names.named.Goals as goal

pub returns-in_default : goal.returns-in_default
returns-in_default c =
    let found = find_from_yields_List (counts c.args.closed c.args.name.now) _ _ _ c.find.ensures.ran
    (YieldsList-from_slice_split _ _ c.list_at.result.now c.split.ensures.rest c.split.ensures.done c.split.ensures.closure (λ x b q k. search (rules, tests)))
    (λ x b q k. search (rules, tests)) in
    ap (option_map (λ (row : List ℕ). drop (length c.args.name.now + 1) row))
    (ap (option_map (λ x. x.now)) (sym c.in_default.is) ∙ found ∙ ap (λ list. find (counts c.args.closed c.args.name.now) (slice_split (λ b. b == 32) list)) (c.list_at.ensures ∙ ap list_at c.list_of.ensures))

pub returns : goal.returns
returns c =
    let found = find_from_yields_List (counts c.args.closed c.args.name.now) _ _ _ c.find.ensures.ran
    (YieldsList-from_slice_split _ _ c.list_at.result.now c.split.ensures.rest c.split.ensures.done c.split.ensures.closure (λ x b q k. search (rules, tests)))
    (λ x b q k. search (rules, tests)) in
    ap Some (take_rest c.in-Some.row.now (length c.args.name.now + 1))
    ∙ ap (option_map (λ (row : List ℕ). drop (length c.args.name.now + 1) row))
    (ap (option_map (λ x. x.now)) (sym c.in-Some.is) ∙ found ∙ ap (λ list. find (counts c.args.closed c.args.name.now) (slice_split (λ b. b == 32) list)) (c.list_at.ensures ∙ ap list_at c.list_of.ensures))
