use Rattle.site_check.proofs.Prelude.{◌≡◌, ap, indices_at, length, subst, ℕ, List}
use Rattle.std.proofs.Common.{◌⊎◌}
use Rattle.crawl_pages.specs.Pages.{is_found}
use Rattle.site_check.proofs.PageIndices.{AreEnough, found_indexed, unfound_indexed}
use Rattle.site_check.proofs.indexed.is_indexed.Goals as goal

pub returns-in-Found : goal.returns-in-Found
returns-in-Found c = λ is.
    let one = c.args.one.now in
    let g = indices_at c.args.indices.now in
    found_indexed g c.args.aliases.now one _ _ c.in-Found.is
    (λ own. subst (λ (l : List (List ℕ)). (length l ≡ 0) ⊎ AreEnough (length l) (g one.url)) c.as_slice.ensures (c.are_indexed.ensures is own))

pub returns-in-Moved : goal.returns-in-Moved
returns-in-Moved c = λ is. unfound_indexed (indices_at c.args.indices.now) c.args.aliases.now c.args.one.now (ap is_found c.in-Moved.is)

pub returns-in-Missing : goal.returns-in-Missing
returns-in-Missing c = λ is. unfound_indexed (indices_at c.args.indices.now) c.args.aliases.now c.args.one.now (ap is_found c.in-Missing.is)
