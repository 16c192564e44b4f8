use Rattle.std.proofs.Common.{rules}
use Rattle.std.proofs.lemmas.List.Sorted.{answers_always, ranks_by}
use Rattle.std.proofs.lemmas.Result.{on_ok_weaker}
use Rattle.site_check.proofs.AnchorCounts.{lacks_total}
use Rattle.site_check.specs.AnchorGroups.{comes_first}
use Rattle.site_check.specs.LackedLinks.{lack_of}
use Rattle.site_check.proofs.missing_anchors.sort_by_anchor.Goals as goal

pub returns-clause-sorted : goal.returns-clause-sorted
returns-clause-sorted c =
    on_ok_weaker c.sort_by.result (λ sorted. sorted comes_first (ranks_by lacks_total lack_of) (answers_always _ _ _ (λ f a r g h. search rules))) c.sort_by.ensures.sorted
