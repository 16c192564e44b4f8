use Rattle.site_check.proofs.Prelude.{◌≡◌, count_at, drop, often_first, pointed}
use Rattle.site_check.proofs.base.often_first.Given as goal

abbrev pub invariant-loop-folder : goal.invariant-loop-folder
invariant-loop-folder l = often_first l.of (count_at l.counts) (pointed (drop l.folder-index l.folders)) ≡ often_first l.of (count_at l.counts) (pointed l.folders)
