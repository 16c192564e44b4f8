use Rattle.site_check.proofs.Prelude.{drop}
use Rattle.site_check.proofs.RootFolders.{AreCounts}
use Rattle.site_check.proofs.base.path_counts.Given as goal

abbrev pub invariant-loop-folder : goal.invariant-loop-folder
invariant-loop-folder l = AreCounts l.counts (drop l.folder-index l.folders) l.folders
