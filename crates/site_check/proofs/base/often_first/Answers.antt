use Rattle.site_check.proofs.Prelude.{count_at, get_or}
use Rattle.std.proofs.lemmas.List.{get_or_default}
use Rattle.site_check.proofs.RootFolders.{often_skip}
use Rattle.site_check.proofs.base.often_first.Goals as goal

pub loop-folder-preserved : goal.loop-folder-preserved
loop-folder-preserved c =
    often_skip c.args.of (count_at c.args.counts.now) c.args.folders.now c.loop-folder.folder-index (get_or c.args.folders.now c.loop-folder.folder-index _) c.is_often_first.result _ c.loop-folder-test.true
    (get_or_default c.args.folders.now c.loop-folder.folder-index _ _ c.loop-folder-test.true) c.is_often_first.ensures c.if-is_often_first.false c.loop-folder.invariant
