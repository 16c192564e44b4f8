use Rattle.session_log.proofs.Logs.{lists_done, lists_in_progress, lists_pending, lists_stats}
use Rattle.session_log.proofs.listing.list_lines.Goals.{in-Done+in_ok-give_lines-in-Done, in-Pending+in_ok-give_lines-in-Pending+in_ok-pending-in-Pending, in-InProgress+in_ok-give_lines-in-InProgress+in_ok-in_progress-in-InProgress, in-Stats+in_ok-give_lines-in-Stats+in_ok-stats-in-Stats}
use Rattle.session_log.proofs.listing.list_lines.Goals as goal

pub returns-clause-listed : goal.returns-clause-listed
returns-clause-listed g c =
    let form = c.args.lister.now.form in
    let none = c.new-text.ensures.items in
    elim c.match-kind.branch [
      | in-Done+in_ok-give_lines-in-Done w ↦ rw (w.in-Done.is, w.text-is) (lists_done form _ _ _ (rw none at w.in_ok-give_lines-in-Done.ensures.listed))
      | in-Pending+in_ok-give_lines-in-Pending+in_ok-pending-in-Pending w ↦ rw (w.in-Pending.is, w.text-is) (lists_pending form _ _ _ _ _ _ w.in_ok-give_lines-in-Pending.ensures.listed (rw none at w.in_ok-pending-in-Pending.ensures))
      | in-InProgress+in_ok-give_lines-in-InProgress+in_ok-in_progress-in-InProgress w ↦
          rw (w.in-InProgress.is, w.text-is) (lists_in_progress form _ _ _ _ _ _ w.in_ok-give_lines-in-InProgress.ensures.listed (rw none at w.in_ok-in_progress-in-InProgress.ensures))
      | in-Stats+in_ok-give_lines-in-Stats+in_ok-stats-in-Stats w ↦ rw (w.in-Stats.is, w.text-is) (lists_stats form _ _ _ _ _ _ w.in_ok-give_lines-in-Stats.ensures.listed (rw none at w.in_ok-stats-in-Stats.ensures))
    ]
