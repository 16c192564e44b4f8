-- The errors of a log: their exit statuses and texts.
use Rattle.std.specs.Prelude.{ℕ, List, ◌++◌, codes, decimal}
use Rattle.crawl_session.specs.declared.rebuild.RebuildError.{RebuildError}
use Rattle.crawl_session.specs.declared.rebuild.RebuildError.TheVariants as rebuild
use Rattle.session_log.specs.declared.error.LogError.{LogError}
use Rattle.session_log.specs.declared.error.LogError.TheVariants as unlogged
use Rattle.session_log.specs.declared.error.Setting.{Setting}
use Rattle.session_log.specs.declared.error.Setting.TheVariants as other

-- the exit status for an error of a log: 5 if another program uses it, otherwise 1
abbrev pub status_of_log : LogError → ℕ
status_of_log unlogged.InUse = 5
status_of_log why = 1

-- the setting of a log that is not that of the command line
abbrev pub setting_text : Setting → List ℕ
setting_text (other.Part number parts) = codes "made with --part " ++ decimal number ++ codes "/" ++ decimal parts
setting_text other.NoPart = codes "made without --part"
setting_text other.Within = codes "made with another --within: see its first line"
setting_text other.NoWithin = codes "made without --within"
setting_text (other.Workers workers) = codes "made with --workers " ++ decimal workers
setting_text (other.MaxPending max) = codes "made with --max-pending " ++ decimal max

-- why a log cannot be used
abbrev pub log_text : LogError → List ℕ
log_text unlogged.CannotOpen = codes "cannot open"
log_text unlogged.InUse = codes "in use by another program"
log_text unlogged.CannotRead = codes "cannot read"
log_text unlogged.NotALog = codes "not a log"
log_text (unlogged.OtherSettings setting) = setting_text setting
log_text (unlogged.Damaged right wrong) = codes "damaged between lines " ++ decimal right ++ codes " and " ++ decimal wrong
log_text unlogged.CannotWrite = codes "cannot write"
log_text unlogged.Changed = codes "changed by another program"
log_text unlogged.NoRoom = codes "more unfinished URLs than --max-pending allows"
log_text unlogged.LongUrl = codes "has a URL that is too long for an offer"
log_text unlogged.CannotMakeNew = codes "cannot create the new log, which must not exist"
log_text unlogged.CannotWriteNew = codes "cannot write the new log"
log_text unlogged.NoMemory = codes "out of memory"

-- why no log with other settings was written; it is written to memory first, so a failed write is the same as no memory
abbrev pub of_rebuild : RebuildError → LogError
of_rebuild rebuild.Full = unlogged.NoRoom
of_rebuild rebuild.Unfit = unlogged.LongUrl
of_rebuild rebuild.CannotWrite = unlogged.NoMemory
of_rebuild rebuild.NoMemory = unlogged.NoMemory
