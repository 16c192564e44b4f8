-- The error of a script with a line that has no text.
use Rattle.text_lines.specs.declared.lines.LineError.{LineError}
use Rattle.text_lines.specs.declared.lines.LineError.TheVariants.{TooLong, NotText}
use Rattle.crawl_replay.specs.declared.script.error.ScriptError.{ScriptError}
use Rattle.crawl_replay.specs.declared.script.error.ScriptError.TheVariants as wrong

-- the error of a script for this error of a line
abbrev pub error_of : LineError → ScriptError
error_of (TooLong number) = wrong.LineTooLong number
error_of (NotText number) = wrong.NotText number
