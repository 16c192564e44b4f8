use Rattle.check_report.proofs.Prelude.{string_bytes}
use Rattle.check_report.proofs.Adding.{last_joined}
use Rattle.check_report.proofs.hints.push_folder_end.Goals as goal

pub returns : goal.returns
returns c =
    last_joined c.push_around.result (string_bytes c.args.text.now) (string_bytes c.push_str.new.self) (string_bytes c.push_around.new.text) _ _ c.in_ok-push_str.ensures.bytes c.push_around.ensures
