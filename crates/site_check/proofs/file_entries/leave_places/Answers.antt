use Rattle.site_check.proofs.Prelude.{map, not, string_bytes, is_place_ignored}
use Rattle.std.proofs.Common.{rules}
use Rattle.std.proofs.lemmas.Fn.{filter_same}
use Rattle.check_report.specs.declared.value.Place.{Place}
use Rattle.site_check.proofs.file_entries.leave_places.Goals as goal

pub returns : goal.returns
returns c =
    filter_same _ (λ (place : Place). not (is_place_ignored (map string_bytes c.args.entries.now) c.args.target.now (string_bytes place.file))) _ (λ x b f' k. search rules) _ _
    c.retain.ensures.filtered
