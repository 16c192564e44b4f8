use Rattle.std.proofs.Common.{◌≡◌, ℕ, List, Option, Some, ap, subst, sym, ◌∙◌, string_bytes}
use Rattle.std.specs.Prelude.{IfOk}
use Rattle.std.specs.Option.{option_map}
use Rattle.site_files.specs.Entries.{LeadsTo, entry_at, host_of}
use Rattle.site_files.specs.Files.{server_of}
use Rattle.site_files.specs.Links.{own_in}
use Rattle.site_files.specs.Pages.{found_at}
use Rattle.site_files.specs.Server.{accepted_key}
use Rattle.site_files.proofs.files.SiteFiles.look_up.Goals as goal

pub returns-in-Some : goal.returns-in-Some
returns-in-Some c = λ missing.
    let files = c.args.self.now in
    let P : Option (List ℕ) → Type 0 =
    λ plain. IfOk c.look_up_plain.result (λ found. LeadsTo files.pages (found_at (entry_at files.pages) (own_in files.linked) (host_of files.rules.now) plain) found) in
    let same : Some (string_bytes c.in-Some.plain) ≡ accepted_key (server_of files) c.args.url.now =
    ap (option_map string_bytes) (sym c.in-Some.is) ∙ c.in_ok-plain.ensures ∙ ap (accepted_key (server_of files)) c.as_str-2.ensures.value in
    subst P same (subst (λ text. P (Some text)) c.as_str-in-Some.ensures.value c.look_up_plain.ensures)
