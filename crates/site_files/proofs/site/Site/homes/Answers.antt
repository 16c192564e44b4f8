use Rattle.std.proofs.Common.{List, subst}
use Rattle.site_files.specs.Entries.{Adds, server_at, texts}
use Rattle.site_files.specs.Hints.{home_pages}
use Rattle.site_files.specs.declared.page_table.Entry.{Entry}
use Rattle.site_files.proofs.OtherRules.{homes_of}
use Rattle.site_files.proofs.site.Site.homes.Goals as goal

pub returns-clause-homes : goal.returns-clause-homes
returns-clause-homes c =
    let server = server_at c.args.rules.now c.args.self.now in
    let names = texts c.args.names.now in
    let new = c.push_homes.new.entries.items in
    let P : List Entry → Type 0 = λ old. Adds old new (home_pages server names) in
    homes_of server names new c.in_ok-homes.homes (subst P c.new-entries.ensures.items c.in_ok-push_homes.ensures.pages) c.in_ok-homes.ensures
