use Rattle.std.proofs.Common.{◌++◌, List, ℕ, map, string_bytes, subst, sym}
use Rattle.std.specs.Option.{option_to_list}
use Rattle.site_files.specs.Entries.{Adds, expected, listed, server_at, texts}
use Rattle.site_files.specs.Hints.{home_page, home_pages}
use Rattle.site_files.specs.Pages.{Page}
use Rattle.site_files.proofs.Listing.{Leaves, continued, numbered_left}
use Rattle.site_files.proofs.site.Site.push_homes.Goals as goal

pub names-preserved : goal.names-preserved
names-preserved c =
    let server = server_at c.args.rules.now c.args.self.now in
    let name = c.index-names-index.result in
    let left = numbered_left (home_page server) c.args.names.now c.names.index name c.names-test.true (sym c.index-names-index.is) in
    let Q : List ℕ → Type 0 = λ text. Adds c.names.entries.items c.push_home.new.entries.items (option_to_list (home_page server c.names.index text)) in
    let adds = subst Q c.as_str.ensures.value c.in_ok-push_home.ensures.page in
    let all = map listed c.args.entries.now.items ++ map expected (home_pages server (texts c.args.names.now)) in
    continued all c.names.entries.items c.push_home.new.entries.items (option_to_list (home_page server c.names.index (string_bytes name))) _ adds
    (subst (λ (pages : List Page). Leaves all c.names.entries.items pages) left c.names.invariant)
