-- The pages that folders have under other rules.
use Rattle.std.proofs.Common.{◌≡◌, ℕ, ◌||◌, List, [], ◌∷◌, Global, String, string_bytes, refl, ap, ◌∙◌}
use Rattle.std.specs.List.{list_any}
use Rattle.std.specs.Str.{bytes_eq}
use Rattle.site_files.specs.Entries.{IsOnce, Lists, texts}
use Rattle.site_files.specs.Hints.{HasHomes, has_name, home_pages}
use Rattle.site_files.specs.Server.{Server}
use Rattle.site_files.specs.declared.page_table.Entry.{Entry}
use Rattle.site_files.proofs.Table.{first-lists}

pub homes_of : (server : Server) (names : List (List ℕ)) (given kept : List Entry) → Lists given (home_pages server names) → IsOnce given kept → HasHomes server names kept
homes_of server names given kept lists once = record {
  homes = λ url. once.keeps url ∙ first-lists url given (home_pages server names) lists;
}

pub name_listed : (name : List ℕ) (index_files : List (String Global)) → has_name name index_files ≡ list_any (bytes_eq name) (texts index_files)
name_listed name [] = refl
name_listed name (text ∷ more) = ap (λ b. bytes_eq name (string_bytes text) || b) (name_listed name more)
