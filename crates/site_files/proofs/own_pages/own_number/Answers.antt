use Rattle.std.proofs.Common.{◌≡◌, ℕ, ◌+◌, true, Global, String, Option, List, ◌++◌, drop, string_bytes, ap, subst, sym, ◌∙◌}
use Rattle.std.specs.Prelude.{is_some}
use Rattle.std.specs.List.{filter_map}
use Rattle.std.specs.Option.{option_to_list}
use Rattle.site_files.specs.Entries.{server_at, texts}
use Rattle.site_files.specs.Own.{FindsOwn, own_among}
use Rattle.site_files.specs.Pages.{folder_texts, index_text}
use Rattle.site_files.proofs.Listing.{made_left}
use Rattle.site_files.proofs.OwnPages.{own_found}
use Rattle.site_files.proofs.own_pages.own_number.Goals as goal

pub returns-then-is_some-clause-own : goal.returns-then-is_some-clause-own
returns-then-is_some-clause-own c =
    let server = server_at c.args.rules.now c.args.site.now in
    let f : List ℕ → Option (List ℕ) = index_text server c.args.index c.args.name.now in
    let i = c.indices.index_file-index in
    let one = c.index_file-item.result in
    let P : List (String Global) → Type 0 = λ files. filter_map f (texts (drop i files)) ≡ option_to_list (f (string_bytes one)) ++ filter_map f (texts (drop (i + 1) files)) in
    let left = subst P c.deref-index_file-items.ensures.value (made_left f c.deref-index_file-items.result.now i one c.indices-test.true (sym c.index_file-item.is)) in
    let Q : List ℕ → Type 0 = λ text. FindsOwn c.args.pages.now c.args.index (option_to_list (f text)) c.in_ok-number.number in
    let own = subst Q c.as_str.ensures.value c.in_ok-number.ensures.own in
    let some : is_some c.in_ok-number.number ≡ true = cc in
    let rest = filter_map f (texts (drop (i + 1) c.args.rules.now.index_files.items)) in
    own_found c.args.pages.now c.args.index (option_to_list (f (string_bytes one))) rest (folder_texts server c.args.index c.args.name.now) c.in_ok-number.number some own
    (ap (own_among c.args.pages.now c.args.index) (sym left) ∙ c.indices.invariant)
