use Rattle.std.proofs.Common.{ℕ, ◌+◌, Option, List, arith, string_bytes, subst, sym}
use Rattle.std.proofs.lemmas.List.{length-map}
use Rattle.site_files.specs.Entries.{server_at, texts}
use Rattle.site_files.specs.Own.{FindsOwn}
use Rattle.site_files.specs.Pages.{folder_texts}
use Rattle.site_files.proofs.OwnPages.{OwnSoFar, all_own, own_next}
use Rattle.site_files.proofs.own_pages.own_numbers.Goals as goal

pub names-preserved : goal.names-preserved
names-preserved c =
    let server = server_at c.args.rules.now c.args.site.now in
    let pages = c.args.pages.now in
    let i = c.names.index in
    let name = c.index-names-index.result in
    let found = c.in_ok-own_number.field-0 in
    let Q : List ℕ → Type 0 = λ text. FindsOwn pages i (folder_texts server i text) found in
    let own = subst Q c.as_str.ensures.value c.in_ok-own_number.ensures.own in
    let next = own_next server pages c.args.names.now c.names.own.items i name found c.names-test.true (sym c.index-names-index.is) own c.names.invariant in
    let S : List (Option ℕ) → Type 0 = λ numbers. OwnSoFar server pages (texts c.args.names.now) numbers (i + 1) in
    subst S (sym c.in_ok-push.ensures.items) next

pub returns-clause-own : goal.returns-clause-own
returns-clause-own c =
    all_own _ _ (texts c.args.names.now) _ c.names.index
    (omega (arith, c.names-test.false, length-map c.args.names.now string_bytes)) c.names.invariant
