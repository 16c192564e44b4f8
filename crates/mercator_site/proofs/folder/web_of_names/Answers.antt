use Rattle.mercator_site.proofs.Prelude.{ℕ, List, Result, Ok, Err, IfOk, string_bytes, subst, rules, IsTop}
use Rattle.mercator_site.specs.declared.error.FolderError.{FolderError}
use Rattle.saved_site.specs.Below.{IsWebAt, IsWebBelow}
use Rattle.mercator_site.proofs.folder.web_of_names.Goals as goal

web_at : (answer : Result (List ℕ) FolderError) (base top : List ℕ) → IsTop base top → IfOk answer (IsWebBelow top) → IfOk answer (IsWebAt base)
web_at (Ok text) base top is_top below = record { top = top; is_top = is_top; below = below }
web_at (Err error) base top is_top below = tt

pub returns-clause-below : goal.returns-clause-below
returns-clause-below g c =
    let top = string_bytes c.in_ok-files.files.site.top in
    web_at c.web_of_files.result (string_bytes c.args.options.now.base) top (subst (λ base. IsTop base top) (search rules) c.in_ok-files.ensures.top) c.web_of_files.ensures.below
