use Rattle.site_check.proofs.Prelude.{Global, IfOk-weaker, ◌≡◌, ◌∙◌, ◌∷◌, ◌++◌, ap, arith, drop, subst, sym, take-append-drop}
use Rattle.std.proofs.Common.{String, codes, option_map}
use Rattle.std.proofs.lemmas.Str.Pattern.{NoCharPasses-char, drop_at_char}
use Rattle.site_check.proofs.FileNames.{file_only, file_cut, folder_only, folder_cut}
use Rattle.site_check.proofs.Outsides.{IsName}
use Rattle.site_check.specs.Hints.{marked}
use Rattle.site_check.proofs.hints.index_text.Goals as goal

pub returns-in-Some : goal.returns-in-Some
returns-in-Some c =
    let path = c.args.path.now in
    let query = option_map (λ q. q.now) c.args.query in
    let folder = c.in-Some.folder.now in
    let file = c.in-Some.file.now in
    let cut = c.in-Some.ensures.cases in
    let slash = drop_at_char 47 path cut.0 cut.1 cut.2.1 (omega arith) in
    let whole : path ≡ folder ++ 47 ∷ file =
    sym (take-append-drop cut.0 path) ∙ (λ i. sym cut.3 i ++ (slash ∙ ap (λ rest. 47 ∷ rest) (sym cut.4)) i) in
    let free : IsName (drop cut.1 path) = λ i below. NoCharPasses-char 47 (drop cut.1 path) i cut.2.0 (omega arith) below in
    let last = file_cut path folder file whole (subst IsName (sym cut.4) free) in
    let front = folder_cut path folder file whole (subst IsName (sym cut.4) free) in
    IfOk-weaker c.folder_text.result _ _ (λ (text : String Global) own. own ∙ (λ i. front i ++ codes "/ has " ++ last i ++ marked query ++ codes ": --index-file " ++ last i)) c.folder_text.ensures

pub returns-in-None : goal.returns-in-None
returns-in-None c =
    let path = c.args.path.now in
    let query = option_map (λ q. q.now) c.args.query in
    let free : IsName path = λ i below. NoCharPasses-char 47 path i c.in-None.ensures.cases (omega arith) below in
    let last = file_only path free in
    let front = folder_only path free in
    IfOk-weaker c.folder_text-in-None.result _ _ (λ (text : String Global) own. own ∙ (λ i. front i ++ codes "/ has " ++ last i ++ marked query ++ codes ": --index-file " ++ last i)) c.folder_text-in-None.ensures
