use Rattle.site_check.proofs.Prelude.{◌≡◌, ◌∙◌, ◌∷◌, Some, None, true, false, length, ap, sym, arith, length-append, bytes_eq, bytes_eq-Decides}
use Rattle.std.proofs.Common.{rules, true≢false}
use Rattle.std.proofs.lemmas.Str.Pattern.{split_parts}
use Rattle.site_check.proofs.Outsides.{path_below, path_differs, path_of_top, path_of_url}
use Rattle.site_check.proofs.leaving.shared_folder.Goals as goal

pub returns-then-eq : goal.returns-then-eq
returns-then-eq c =
    let name = c.in-Some.folder in
    let other = c.in-Some-split_once.other in
    let above = split_parts 47 c.args.top.now (Some (name, c.in-Some.below)) c.in-Some.ensures.cases (omega arith) in
    let ahead = split_parts 47 c.args.url.now (Some (other, c.in-Some-split_once.following)) c.in-Some-split_once.ensures.cases (omega arith) in
    let is : bytes_eq name.now other.now ≡ true = search rules in (
      path_below c.args.top.now c.args.url.now name.now c.in-Some.below.now other.now c.in-Some-split_once.following.now above.0 ahead.0 above.1 ((bytes_eq-Decides name.now other.now).0 is),
      omega (arith, ap length above.0, length-append name.now (47 ∷ c.in-Some.below.now)),
    )

pub returns-else-eq : goal.returns-else-eq
returns-else-eq c =
    let name = c.in-Some.folder in
    let other = c.in-Some-split_once.other in
    let above = split_parts 47 c.args.top.now (Some (name, c.in-Some.below)) c.in-Some.ensures.cases (omega arith) in
    let ahead = split_parts 47 c.args.url.now (Some (other, c.in-Some-split_once.following)) c.in-Some-split_once.ensures.cases (omega arith) in
    let off : bytes_eq name.now other.now ≡ false = search rules in
    path_differs c.args.top.now c.args.url.now name.now c.in-Some.below.now other.now c.in-Some-split_once.following.now above.0 ahead.0 above.1 ahead.1
    (λ e. true≢false (sym ((bytes_eq-Decides name.now other.now).1 e) ∙ off))

pub returns-in-None-split_once : goal.returns-in-None-split_once
returns-in-None-split_once c = path_of_url c.args.top.now c.args.url.now (split_parts 47 c.args.url.now None c.in-None-split_once.ensures.cases (omega arith))

pub returns-in-None : goal.returns-in-None
returns-in-None c = path_of_top c.args.top.now c.args.url.now (split_parts 47 c.args.top.now None c.in-None.ensures.cases (omega arith))
