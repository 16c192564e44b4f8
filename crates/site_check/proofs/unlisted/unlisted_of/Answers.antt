use Rattle.site_check.proofs.Prelude.{Vec, Global, ◌∙◌, IfOk-weaker, filter, is_in, is_missed, is_other_of, list_any, map, shown}
use Rattle.std.specs.Prelude.{String}
use Rattle.site_check.proofs.unlisted.unlisted_of.Goals as goal

-- the sets have the listed URLs, and the own URLs of listed aliases
pub returns : goal.returns
returns c =
    let listed = c.in_ok-listed.listed in
    let owns = c.in_ok-owns.owns in
    let aliases = c.args.aliases.now in
    IfOk-weaker c.in_neither.result _ _
    (λ (all : Vec (String Global) Global) own. own ∙ (λ i. map (shown c.args.front.now) (filter (is_missed (is_in listed) (λ url. c.in_ok-owns.ensures url i)) c.args.documents.now))
    ∙ (λ i. map (shown c.args.front.now) (filter (is_missed (λ url. c.in_ok-listed.ensures url i) (λ url. list_any (is_other_of (λ other. c.in_ok-listed.ensures other i) url) aliases)) c.args.documents.now)))
    c.in_neither.ensures
