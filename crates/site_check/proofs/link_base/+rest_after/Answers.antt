use Rattle.site_check.proofs.Prelude.{Some, None, arith}
use Rattle.std.proofs.lemmas.Str.Pattern.{split_parts}
use Rattle.site_check.proofs.LinkFolders.{rest_more, rest_none}
use Rattle.site_check.proofs.link_base.+rest_after.Goals as goal

pub returns-in-Some : goal.returns-in-Some
returns-in-Some t c =
    let parts = split_parts 47 c.args.url.now (Some (c.in-Some.part, c.in-Some.rest)) c.in-Some.ensures.cases (omega arith) in
    rest_more c.args.slashes c.args.url.now c.in-Some.part.now c.in-Some.rest.now _ c.if-slashes-eq0.false parts.0 parts.1 c.rest_after.ensures

pub returns-in-None : goal.returns-in-None
returns-in-None t c = rest_none c.args.slashes c.args.url.now c.if-slashes-eq0.false (split_parts 47 c.args.url.now None c.in-None.ensures.cases (omega arith))
