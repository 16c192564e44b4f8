use Rattle.site_check.proofs.Prelude.{◌∙◌, cond, ap, Some, bytes_eq-Decides, bytes_eq, known_with, named_at}
use Rattle.site_check.proofs.Namesakes.{known_put, name_put}
use Rattle.site_check.proofs.names.add_name.Goals as goal

pub returns : goal.returns
returns c = λ other.
    let old = c.args.names.now in
    let name = c.args.name.now in
    name_put old c.insert.new.self c.args.name (Some c.known_with-known.result) c.in_ok-insert.ensures.updates other
    ∙ ap (λ k. cond (bytes_eq name other) (Some k) (named_at old other)) (c.known_with-known.ensures ∙ ap (λ o. known_with o c.args.number) c.get.ensures.value)
    ∙ known_put (bytes_eq name other) (named_at old name) (named_at old other) c.args.number (λ same. ap (named_at old) ((bytes_eq-Decides name other).0 same))
