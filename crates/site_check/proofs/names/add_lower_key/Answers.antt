use Rattle.site_check.proofs.Prelude.{◌∙◌, cond, ap, Some, bytes_eq-Decides, bytes_eq, known_with}
use Rattle.site_check.proofs.Namesakes.{known_put, lower_put}
use Rattle.site_check.specs.Names.{lower_at}
use Rattle.site_check.proofs.names.add_lower_key.Goals as goal

pub returns : goal.returns
returns c = λ other.
    let old = c.args.keys.now in
    let name = c.args.text.items in
    lower_put old c.insert.new.self c.args.text (Some c.known_with-known.result) c.in_ok-insert.ensures.updates other
    ∙ ap (λ k. cond (bytes_eq name other) (Some k) (lower_at old other))
    (c.known_with-known.ensures ∙ ap (λ o. known_with o c.args.number) (c.get.ensures.value ∙ ap (lower_at old) c.as_slice.ensures.value))
    ∙ known_put (bytes_eq name other) (lower_at old name) (lower_at old other) c.args.number (λ same. ap (lower_at old) ((bytes_eq-Decides name other).0 same))
