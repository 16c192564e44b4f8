use Rattle.site_check.proofs.Prelude.{◌≡◌, ◌∙◌, true, ap, map, invalid_in, link_text, once, text_of, texts_in}
use Rattle.std.proofs.Common.{rules}
use Rattle.site_check.proofs.TextsOnce.{are_texts}
use Rattle.site_check.proofs.invalid.invalid_texts.Goals as goal

pub returns : goal.returns
returns c =
    let listed : c.args.input.scope.invalid ≡ true = search rules in
    are_texts c.args.input.scope.invalid (texts_in (invalid_in c.args.input.places.now) c.args.results.now) (map link_text c.in_ok-links.links.items) (map text_of c.in_ok-texts.texts.items)
    listed c.in_ok-links.ensures.sorted c.in_ok-links.ensures.same (c.in_ok-texts.ensures ∙ ap (λ ls. once (map link_text ls)) c.as_slice.ensures.value)
