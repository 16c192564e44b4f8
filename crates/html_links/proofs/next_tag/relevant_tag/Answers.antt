use Rattle.html_links.proofs.Prelude.{◌∙◌, ◌∷◌, ◌<◌, ap, arith, length, map, refl, lower, names_of_attributes, values_at, seen_with}
use Rattle.html_links.proofs.Passing.{seen_start, text_less, has_same}
use Rattle.html_links.specs.Seen.{sheet_of}
use Rattle.html_links.proofs.next_tag.relevant_tag.Goals as goal

pub returns-in-Some-after_contents : goal.returns-in-Some-after_contents
returns-in-Some-after_contents c =
    let less : length c.in-Some.text.now < length c.args.bytes.now = text_less (names_of_attributes c.element_at-element.result) (values_at c.values_in.new.values) c.in-Some.text.now c.args.bytes.now c.in-Some.ensures in (
      has_same _ _
          (seen_start c.args.context c.tag_context-own.result (map lower c.args.name.now) c.args.bytes.now c.element_at-element.result (values_at c.values_in.new.values) c.in-Some.text.now _
          c.tag_context-own.ensures c.element_at-element.ensures c.in-Some.ensures refl
          ∙ ap (λ seen. seen_with (map lower c.args.name.now) c.element_at-element.result (values_at c.values_in.new.values) (sheet_of c.tag_context-own.result (map lower c.args.name.now) c.values_in.new.values.self_closing c.in-Some.text.now) (length c.in-Some.text.now) ∷ seen) c.in-Some-after_contents.ensures.reads),
      omega (arith, c.in-Some-after_contents.ensures.leaves),
    )

pub returns-in-None : goal.returns-in-None
returns-in-None c =
    let less : length c.in-Some.text.now < length c.args.bytes.now = text_less (names_of_attributes c.element_at-element.result) (values_at c.values_in.new.values) c.in-Some.text.now c.args.bytes.now c.in-Some.ensures in (
      has_same _ _
          (seen_start c.args.context c.tag_context-own.result (map lower c.args.name.now) c.args.bytes.now c.element_at-element.result (values_at c.values_in.new.values) c.in-Some.text.now _
          c.tag_context-own.ensures c.element_at-element.ensures c.in-Some.ensures refl
          ∙ ap (λ seen. seen_with (map lower c.args.name.now) c.element_at-element.result (values_at c.values_in.new.values) (sheet_of c.tag_context-own.result (map lower c.args.name.now) c.values_in.new.values.self_closing c.in-Some.text.now) (length c.in-Some.text.now) ∷ seen) c.in-None.ensures.reads),
      omega arith,
    )
