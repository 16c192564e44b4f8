use Rattle.html_links.proofs.Prelude.{◌∙◌, ◌∷◌, ◌++◌, ◌<◌, ap, arith, length, map, refl, sym, lower, tag_at, tag_of, tags_of, Start, start_tag_at, start_tags, tag_context, inner_context, values_at, names_of_attributes}
use Rattle.html_links.proofs.Documents.{nothing_more, read_text, read_less, read_open_end_tag, read_open_start_tag, none_tag, end_starts, end_less, one_more, last_one, read_start_tag, start_less, start_content, cut_shorter}
use Rattle.html_links.proofs.document.tags.Goals as goal

pub returns-in_default : goal.returns-in_default
returns-in_default c = nothing_more c.markup.context (map start_tag_at c.markup.tags.items) (tags_of c.args.bytes.now) c.markup.rest.now c.markup.invariant (read_text c.markup.context c.markup.rest.now c.in_default.ensures)

pub returns-in-Unfinished : goal.returns-in-Unfinished
returns-in-Unfinished c = nothing_more c.markup.context (map start_tag_at c.markup.tags.items) (tags_of c.args.bytes.now) c.markup.rest.now c.markup.invariant (read_less c.markup.context c.markup.rest.now c.in-Some.opened.now c.in-Some.ensures.1 ∙ c.in-Unfinished.ensures.reads)

pub markup-preserved : goal.markup-preserved
markup-preserved c = ap (λ more. map start_tag_at c.markup.tags.items ++ start_tags more) (sym (read_less c.markup.context c.markup.rest.now c.in-Some.opened.now c.in-Some.ensures.1 ∙ c.in-Other.ensures.reads)) ∙ c.markup.invariant

pub markup-smaller : goal.markup-smaller
markup-smaller c = grind (arith, cut_shorter)

pub returns-in_default-after_tag : goal.returns-in_default-after_tag
returns-in_default-after_tag c =
    nothing_more c.markup.context (map start_tag_at c.markup.tags.items) (tags_of c.args.bytes.now) c.markup.rest.now c.markup.invariant
    (read_open_end_tag c.markup.context c.markup.rest.now c.in-Some.opened.now (map lower c.in-End.name.now) c.in-End.more.now c.in-Some.ensures.1 c.in-End.ensures.reads c.in_default-after_tag.ensures)

pub markup-preserved-in-End : goal.markup-preserved-in-End
markup-preserved-in-End c =
    ap (λ more. map start_tag_at c.markup.tags.items ++ more)
    (end_starts c.markup.context c.outer_context-context.result c.markup.rest.now c.in-Some.opened.now (map lower c.in-End.name.now) c.in-End.more.now c.in-Some-after_tag.last.now c.in-Some.ensures.1 c.in-End.ensures.reads c.in-Some-after_tag.ensures c.outer_context-context.ensures)
    ∙ c.markup.invariant

pub markup-smaller-in-End : goal.markup-smaller-in-End
markup-smaller-in-End c = end_less c.markup.rest.now c.in-Some.opened.now c.in-End.more.now _ c.in-Some.ensures.1 c.in-End.ensures.leaves c.in-Some-after_tag.ensures

pub returns-in_default-values_in : goal.returns-in_default-values_in
returns-in_default-values_in c =
    nothing_more c.markup.context (map start_tag_at c.markup.tags.items) (tags_of c.args.bytes.now) c.markup.rest.now c.markup.invariant
    (read_open_start_tag c.markup.context c.markup.rest.now c.in-Some.opened.now (map lower c.in-Start.name.now) c.in-Start.more.now c.in-Some.ensures.1 c.in-Start.ensures.reads
    (none_tag (names_of_attributes c.element_at-element.result) (tag_of c.in-Start.more.now) c.in_default-values_in.ensures))

pub markup-preserved-in-Start : goal.markup-preserved-in-Start
markup-preserved-in-Start c =
    one_more c.markup.context _ c.markup.tags.items c.push.new.self.items _ (tags_of c.args.bytes.now) _ c.markup.rest.now _ c.markup.invariant c.in_ok-push-in-Start.ensures.items
    (read_start_tag c.markup.context c.markup.rest.now c.in-Some.opened.now (map lower c.in-Start.name.now) c.in-Start.more.now _ c.in-Some.ensures.1 c.in-Start.ensures.reads (ap tag_at (sym c.in-Some-2.is) ∙ c.in_ok-found-in-Start.ensures)
    ∙ ap (λ more. Start (tag_context c.markup.context (map lower c.in-Start.name.now)) (start_tag_at (record { name = c.in-Start.name; attributes = c.in-Some-2.found.attributes; self_closing = c.in-Some-2.found.self_closing })) c.in-Some-2.found.rest.now ∷ more)
    (start_content c.markup.context c.tag_context-own.result c.inner_context-context.result (map lower c.in-Start.name.now) c.in-Start.more.now c.element_at-element.result (values_at c.values_in.new.values) c.in-Some-values_in.field-0.now _ c.tag_context-own.ensures c.element_at-element.ensures c.inner_context-context.ensures (ap tag_at (sym c.in-Some-2.is) ∙ c.in_ok-found-in-Start.ensures) c.in-Some-values_in.ensures
    ∙ c.in-Some-after_element.ensures.reads c.inner_context-context.result))

pub returns-in_default-after_element : goal.returns-in_default-after_element
returns-in_default-after_element c =
    last_one (map start_tag_at c.push.new.self.items) (tags_of c.args.bytes.now) _
    (one_more c.markup.context _ c.markup.tags.items c.push.new.self.items _ (tags_of c.args.bytes.now) _ c.markup.rest.now _ c.markup.invariant c.in_ok-push-in-Start.ensures.items
    (read_start_tag c.markup.context c.markup.rest.now c.in-Some.opened.now (map lower c.in-Start.name.now) c.in-Start.more.now _ c.in-Some.ensures.1 c.in-Start.ensures.reads (ap tag_at (sym c.in-Some-2.is) ∙ c.in_ok-found-in-Start.ensures)))
    (start_content c.markup.context c.tag_context-own.result (inner_context c.tag_context-own.result (map lower c.in-Start.name.now) c.element_at-element.result (values_at c.values_in.new.values)) (map lower c.in-Start.name.now) c.in-Start.more.now c.element_at-element.result (values_at c.values_in.new.values) c.in-Some-values_in.field-0.now _ c.tag_context-own.ensures c.element_at-element.ensures refl (ap tag_at (sym c.in-Some-2.is) ∙ c.in_ok-found-in-Start.ensures) c.in-Some-values_in.ensures
    ∙ c.in_default-after_element.ensures.reads _)

pub markup-smaller-in-Start : goal.markup-smaller-in-Start
markup-smaller-in-Start c =
    let less : length c.in-Some-2.found.rest.now < length c.markup.rest.now =
    start_less c.markup.rest.now c.in-Some.opened.now c.in-Start.more.now _ c.in-Some.ensures.1 c.in-Start.ensures.leaves (ap tag_at (sym c.in-Some-2.is) ∙ c.in_ok-found-in-Start.ensures) in
    omega (arith, c.in-Some-after_element.ensures.leaves)
