use Rattle.html_links.proofs.Prelude.{◌∙◌, ◌<◌, length, map, sym, true, false, ℕ, List, length-map, to_ascii_lowercase}
use Rattle.html_links.proofs.RawTexts.{read_less, read_no_less, no_slash, read_end, raw_less, opened_less}
use Rattle.html_links.proofs.raw_text.after_raw_text.Goals as goal

pub returns-in_default : goal.returns-in_default
returns-in_default c = sym (read_no_less (map to_ascii_lowercase c.args.name.now) c.tags.rest.now c.in_default.ensures) ∙ c.tags.invariant

some_name : (name : List ℕ) → 0 < length name → 0 < length (map to_ascii_lowercase name)
some_name name some = simp length-map some

pub returns-then-is_end : goal.returns-then-is_end
returns-then-is_end c =
    let name = map to_ascii_lowercase c.args.name.now in
    sym (read_less name c.tags.rest.now c.in-Some.opened.now c.in-Some.ensures.1
    ∙ read_end name c.in-Some.opened.now c.in-Some-after_byte.slashed.now c.split_letters.result.0.now c.split_letters.result.1.now true (some_name c.args.name.now c.requires) c.in-Some-after_byte.ensures
    c.split_letters.ensures.letters c.split_letters.ensures.rest (sym c.is_end.ensures ∙ c.if-is_end.true))
    ∙ c.tags.invariant

pub tags-smaller-in-Some-after_byte : goal.tags-smaller-in-Some-after_byte
tags-smaller-in-Some-after_byte c = raw_less c.tags.rest.now c.in-Some.opened.now c.in-Some-after_byte.slashed.now c.split_letters.result.1.now c.in-Some.ensures.1 c.in-Some-after_byte.ensures c.split_letters.ensures.rest

pub tags-preserved-in-Some-after_byte : goal.tags-preserved-in-Some-after_byte
tags-preserved-in-Some-after_byte c =
    let name = map to_ascii_lowercase c.args.name.now in
    sym (read_less name c.tags.rest.now c.in-Some.opened.now c.in-Some.ensures.1
    ∙ read_end name c.in-Some.opened.now c.in-Some-after_byte.slashed.now c.split_letters.result.0.now c.split_letters.result.1.now false (some_name c.args.name.now c.requires) c.in-Some-after_byte.ensures
    c.split_letters.ensures.letters c.split_letters.ensures.rest (sym c.is_end.ensures ∙ c.if-is_end.false))
    ∙ c.tags.invariant

pub tags-smaller : goal.tags-smaller
tags-smaller c = opened_less c.tags.rest.now c.in-Some.opened.now c.in-Some.ensures.1

pub tags-preserved : goal.tags-preserved
tags-preserved c =
    let name = map to_ascii_lowercase c.args.name.now in
    sym (read_less name c.tags.rest.now c.in-Some.opened.now c.in-Some.ensures.1 ∙ no_slash name c.in-Some.opened.now c.in-None.ensures) ∙ c.tags.invariant
