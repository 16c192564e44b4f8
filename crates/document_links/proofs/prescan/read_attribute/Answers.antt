use Rattle.document_links.proofs.Prelude.{◌+◌, ◌∙◌, ap, arith, length, subst, sym}
use Rattle.std.specs.Char.{is_ascii_whitespace}
use Rattle.html_links.specs.Shown.{Stopped}
use Rattle.html_links.proofs.Jumps.{shorter, stopped}
use Rattle.document_links.specs.Prescan.{after_spaces}
use Rattle.document_links.proofs.Prescanning.{leaves_more, name_shorter, read_bare, read_equals}
use Rattle.document_links.proofs.prescan.read_attribute.Goals as goal

pub read_value-requires : goal.read_value-requires
read_value-requires c = subst (Stopped is_ascii_whitespace) (sym c.skip_spaces.ensures) (stopped is_ascii_whitespace c.in-Some.more.now)

pub returns-in-Some-clause-reads : goal.returns-in-Some-clause-reads
returns-in-Some-clause-reads c = λ tag.
    read_equals tag c.args.text.now c.split_name.result.0.now c.skip_spaces-rest.result.now c.in-Some.more.now c.skip_spaces.result.now c.requires c.split_name.ensures.name
    (c.skip_spaces-rest.ensures ∙ ap after_spaces c.split_name.ensures.rest) c.in-Some.ensures c.skip_spaces.ensures
    ∙ c.read_value.ensures.reads tag

pub returns-in-Some-clause-leaves : goal.returns-in-Some-clause-leaves
returns-in-Some-clause-leaves c =
    let text = c.args.text.now in
    let value = c.skip_spaces.result.now in
    leaves_more c.read_value.result (length value + 1) (length text)
    (omega (arith, name_shorter text c.requires, ap length (c.skip_spaces-rest.ensures ∙ ap after_spaces c.split_name.ensures.rest), ap length c.in-Some.ensures, ap length c.skip_spaces.ensures, shorter is_ascii_whitespace c.in-Some.more.now))
    c.read_value.ensures.leaves

pub returns-in-None-clause-reads : goal.returns-in-None-clause-reads
returns-in-None-clause-reads c = λ tag.
    read_bare tag c.args.text.now c.split_name.result.0.now c.skip_spaces-rest.result.now c.requires c.split_name.ensures.name
    (c.skip_spaces-rest.ensures ∙ ap after_spaces c.split_name.ensures.rest) c.in-None.ensures

pub returns-in-None-clause-leaves : goal.returns-in-None-clause-leaves
returns-in-None-clause-leaves c = omega (arith, name_shorter c.args.text.now c.requires, ap length (c.skip_spaces-rest.ensures ∙ ap after_spaces c.split_name.ensures.rest))
