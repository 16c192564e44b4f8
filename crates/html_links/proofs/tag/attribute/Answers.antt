use Rattle.html_links.proofs.Prelude.{◌∙◌, arith, length}
use Rattle.html_links.proofs.Jumps.{skip_before_value, read_name, shorter, read_bare, read_quote, quote_within, name_shorter, leaves_less}
use Rattle.html_links.proofs.tag.attribute.Goals as goal

pub returns-in-Some-clause-reads : goal.returns-in-Some-clause-reads
returns-in-Some-clause-reads c = λ all.
    read_quote c.args.bytes.now c.split_name.result.0.now c.split_name.result.1.now c.in-Some.more.now c.requires c.split_name.ensures.name c.split_name.ensures.rest c.in-Some.ensures all
    ∙ c.quoted.ensures.reads (length c.split_name.result.1.now) all

pub returns-in-Some-clause-leaves : goal.returns-in-Some-clause-leaves
returns-in-Some-clause-leaves c = grind (arith, leaves_less, quote_within)

pub returns-in-Some-after_byte-clause-reads : goal.returns-in-Some-after_byte-clause-reads
returns-in-Some-after_byte-clause-reads c = grind (arith, read_name, skip_before_value)

pub returns-in-None-clause-reads : goal.returns-in-None-clause-reads
returns-in-None-clause-reads c = grind (arith, read_bare)

pub returns-in-None-clause-leaves : goal.returns-in-None-clause-leaves
returns-in-None-clause-leaves c = grind (arith, name_shorter)

pub returns-in-Some-after_byte-clause-leaves : goal.returns-in-Some-after_byte-clause-leaves
returns-in-Some-after_byte-clause-leaves c = grind (arith, name_shorter, shorter, leaves_less)
