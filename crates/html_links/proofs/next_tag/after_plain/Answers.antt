use Rattle.html_links.proofs.Reading.{plain_class}
use Rattle.html_links.proofs.next_tag.after_plain.Goals as goal

pub returns-in-Some-split_quoted : goal.returns-in-Some-split_quoted
returns-in-Some-split_quoted c =
    plain_class c.after_byte-in-Some-split_quoted.result c.args.bytes.now c.in-Some-after_class.quoted.now _ c.in-Some-split_quoted.rest.now c.in-Some-after_class.ensures c.in-Some-split_quoted.ensures c.after_byte-in-Some-split_quoted.ensures
