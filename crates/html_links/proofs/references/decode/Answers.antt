use Rattle.html_links.proofs.Decoding.{decoded_all, decoded_more}
use Rattle.html_links.proofs.references.decode.Goals as goal

pub returns-in_default : goal.returns-in_default
returns-in_default c =
    decoded_all c.marks.out.items c.extend_from_slice.new.self.items c.marks.rest.now c.split_plain.result.0.now c.split_plain.result.1.now _
    c.split_plain.ensures.plain c.split_plain.ensures.rest c.in_ok-extend_from_slice.ensures.items c.in_default.ensures.reads c.marks.invariant

pub marks-preserved : goal.marks-preserved
marks-preserved c =
    decoded_more c.marks.out.items c.extend_from_slice.new.self.items c.push_decoded.new.out.items c.marks.rest.now c.split_plain.result.0.now c.split_plain.result.1.now _ c.in-Some.more.now _
    c.split_plain.ensures.plain c.split_plain.ensures.rest c.in_ok-extend_from_slice.ensures.items c.in-Some.ensures.reads c.in_ok-push_decoded.ensures c.marks.invariant
