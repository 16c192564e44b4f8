use Rattle.document_links.proofs.Prelude.{◌≡◌, ◌+◌, ◌<◌, [], arith, get_or, length, subst, sym}
use Rattle.document_links.specs.Keeping.{AreMarked, sign_of}
use Rattle.document_links.proofs.Numbering.{number_at, one_marked}
use Rattle.document_links.proofs.Trimming.{sign_at}
use Rattle.document_links.proofs.marked_links.push_marked.Goals as goal

pub returns-clause-links : goal.returns-clause-links
returns-clause-links c =
    let values = c.args.raw.now.texts in
    let value = get_or values c.args.index [] in
    let text = c.text-text.result.now in
    let sign = c.in-Some.sign in
    let new = c.number_of.new.self in
    let first : sign_of value ≡ sign = subst (λ t. sign_of t ≡ sign) c.text-text.ensures (sign_at text sign c.in-Some.ensures) in
    let inside : sign < length value = subst (λ t. sign < length t) c.text-text.ensures (omega (arith, c.in-Some.ensures.0.high)) in
    let given = c.in_ok-target.ensures in
    subst (AreMarked new values (c.args.index + 1)) (sym c.in_ok-push.ensures.items)
    (one_marked c.args.targets.now new values c.args.index c.args.all.now.items c.in_ok-target.target sign c.requires.links given.more c.requires.within first inside
    (number_at new text value c.in_ok-target.target (sign + 1) _ given.numbered c.text-text.ensures (omega arith)))
