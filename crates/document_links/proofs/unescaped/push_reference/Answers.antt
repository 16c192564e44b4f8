use Rattle.document_links.proofs.Prelude.{◌∙◌, ◌∷◌, ◌++◌, [], refl, ap}
use Rattle.std.proofs.Common.{append_assoc}
use Rattle.document_links.proofs.Runs.{appended}
use Rattle.document_links.proofs.Unescaping.{closed, unclosed}
use Rattle.document_links.proofs.unescaped.push_reference.Goals as goal

pub returns-in_ok-push_meaning-in-Some-clause-reads : goal.returns-in_ok-push_meaning-in-Some-clause-reads
returns-in_ok-push_meaning-in-Some-clause-reads c =
    let bytes = c.args.bytes.now in
    let name = c.split_name.result.0.now in
    appended c.args.out.now.items c.push_meaning.new.out.items _ _ _ _ c.in_ok-push_meaning-in-Some.ensures
    (closed bytes name c.split_name.result.1.now c.in-Some.rest.now c.split_name.ensures.name c.split_name.ensures.rest c.in-Some.ensures) refl

pub returns-in_ok-extend_from_slice-in-None-clause-reads : goal.returns-in_ok-extend_from_slice-in-None-clause-reads
returns-in_ok-extend_from_slice-in-None-clause-reads c =
    let old = c.args.out.now.items in
    let name = c.split_name.result.0.now in
    appended old c.extend_from_slice.new.self.items (38 ∷ name) _ _ _
    (c.in_ok-extend_from_slice-in-None.ensures.items ∙ ap (λ l. l ++ name) c.in_ok-push-in-None.ensures.items ∙ append_assoc old (38 ∷ []) name)
    (unclosed c.args.bytes.now name c.split_name.result.1.now c.split_name.ensures.name c.split_name.ensures.rest c.split_name.ensures.stopped c.in-None.ensures) refl
