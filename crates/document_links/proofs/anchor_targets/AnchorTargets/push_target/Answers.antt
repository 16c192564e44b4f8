use Rattle.document_links.proofs.Prelude.{◌≡◌, ◌∙◌, ◌≤◌, ◌++◌, ◌∷◌, [], List, length, refl, sym, ap, arith}
use Rattle.std.specs.Prelude.{bytes_eq, flat_map, if◌then◌else◌}
use Rattle.std.proofs.lemmas.Bool.Decides.{nat_tests}
use Rattle.document_links.specs.Anchors.{Link}
use Rattle.document_links.specs.Keeping.{row_of, rows_of}
use Rattle.document_links.proofs.Rows.{target_more, target_same}
use Rattle.document_links.proofs.anchor_targets.AnchorTargets.push_target.Goals as goal

pub returns-in_ok-push-clause-built : goal.returns-in_ok-push-clause-built
returns-in_ok-push-clause-built c =
    let old = c.args.self.now in
    let texts = c.args.raw.now.texts in
    let own : c.eq-is_own.result ≡ bytes_eq c.args.target.now c.args.url.now = c.eq-is_own.ensures ∙ (λ i. bytes_eq (c.as_str.ensures.value i) (c.as_str-2.ensures.value i)) in
    let found = c.in_ok-push_target.ensures in
    let rows : List Link = flat_map (row_of texts (bytes_eq c.args.target.now c.args.url.now) old.anchors.ids) c.args.links.now in
    let more = found.rows ∙ ap (λ b. rows_of old.anchors ++ flat_map (row_of texts b old.anchors.ids) c.args.links.now) own in
    let ends = found.ends ∙ ap (λ b. if b then old.anchors.ends.items ++ length c.push_target.new.self.indices.items ∷ [] else old.anchors.ends.items) c.if-branch.true in
    let urls = c.in_ok-push.ensures.items ∙ ap (λ u. old.urls.items ++ u ∷ []) c.in_ok-clone.ensures.cases in
    (target_more old (record { anchors = c.push_target.new.self; urls = c.push.new.self }) c.args.target.now rows c.requires found.even more ends urls).built

pub returns-in_ok-push-clause-kept : goal.returns-in_ok-push-clause-kept
returns-in_ok-push-clause-kept c =
    let old = c.args.self.now in
    let texts = c.args.raw.now.texts in
    let own : c.eq-is_own.result ≡ bytes_eq c.args.target.now c.args.url.now = c.eq-is_own.ensures ∙ (λ i. bytes_eq (c.as_str.ensures.value i) (c.as_str-2.ensures.value i)) in
    let found = c.in_ok-push_target.ensures in
    let rows : List Link = flat_map (row_of texts (bytes_eq c.args.target.now c.args.url.now) old.anchors.ids) c.args.links.now in
    let more = found.rows ∙ ap (λ b. rows_of old.anchors ++ flat_map (row_of texts b old.anchors.ids) c.args.links.now) own in
    let ends = found.ends ∙ ap (λ b. if b then old.anchors.ends.items ++ length c.push_target.new.self.indices.items ∷ [] else old.anchors.ends.items) c.if-branch.true in
    let urls = c.in_ok-push.ensures.items ∙ ap (λ u. old.urls.items ++ u ∷ []) c.in_ok-clone.ensures.cases in
    (target_more old (record { anchors = c.push_target.new.self; urls = c.push.new.self }) c.args.target.now rows c.requires found.even more ends urls).kept

pub returns-else-branch-clause-built : goal.returns-else-branch-clause-built
returns-else-branch-clause-built c =
    let old = c.args.self.now in
    let texts = c.args.raw.now.texts in
    let own : c.eq-is_own.result ≡ bytes_eq c.args.target.now c.args.url.now = c.eq-is_own.ensures ∙ (λ i. bytes_eq (c.as_str.ensures.value i) (c.as_str-2.ensures.value i)) in
    let found = c.in_ok-push_target.ensures in
    let rows : List Link = flat_map (row_of texts (bytes_eq c.args.target.now c.args.url.now) old.anchors.ids) c.args.links.now in
    let more = found.rows ∙ ap (λ b. rows_of old.anchors ++ flat_map (row_of texts b old.anchors.ids) c.args.links.now) own in
    let ends = found.ends ∙ ap (λ b. if b then old.anchors.ends.items ++ length c.push_target.new.self.indices.items ∷ [] else old.anchors.ends.items) c.if-branch.false in
    let none = sym found.some ∙ c.if-branch.false in
    let few : length c.push_target.new.self.indices.items ≤ length old.anchors.indices.items = grind (arith, nat_tests, none) in
    (target_same old (record { anchors = c.push_target.new.self; urls = old.urls }) c.args.target.now rows c.requires found.even more ends refl few).built

pub returns-else-branch-clause-kept : goal.returns-else-branch-clause-kept
returns-else-branch-clause-kept c =
    let old = c.args.self.now in
    let texts = c.args.raw.now.texts in
    let own : c.eq-is_own.result ≡ bytes_eq c.args.target.now c.args.url.now = c.eq-is_own.ensures ∙ (λ i. bytes_eq (c.as_str.ensures.value i) (c.as_str-2.ensures.value i)) in
    let found = c.in_ok-push_target.ensures in
    let rows : List Link = flat_map (row_of texts (bytes_eq c.args.target.now c.args.url.now) old.anchors.ids) c.args.links.now in
    let more = found.rows ∙ ap (λ b. rows_of old.anchors ++ flat_map (row_of texts b old.anchors.ids) c.args.links.now) own in
    let ends = found.ends ∙ ap (λ b. if b then old.anchors.ends.items ++ length c.push_target.new.self.indices.items ∷ [] else old.anchors.ends.items) c.if-branch.false in
    let none = sym found.some ∙ c.if-branch.false in
    let few : length c.push_target.new.self.indices.items ≤ length old.anchors.indices.items = grind (arith, nat_tests, none) in
    (target_same old (record { anchors = c.push_target.new.self; urls = old.urls }) c.args.target.now rows c.requires found.even more ends refl few).kept
