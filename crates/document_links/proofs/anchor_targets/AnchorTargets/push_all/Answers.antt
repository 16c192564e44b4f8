use Rattle.document_links.proofs.Prelude.{◌≡◌, ◌∙◌, ◌++◌, None, ap, get_or, sym, subst, take, take-append-drop, arith}
use Rattle.std.proofs.Common.{append-nil}
use Rattle.std.specs.Prelude.{All, bytes_eq, flat_map}
use Rattle.document_links.specs.declared.marked_links.MarkedLink.{MarkedLink}
use Rattle.document_links.specs.Keeping.{kept_link, kept_of, led, row_of}
use Rattle.document_links.proofs.Rows.{passed, run_led, run_lost, run_same}
use Rattle.document_links.proofs.anchor_targets.AnchorTargets.push_all.Goals as goal

pub targets-preserved-in_ok-push_target-in-Some-url : goal.targets-preserved-in_ok-push_target-in-Some-url
targets-preserved-in_ok-push_target-in-Some-url c =
    let values = c.args.raw.now.texts in
    let ids = c.args.self.now.anchors.ids in
    let urls = c.args.targets.now.urls.items in
    let page = c.args.url.now in
    let rest = c.targets.rest.now in
    let run = c.split_at.result.0.now in
    let first = c.in-Some.first.now.target in
    let url = c.in-Some-url.target.now in
    let keeps = kept_link values ids urls page in
    let inv = c.targets.invariant in
    let same : All (λ (link : MarkedLink). link.target ≡ first) run =
    subst (All (λ (link : MarkedLink). link.target ≡ first)) (sym (c.split_at.ensures.front ∙ ap (λ n. take n rest) c.run_len.ensures.value)) (run_same first rest) in
    let split : run ++ c.split_at.result.1.now ≡ rest = (λ i. c.split_at.ensures.front i ++ c.split_at.ensures.back i) ∙ take-append-drop c.run_len.result rest in
    let wrote = c.in_ok-push_target-in-Some-url.ensures.kept
    ∙ ap (λ own. kept_of c.targets.self ++ led url (flat_map (row_of values (bytes_eq url page) own) run)) inv.ids
    ∙ ap (λ l. kept_of c.targets.self ++ l) (sym (run_led values ids urls page first url run (sym c.in-Some-url.ensures) same)) in
    record {
      built = c.in_ok-push_target-in-Some-url.ensures.built;
      ids = c.in_ok-push_target-in-Some-url.ensures.ids ∙ inv.ids;
      kept = passed keeps rest run c.split_at.result.1.now (kept_of c.targets.self) (kept_of c.push_target.new.self) (kept_of c.args.self.now ++ flat_map keeps c.args.links.now) split wrote inv.kept;
    }

pub targets-preserved : goal.targets-preserved
targets-preserved c =
    let values = c.args.raw.now.texts in
    let ids = c.args.self.now.anchors.ids in
    let urls = c.args.targets.now.urls.items in
    let page = c.args.url.now in
    let rest = c.targets.rest.now in
    let run = c.split_at.result.0.now in
    let first = c.in-Some.first.now.target in
    let keeps = kept_link values ids urls page in
    let inv = c.targets.invariant in
    let same : All (λ (link : MarkedLink). link.target ≡ first) run =
    subst (All (λ (link : MarkedLink). link.target ≡ first)) (sym (c.split_at.ensures.front ∙ ap (λ n. take n rest) c.run_len.ensures.value)) (run_same first rest) in
    let split : run ++ c.split_at.result.1.now ≡ rest = (λ i. c.split_at.ensures.front i ++ c.split_at.ensures.back i) ∙ take-append-drop c.run_len.result rest in
    let none : get_or urls first None ≡ None = first_of (cc, grind arith) in
    let wrote : kept_of c.targets.self ≡ kept_of c.targets.self ++ flat_map keeps run =
    sym (append-nil (kept_of c.targets.self)) ∙ ap (λ l. kept_of c.targets.self ++ l) (sym (run_lost values ids urls page first run none same)) in
    record {
      built = inv.built;
      ids = inv.ids;
      kept = passed keeps rest run c.split_at.result.1.now (kept_of c.targets.self) (kept_of c.targets.self) (kept_of c.args.self.now ++ flat_map keeps c.args.links.now) split wrote inv.kept;
    }
