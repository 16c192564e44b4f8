use Rattle.saved_site.proofs.Prelude.{rules, ◌≡◌, ◌∙◌, ℕ, List, [], ◌∷◌, ◌++◌, ap, flat_map, subst, AreKept}
use Rattle.saved_site.proofs.Anchors.{anchors_threads, without}
use Rattle.saved_site.proofs.Threads.{threads_push}
use Rattle.saved_site.proofs.linked.kept_pages.Goals as goal

pub linkers-preserved-in-Continue-branch-3 : goal.linkers-preserved-in-Continue-branch-3
linkers-preserved-in-Continue-branch-3 g c =
    let made = c.into_pages-pages.result.0 in
    let own : AreKept g.K.SiteName.serves c.args.top.now made =
    subst (λ (t : List ℕ). AreKept g.K.SiteName.serves t made) (c.is_of.ensures c.if-is_of.true) c.into_pages-pages.ensures.kept in
    let longer : c.push.new.self.items ≡ c.linkers.threads.items ++ made ∷ [] = search rules in
    let all = c.in_ok-anchors.ensures ∙ ap (λ ts. c.linkers.anchors.items ++ without (flat_map (λ p. p) ts) c.into_pages-pages.result.1.items) c.as_slice.ensures.value in
    record {
      kept = threads_push g.K.SiteName.serves c.args.top.now c.linkers.threads.items c.push.new.self.items made longer c.linkers.invariant.kept own;
      anchors = anchors_threads g.K.SiteName.serves c.linkers.threads.items c.push.new.self.items made c.linkers.anchors.items c.into_pages-pages.result.1.items c.in_ok-anchors.anchors.items longer all c.linkers.invariant.anchors c.into_pages-pages.ensures.anchors;
    }
