use Rattle.saved_site.proofs.Prelude.{flat_map}
use Rattle.saved_site.proofs.Anchors.{anchors_same}
use Rattle.saved_site.proofs.SiteSource.{site_source}
use Rattle.saved_site.proofs.Threads.{kept_served}
use Rattle.saved_site.proofs.linked.LinkedPages.new.Goals as goal

pub returns-clause-source : goal.returns-clause-source
returns-clause-source g c =
    site_source g.K.SiteName.serves c.args.top.now (flat_map (λ made. made) c.in_ok-both.both.0.items) c.in_ok-both.ensures.kept

pub returns-clause-served : goal.returns-clause-served
returns-clause-served g c =
    kept_served g.K.SiteName.serves c.args.top.now (flat_map (λ made. made) c.in_ok-both.both.0.items) c.in_ok-both.ensures.kept

pub returns-clause-anchors : goal.returns-clause-anchors
returns-clause-anchors g c =
    anchors_same g.K.SiteName.serves (flat_map (λ made. made) c.in_ok-both.both.0.items) c.in_ok-both.both.1.items c.in_ok-anchors.anchors.items c.in_ok-both.ensures.anchors c.in_ok-anchors.ensures.same
