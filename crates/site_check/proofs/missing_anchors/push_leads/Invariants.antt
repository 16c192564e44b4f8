use Rattle.site_check.proofs.Prelude.{◌≡◌, ◌++◌, flat_map, map, take}
use Rattle.site_check.specs.AnchorGroups.{lack_lead}
use Rattle.site_check.specs.LackedLinks.{lack_of}
use Rattle.site_check.proofs.missing_anchors.push_leads.Given as goal

abbrev pub invariant-loop-link : goal.invariant-loop-link
invariant-loop-link l = l.leads.items ≡ l.initial.leads.items ++ flat_map (lack_lead l.number) (map lack_of (take l.link-index l.links))
