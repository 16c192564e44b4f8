use Rattle.mercator_site.proofs.FolderMaps.{map_more}
use Rattle.mercator_site.proofs.maps.push_map.Goals as goal

pub returns : goal.returns
returns c = λ texts were.
    map_more c.args.top.now c.args.rooted texts c.args.text.now c.args.maps.now.items _ c.in_ok-map.map were c.in_ok-map.ensures.prefix c.in_ok-map.ensures.folder c.in_ok-map.ensures.outside
    c.in_ok-push.ensures.items
