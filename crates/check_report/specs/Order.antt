-- The order of broken links in a report for people: files and targets in natural order.
use Rattle.std.specs.Prelude.{ℕ, Bool, true, false, List, [], ◌∷◌, flat_map, if◌then◌else◌, length, map, nat_lt, string_bytes, take}
use Rattle.std.specs.Ordering.{is_lt, nat_cmp, ordering_then}
use Rattle.std.specs.declared.cmp.Ordering.{Ordering}
use Rattle.crawl_pages.specs.ResultOrder.{stable_sort}
use Rattle.check_report.specs.Names.{target_name}
use Rattle.check_report.specs.Natural.{natural_cmp}
use Rattle.check_report.specs.declared.ordered.Link.{Link}
use Rattle.check_report.specs.declared.ordered.Named.{Named}
use Rattle.check_report.specs.declared.value.Broken.{Broken}
use Rattle.check_report.specs.declared.value.Kind.{Kind}
use Rattle.check_report.specs.declared.value.Kind.TheVariants.{NoPage, NoAnchor, NotUrl, UnknownScheme, LocalFile, Leaves, OutsideBase, NotInMap}
use Rattle.check_report.specs.declared.value.Place.{Place}
use Rattle.check_report.specs.declared.view.Order.{Order}
use Rattle.check_report.specs.declared.view.Order.TheVariants as order

-- ---- locations

-- by file, line and column
abbrev pub place_cmp : Place → Place → Ordering
place_cmp a b = ordering_then (natural_cmp (string_bytes a.file) (string_bytes b.file)) (ordering_then (nat_cmp a.line b.line) (nat_cmp a.column b.column))

abbrev pub place_before : Place → Place → Bool
place_before a b = is_lt (place_cmp a b)

abbrev pub places_by_file : List Place → List Place
places_by_file places = stable_sort place_before places

abbrev pub ordered_places : Order → List Place → List Place
ordered_places order.Given places = places
ordered_places order.Target places = places_by_file places
ordered_places order.File places = places_by_file places

-- the number of locations of a target that a report lists if it does not list all
abbrev pub places_limit : ℕ
places_limit = 3

-- the locations that are listed: the first ones, or all of them
abbrev pub shown_places : {X : Type 0} → Bool → List X → List X
shown_places true places = places
shown_places false places = take places_limit places

-- ---- targets

-- missing pages, missing anchors, invalid links, links that lead out of the site
abbrev pub kind_rank : Kind → ℕ
kind_rank NoPage = 0
kind_rank NoAnchor = 1
kind_rank NotUrl = 2
kind_rank UnknownScheme = 2
kind_rank LocalFile = 2
kind_rank Leaves = 3
kind_rank OutsideBase = 3
kind_rank NotInMap = 3

-- by kind and name
abbrev pub target_cmp : Broken → Broken → Ordering
target_cmp a b = ordering_then (nat_cmp (kind_rank a.kind) (kind_rank b.kind)) (natural_cmp (target_name a) (target_name b))

abbrev pub target_before : Broken → Broken → Bool
target_before a b = is_lt (target_cmp a b)

abbrev pub targets_by_name : List Broken → List Broken
targets_by_name targets = stable_sort target_before targets

abbrev pub ordered_targets : Order → List Broken → List Broken
ordered_targets order.Given targets = targets
ordered_targets order.Target targets = targets_by_name targets
ordered_targets order.File targets = targets_by_name targets

-- targets of the program by kind and the name that it has for them
abbrev pub named_cmp : Named → Named → Ordering
named_cmp a b = ordering_then (nat_cmp (kind_rank a.broken.now.kind) (kind_rank b.broken.now.kind)) (natural_cmp (string_bytes a.name) (string_bytes b.name))

-- the target itself, if it has no locations
abbrev pub bare_of : Broken → List Broken
bare_of target = if nat_lt 0 (length target.places.items) then [] else target ∷ []

-- the targets without locations
abbrev pub bare_targets : List Broken → List Broken
bare_targets targets = flat_map bare_of targets

-- ---- links

-- a link of the program, as its target and its location
abbrev pub link_of : Link → Broken × Place
link_of link = (link.target.now, link.place.now)

-- the links to a target that are listed
abbrev pub links_to : Bool → Broken → List (Broken × Place)
links_to all target = map (λ place. (target, place)) (shown_places all (places_by_file target.places.items))

abbrev pub link_before : Broken × Place → Broken × Place → Bool
link_before a b = place_before a.1 b.1

-- the links to these targets that are listed, by file, line and column
abbrev pub links_by_file : Bool → List Broken → List (Broken × Place)
links_by_file all targets = stable_sort link_before (flat_map (links_to all) targets)
