-- The links to missing anchors, anchor by anchor, and the rows of the anchors.
use Rattle.std.specs.Prelude.{◌≡◌, ◌==◌, ◌+◌, ◌<◌, ◌&&◌, ℕ, Bool, List, [], ◌∷◌, ◌++◌, All, if◌then◌else◌, length, map, Option, Some, None, bytes_eq, flat_map, string_bytes}
use Rattle.std.specs.Ordering.{is_lt, nat_cmp, ordering_then}
use Rattle.std.specs.declared.cmp.Ordering.{Ordering}
use Rattle.site_check.specs.Broken.{Row, is_ignored}
use Rattle.site_check.specs.LackedLinks.{lack_of}
use Rattle.site_check.specs.Lacks.{Anchor, Lack, anchor_cmp, anchor_of, anchor_shown}
use Rattle.site_check.specs.Located.{listed}
use Rattle.site_check.specs.declared.leads.Lead.{Lead}
use Rattle.site_check.specs.declared.leads.ListedLead.{ListedLead}
use Rattle.site_check.specs.declared.missing_anchors.Anchor as code
use Rattle.site_check.specs.declared.missing_anchors.AnchorLinks.{AnchorLinks}
use Rattle.site_check.specs.declared.missing_anchors.MissingAnchor.{MissingAnchor}
use Rattle.site_check.specs.declared.missing_anchors.MissingAnchorLink.{MissingAnchorLink}

-- ---- links to one anchor

abbrev pub anchor_at : code.Anchor → Anchor
anchor_at anchor = record { url = anchor.url.now; fragment = anchor.fragment.now }

-- an anchor, and the links to it
pub record Group : Type 0 where
  pub anchor : Anchor
  pub lacks : List Lack

-- there are some, and each leads to it
pub record IsGroup (group : Group) : Type 0 where
  pub some : 0 < length group.lacks
  pub each : All (λ lack. anchor_of lack ≡ group.anchor) group.lacks

-- the links to an anchor come one after another
abbrev pub AreApart : List Group → Type 0
AreApart [] = Unit {0}
AreApart (group ∷ []) = Unit {0}
AreApart (group ∷ next ∷ more) = (group.anchor ≡ next.anchor → ⊥) × AreApart (next ∷ more)

-- ---- what is reported of them

-- the number of different results among those of links in the order of the results, after links of this one
abbrev pub sources_after : ℕ → List Lack → ℕ
sources_after last [] = 0
sources_after last (lack ∷ more) = (if last == lack.source then 0 else 1) + sources_after lack.source more

abbrev pub source_count : List Lack → ℕ
source_count [] = 0
source_count (lack ∷ more) = 1 + sources_after lack.source more

abbrev pub group_shown : List ℕ → Group → List ℕ
group_shown front group = anchor_shown front group.anchor.url group.anchor.fragment

abbrev pub group_row : List ℕ → Group → Row
group_row front group = record { text = group_shown front group; pages = source_count group.lacks }

-- a link as one to the target with this number, if its index is known
abbrev pub lead_at : ℕ → ℕ → Option ℕ → List Lead
lead_at number source None = []
lead_at number source (Some index) = record { source = source; index = index; number = number } ∷ []

abbrev pub lack_lead : ℕ → Lack → List Lead
lack_lead number lack = lead_at number lack.source lack.index

-- those of a group, unless an entry matches its anchor
abbrev pub group_leads : List ℕ → List (List ℕ) → ℕ → Group → List Lead
group_leads front entries number group = if is_ignored entries (group_shown front group) then [] else flat_map (lack_lead number) group.lacks

-- those of groups, the first of which has this number
abbrev pub leads_from : List ℕ → List (List ℕ) → ℕ → List Group → List Lead
leads_from front entries number [] = []
leads_from front entries number (group ∷ more) = group_leads front entries number group ++ leads_from front entries (number + 1) more

-- the links are those of groups one after another, of which these are the rows. Links to their anchors are added
pub record AreGrouped (front : List ℕ) (entries : List (List ℕ)) (lacks : List Lack) (rows : List Row) (old new : List Lead) : Type 0 where
  pub groups : List Group
  pub are : All IsGroup groups
  pub apart : AreApart groups
  pub split : lacks ≡ flat_map (λ group. group.lacks) groups
  pub exact : rows ≡ map (group_row front) groups
  pub leads : new ≡ old ++ leads_from front entries 0 groups

-- the same, and the links are added as those to targets of the list of missing anchors
pub record AddsGroups (front : List ℕ) (entries : List (List ℕ)) (lacks : List Lack) (rows : List Row) (old new : List ListedLead) : Type 0 where
  pub found : List Lead
  pub are : AreGrouped front entries lacks rows [] found
  pub is : new ≡ old ++ map (listed 1) found

-- ---- how they are found

-- by the anchors, and the links to an anchor by the results that have them
abbrev pub lack_cmp : Lack → Lack → Ordering
lack_cmp a b = ordering_then (anchor_cmp (anchor_of a) (anchor_of b)) (nat_cmp a.source b.source)

abbrev pub comes_first : MissingAnchorLink → MissingAnchorLink → Bool
comes_first a b = is_lt (lack_cmp (lack_of a) (lack_of b))

abbrev pub anchor_row : MissingAnchor → Row
anchor_row anchor = record { text = string_bytes anchor.text; pages = anchor.pages }

abbrev pub leads_to : Anchor → MissingAnchorLink → Bool
leads_to anchor link = bytes_eq link.anchor.url.now anchor.url && bytes_eq link.anchor.fragment.now anchor.fragment

abbrev pub group_of : AnchorLinks → Group
group_of links = record { anchor = anchor_at links.anchor; lacks = map lack_of links.own.now }

-- the links to the first anchor among these, and those after them
pub record IsFirstAnchor (all : List MissingAnchorLink) (first : AnchorLinks) : Type 0 where
  pub split : all ≡ first.own.now ++ first.more.now
  pub own : IsGroup (group_of first)
  pub next : (link : MissingAnchorLink) (rest : List MissingAnchorLink) → first.more.now ≡ link ∷ rest → anchor_of (lack_of link) ≡ anchor_at first.anchor → ⊥
  pub less : length first.more.now < length all

-- one, unless this result is the last one
abbrev pub one_unless : Option ℕ → ℕ → ℕ
one_unless None source = 1
one_unless (Some last) source = if last == source then 0 else 1
