-- What is known of the pages that have a name.
use Rattle.site_check.proofs.Prelude.{common_steps, ◌≡◌, ◌∙◌, ℕ, zero, suc, ◌+◌, ◌<◌, arith, Bool, true, false, cond, List, [], ◌∷◌, ◌++◌, filter, take, get_or, length, slice_get, Option, Some, None, refl, sym, ap, subst, cases_Bool, cond-true, cond-false, filter_more, inl, inr, bytes_eq-Decides, get_or_from_slice_get, Bor, list_any, bytes_eq, PageFile, SiteFiles, is_slash, after_slashes, Names, named_at, IsKnown, known_with, known_at, only_name, Vec, Global}
use Rattle.std.proofs.Common.{true≢false}
use Rattle.std.proofs.lemmas.Map.Text.{is_eq-slice_cmp}
use Rattle.std.proofs.lemmas.Map.Text.{btree_map_updates_str}
use Rattle.std.specs.BTreeMap as tree
use Rattle.std.proofs.lemmas.Cmp.{eq_by_cmp_equiv, nat_list_cmp_total}
use Rattle.std.specs.Cmp.Lexicographic.{slice_cmp}
use Rattle.std.specs.Map.{AreApart, IsKeyTest, KeepsOthers, lookup}
use Rattle.std.specs.Ordering.{is_eq, nat_cmp}
use Rattle.check_report.specs.declared.value.Place.{Place}
use Rattle.site_check.specs.Names.{LowerKeys, lower_at, name_among, one_or_path, only_path}
use Rattle.site_check.specs.declared.names.Namesakes.{Namesakes}
use Rattle.site_check.specs.declared.names.Namesakes.TheVariants.{One, Several}

-- ---- the last part of a path

-- a text without slashes is all after the last
no_slash : (bs : List ℕ) → list_any is_slash bs ≡ false → after_slashes bs ≡ bs
no_slash [] none = refl
no_slash (b ∷ bs) none = cond-false (list_any is_slash (b ∷ bs)) _ _ none

-- the name so far, or what follows a slash of the rest
abbrev pub name_on : List ℕ → List ℕ → List ℕ
name_on name rest = cond (list_any is_slash rest) (after_slashes rest) name

pub name_first : (path : List ℕ) → name_on path path ≡ after_slashes path
name_first path = grind (arith, common_steps, cases_Bool, cond-true, cond-false, no_slash)

slash_on : (name : List ℕ) (b : ℕ) (more : List ℕ) → is_slash b ≡ true → name_on more more ≡ name_on name (b ∷ more)
slash_on name b more is = grind (arith, common_steps, name_first, cond-true)

byte_on : (name : List ℕ) (b : ℕ) (more : List ℕ) → is_slash b ≡ false → name_on name more ≡ name_on name (b ∷ more)
byte_on name b more not = grind (arith, common_steps, cases_Bool, cond-true, cond-false)

-- one byte more
pub name_more : (name : List ℕ) (b : ℕ) (more next : List ℕ) → next ≡ cond (is_slash b) more name → name_on next more ≡ name_on name (b ∷ more)
name_more name b more next e = grind (arith, common_steps, cases_Bool, cond-true, slash_on, cond-false, byte_on)

-- ---- pages by their names

pub name_put : (old new : Names) (name : Bor (List ℕ)) (w : Option Namesakes) → tree.Updates (λ x y. slice_cmp nat_cmp x.now y.now) old new name w → (other : List ℕ) →
    named_at new other ≡ cond (bytes_eq name.now other) w (named_at old other)
name_put old new name w updates other = btree_map_updates_str name.now old new w updates other

-- what was known of the name itself
pub known_put : (b : Bool) (own other : Option Namesakes) (number : ℕ) → (b ≡ true → own ≡ other) → cond b (Some (known_with own number)) other ≡ cond b (Some (known_with other number)) other
known_put b own other number same = grind (arith, common_steps)

-- one page more has the name
known_more : (pages found : List PageFile) (page : PageFile) (number : ℕ) (known : Option Namesakes) → slice_get pages number ≡ Some page → IsKnown pages found known →
    IsKnown pages (found ++ page ∷ []) (Some (known_with known number))
known_more pages found page number known at is = grind (arith, common_steps)

-- whether it has it or not
known_on : (b : Bool) (pages found : List PageFile) (page : PageFile) (number : ℕ) (known : Option Namesakes) → slice_get pages number ≡ Some page → IsKnown pages found known →
    IsKnown pages (found ++ cond b (page ∷ []) []) (cond b (Some (known_with known number)) known)
known_on b pages found page number known at is = grind (arith, common_steps, known_more)

pub some_at : (pages : List PageFile) (n : ℕ) → n < length pages → (page : PageFile) × (slice_get pages n ≡ Some page)
some_at [] n within = absurd (omega (arith, within))
some_at (page ∷ pages) zero within = (page, refl)
some_at (page ∷ pages) (suc n) within = some_at pages n (omega (arith, within))

-- the pages are gone through, one more
pub names_more : (pages : List PageFile) (n : ℕ) (has : PageFile → Bool) (old new : Option Namesakes) → n < length pages → IsKnown pages (filter has (take n pages)) old →
    new ≡ known_at has (slice_get pages n) n old → IsKnown pages (filter has (take (n + 1) pages)) new
names_more pages n has old new within is e =
    let (page, at) = some_at pages n within in
    let front : List PageFile = filter has (take n pages) in
    let own : get_or pages n page ≡ page = get_or_from_slice_get pages n page page at in
    let found : filter has (take (n + 1) pages) ≡ front ++ cond (has page) (page ∷ []) [] = filter_more has pages n page within ∙ ap (λ p. front ++ cond (has p) (p ∷ []) []) own in
    let known : new ≡ cond (has page) (Some (known_with old n)) old = e ∙ ap (λ o. known_at has o n old) at in
    subst (λ l. IsKnown pages l new) (sym found) (subst (λ o. IsKnown pages (front ++ cond (has page) (page ∷ []) []) o) (sym known) (known_on (has page) pages front page n old at is))

-- ---- names in lower case

same_text : (bs cs : List ℕ) → bytes_eq bs cs ≡ true → bs ≡ cs
same_text bs cs = (bytes_eq-Decides bs cs).0

-- a key that has one text does not have another
apart : (bs cs ks : List ℕ) → bytes_eq bs cs ≡ false → is_eq (slice_cmp nat_cmp bs ks) ≡ true → is_eq (slice_cmp nat_cmp cs ks) ≡ false
apart bs cs ks differ own =
    let is : bs ≡ ks = same_text bs ks (sym (is_eq-slice_cmp bs ks) ∙ own) in
    elim (cases_Bool (is_eq (slice_cmp nat_cmp cs ks))) [
      | inl other ↦ absurd (true≢false (sym ((bytes_eq-Decides bs cs).1 (is ∙ sym (same_text cs ks (sym (is_eq-slice_cmp cs ks) ∙ other)))) ∙ differ))
      | inr without ↦ without
    ]

module _ {K X : Type 0} (eq : K → K → Bool) (test : K → Bool) where
  others_stay : (old new : List (K × X)) → KeepsOthers eq test old new → (other : K → Bool) → IsKeyTest eq other → AreApart test other → lookup other new ≡ lookup other old
  unfolding KeepsOthers
  others_stay old new keeps = keeps

-- a change at one name leaves the others
lower_other : (old new : LowerKeys) (name : Vec ℕ Global) (w : Option Namesakes) → tree.Updates (λ x y. slice_cmp nat_cmp x.items y.items) old new name w → (other : List ℕ) →
    bytes_eq name.items other ≡ false → lower_at new other ≡ lower_at old other
lower_other old new name w updates other differ =
    others_stay _ _ _ _ updates.3 _ (λ x y. (eq_by_cmp_equiv nat_list_cmp_total).congr other x.items y.items) (λ k. apart name.items other k.items differ)

pub lower_put : (old new : LowerKeys) (name : Vec ℕ Global) (w : Option Namesakes) → tree.Updates (λ x y. slice_cmp nat_cmp x.items y.items) old new name w → (other : List ℕ) →
    lower_at new other ≡ cond (bytes_eq name.items other) w (lower_at old other)
lower_put old new name w updates other =
    elim (cases_Bool (bytes_eq name.items other)) [
      | inl same ↦ subst (λ t. lower_at new t ≡ w) (same_text name.items other same) updates.1 ∙ sym (cond-true (bytes_eq name.items other) w _ same)
      | inr differ ↦ lower_other old new name w updates other differ ∙ sym (cond-false (bytes_eq name.items other) w _ differ)
    ]

-- ---- what is reported of a name

-- just one has it
one_there : (pages found : List PageFile) (number : ℕ) → IsKnown pages found (Some (One number)) → (page : PageFile) × (slice_get pages number ≡ Some page) × (page ∷ [] ≡ found)
one_there pages [] number known = absurd known
one_there pages (page ∷ []) number known = (page, known, refl)
one_there pages (page ∷ other ∷ more) number known = absurd known

pub one_known : (pages found : List PageFile) (known : Namesakes) (number : ℕ) → known ≡ One number → IsKnown pages found (Some known) → (page : PageFile) × (slice_get pages number ≡ Some page) × (page ∷ [] ≡ found)
one_known pages found known number is own = one_there pages found number (subst (λ k. IsKnown pages found (Some k)) is own)

-- several have it
several_there : (front : List ℕ) (files : SiteFiles) (places : List Place) (pages found : List PageFile) → IsKnown pages found (Some Several) → None ≡ only_name front files places found
several_there front files places pages [] known = absurd known
several_there front files places pages (page ∷ []) known = absurd known
several_there front files places pages (page ∷ other ∷ more) known = refl

pub several_known : (front : List ℕ) (files : SiteFiles) (places : List Place) (pages found : List PageFile) (known : Namesakes) → known ≡ Several → IsKnown pages found (Some known) →
    None ≡ only_name front files places found
several_known front files places pages found known is own = several_there front files places pages found (subst (λ k. IsKnown pages found (Some k)) is own)

-- none has it
pub none_known : (front : List ℕ) (files : SiteFiles) (places : List Place) (pages found : List PageFile) → IsKnown pages found None → None ≡ only_name front files places found
none_known front files places pages [] known = refl
none_known front files places pages (page ∷ []) known = absurd known
none_known front files places pages (page ∷ other ∷ more) known = absurd known

-- ---- what is meant by a name

module _ (front : List ℕ) (files : SiteFiles) (places : List Place) (target : List ℕ) (pages : List PageFile) where
  -- several have it, so the path decides
  paths_there : (found : List PageFile) → IsKnown pages found (Some Several) → only_path front files places target ≡ one_or_path front files places target found
  paths_there [] known = absurd known
  paths_there (page ∷ []) known = absurd known
  paths_there (page ∷ other ∷ more) known = refl

  pub paths_count : (found : List PageFile) (known : Namesakes) → known ≡ Several → IsKnown pages found (Some known) → only_path front files places target ≡ one_or_path front files places target found
  paths_count found known is own = paths_there found (subst (λ k. IsKnown pages found (Some k)) is own)

  -- none has it
  pub none_meant : (found : List PageFile) → IsKnown pages found None → None ≡ one_or_path front files places target found
  none_meant [] known = refl
  none_meant (page ∷ []) known = absurd known
  none_meant (page ∷ other ∷ more) known = absurd known

  -- those with the name in another case do not count, or only they do
  pub own_count : (found others : List PageFile) (known : Namesakes) → IsKnown pages found (Some known) → one_or_path front files places target found ≡ name_among front files places target found others
  own_count [] others known is = absurd is
  own_count (page ∷ more) others known is = refl

  pub others_count : (found others : List PageFile) → IsKnown pages found None → one_or_path front files places target others ≡ name_among front files places target found others
  others_count [] others known = refl
  others_count (page ∷ []) others known = absurd known
  others_count (page ∷ other ∷ more) others known = absurd known
