use Rattle.crawl_keys.proofs.Prelude.{ap, ◌∙◌, map, string_bytes, arith, ◌≡◌, ℕ, Bool, true, List, insert_key, slice_cmp, nat_cmp, cases_Bool, bytes_eq-Decides}
use Rattle.crawl_keys.proofs.FilterLemmas.{map-insert_key}
use Rattle.crawl_keys.specs.Marks.{is_marked, AreMarked}
use Rattle.crawl_keys.proofs.InOrderLemmas.{list_any-insert_key}
use Rattle.crawl_keys.proofs.filter.suffixes.Suffixes.add.Goals as goal

-- if one more text is kept and marked, and no mark is removed, all kept texts are marked
AreMarked-insert_key : (old new : List Bool) (before after : List (List ℕ)) (text : List ℕ) → after ≡ insert_key (slice_cmp nat_cmp) before text
    → AreMarked old before → ((other : List ℕ) → is_marked old other ≡ true → is_marked new other ≡ true) → is_marked new text ≡ true → AreMarked new after
AreMarked-insert_key old new before after text is kept others own = grind (arith, cases_Bool, list_any-insert_key, bytes_eq-Decides)

pub returns : goal.returns
returns c = grind (arith, map-insert_key)

pub invariant_of-self-2 : goal.invariant_of-self-2
invariant_of-self-2 c =
    let before = map string_bytes c.self.inside.texts.keys in
    AreMarked-insert_key c.self.inside.marks _ before _ c.args.suffix.now
    (ap (map string_bytes) c.in_ok-insert.ensures.keys ∙ map-insert_key c.in_ok-text.text c.self.inside.texts.keys
    ∙ ap (insert_key (slice_cmp nat_cmp) before) c.in_ok-text.ensures.ok)
    c.self.invariant c.mark.ensures.others c.mark.ensures.own
