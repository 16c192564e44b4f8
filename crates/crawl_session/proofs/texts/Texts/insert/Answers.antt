use Rattle.crawl_session.proofs.Prelude.{rules, ◌≡◌, not, if◌then◌else◌, ℕ, List, [], ◌∷◌, ◌++◌, Option, is_some, map, sym, ap, ◌∙◌, arith, map-id, has_text, has_index}
use Rattle.hash_index.specs.Lists.{index_of}
use Rattle.crawl_session.proofs.texts.Texts.insert.Goals as goal

-- what was found says whether the text was there
found_says : (found : Option ℕ) (seen before old : List (List ℕ)) (text : List ℕ) → found ≡ index_of (map (λ (t : List ℕ). t) seen) text → seen ≡ before → before ≡ old → is_some found ≡ has_text old text
found_says found seen before old text found_is same view = grind (arith, map-id, has_index)

pub returns-in-Some-clause-new : goal.returns-in-Some-clause-new
returns-in-Some-clause-new c =
    let same : c.reserve.new.self.items ≡ c.self.inside.texts.items = search rules in
    let copies = found_says c.in_ok-find_or_insert.field-0 c.reserve.new.self.items c.self.inside.texts.items c.args.self.now c.args.text c.in_ok-find_or_insert.ensures.found same c.self.view_is in
    ap not (sym (ap is_some c.in-Some.is) ∙ copies)

pub returns-in-Some-clause-texts : goal.returns-in-Some-clause-texts
returns-in-Some-clause-texts c =
    let same : c.reserve.new.self.items ≡ c.self.inside.texts.items = search rules in
    let old = c.args.self.now in
    let copies = found_says c.in_ok-find_or_insert.field-0 c.reserve.new.self.items c.self.inside.texts.items old c.args.text c.in_ok-find_or_insert.ensures.found same c.self.view_is in
    same ∙ c.self.view_is ∙ ap (λ b. if b then old else old ++ c.args.text ∷ []) (sym (ap is_some c.in-Some.is) ∙ copies)

pub returns-in-None-clause-new : goal.returns-in-None-clause-new
returns-in-None-clause-new c =
    let same : c.reserve.new.self.items ≡ c.self.inside.texts.items = search rules in
    let copies = found_says c.in_ok-find_or_insert.field-0 c.reserve.new.self.items c.self.inside.texts.items c.args.self.now c.args.text c.in_ok-find_or_insert.ensures.found same c.self.view_is in
    ap not (sym (ap is_some c.in-None.is) ∙ copies)

pub returns-in-None-clause-texts : goal.returns-in-None-clause-texts
returns-in-None-clause-texts c =
    let same : c.reserve.new.self.items ≡ c.self.inside.texts.items = search rules in
    let old = c.args.self.now in
    let copies = found_says c.in_ok-find_or_insert.field-0 c.reserve.new.self.items c.self.inside.texts.items old c.args.text c.in_ok-find_or_insert.ensures.found same c.self.view_is in
    c.push_reserved.ensures.items ∙ ap (λ l. l ++ c.args.text ∷ []) (same ∙ c.self.view_is) ∙ ap (λ b. if b then old else old ++ c.args.text ∷ []) (sym (ap is_some c.in-None.is) ∙ copies)
