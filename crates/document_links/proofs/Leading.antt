-- The URLs to which links lead, one link after another.
use Rattle.document_links.proofs.Prelude.{◌≡◌, ◌∙◌, ℕ, ◌+◌, ◌<◌, Bool, true, false, List, [], ◌∷◌, ◌++◌, Option, Result, IfOk, and_parts, ap, clean, get_or, length, refl, subst, sym, take, written}
use Rattle.std.proofs.Common.{Ok, Err}
use Rattle.std.proofs.lemmas.List.{take_more}
use Rattle.std.specs.Result.{result_ok}
use Rattle.crawl_keys.specs.CanonicalText.{resolve}
use Rattle.document_links.specs.declared.charset.Charset.{Charset}
use Rattle.document_links.specs.LinkUrls.{AreUrlsOf, IsUrlOf}
use Rattle.document_links.specs.Written.{can_write, has_room, keeps_query}

urls_more : (charset : Charset) (page : List ℕ) (links : List (List ℕ)) (urls : List (Option (List ℕ))) (link : List ℕ) (url : Option (List ℕ)) → AreUrlsOf charset page links urls → IsUrlOf (can_write charset link) page link url → AreUrlsOf charset page (links ++ link ∷ []) (urls ++ url ∷ [])
urls_more charset page [] [] link url before own = (own, tt)
urls_more charset page [] (other ∷ urls) link url before own = absurd before
urls_more charset page (first ∷ links) [] link url before own = absurd before
urls_more charset page (first ∷ links) (other ∷ urls) link url before own = (before.0, urls_more charset page links urls link url before.1 own)

pub next_urls : (charset : Charset) (page : List ℕ) (links : List (List ℕ)) (i : ℕ) (link : List ℕ) (urls : List (Option (List ℕ))) (url : Option (List ℕ)) → i < length links → link ≡ get_or links i [] → AreUrlsOf charset page (take i links) urls → IsUrlOf (can_write charset link) page link url → AreUrlsOf charset page (take (i + 1) links) (urls ++ url ∷ [])
next_urls charset page links i link urls url within is before own =
    let front : take (i + 1) links ≡ take i links ++ link ∷ [] = take_more links i [] within ∙ ap (λ l. take i links ++ l ∷ []) (sym is) in
    subst (λ l. AreUrlsOf charset page l (urls ++ url ∷ [])) (sym front) (urls_more charset page (take i links) urls link url before own)

pub same_urls : (a b : Charset) (page from : List ℕ) (links own : List (List ℕ)) (urls : List (Option (List ℕ))) → a ≡ b → page ≡ from → links ≡ own → AreUrlsOf a page links urls → AreUrlsOf b from own urls
same_urls a b page from links own urls charset base is all =
    subst (λ l. AreUrlsOf b from l urls) is (subst (λ p. AreUrlsOf b p links urls) base (subst (λ c. AreUrlsOf c page links urls) charset all))

-- ---- the URL of one link

-- the one text that is written of a link
pub one_text : (charset : Charset) (text : List ℕ) (old texts : List (List ℕ)) → (has_room (clean text) ≡ true → keeps_query charset (clean text) ≡ true → texts ≡ old ++ written text ∷ []) → can_write charset text ≡ true → old ≡ [] → texts ≡ written text ∷ []
one_text charset text old texts pushed can none =
    let both = and_parts (has_room (clean text)) (keeps_query charset (clean text)) can in
    pushed both.0 both.1 ∙ ap (λ l. l ++ written text ∷ []) none

pub only_text : {E : Type 0} (r : Result (Option (List ℕ)) E) (page : List ℕ) (texts : List (List ℕ)) (own text : List ℕ) → own ≡ get_or texts 0 [] → IfOk r (λ url. url ≡ result_ok (resolve page own)) → texts ≡ text ∷ [] → IfOk r (λ url. url ≡ result_ok (resolve page text))
only_text r page texts own text is led only = subst (λ t. IfOk r (λ url. url ≡ result_ok (resolve page t))) (is ∙ ap (λ l. get_or l 0 []) only) led

is_url : (page link : List ℕ) (url : Option (List ℕ)) (is : Bool) → (is ≡ true → url ≡ result_ok (resolve page (written link))) → IsUrlOf is page link url
is_url page link url true led = led refl
is_url page link url false led = tt

pub url_written : {E : Type 0} (r : Result (Option (List ℕ)) E) (charset : Charset) (page link : List ℕ) (texts : List (List ℕ)) → (can_write charset link ≡ true → texts ≡ written link ∷ []) →
    ((text : List ℕ) → texts ≡ text ∷ [] → IfOk r (λ url. url ≡ result_ok (resolve page text))) → IfOk r (λ url. IsUrlOf (can_write charset link) page link url)
url_written (Ok url) charset page link texts own led = is_url page link url (can_write charset link) (λ can. led (written link) (own can))
url_written (Err e) charset page link texts own led = tt
