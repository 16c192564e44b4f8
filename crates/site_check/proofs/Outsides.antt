-- URLs outside a site, and their paths from its top.
use Rattle.site_check.proofs.Prelude.{common_steps, ◌≡◌, ◌∙◌, ℕ, suc, ◌+◌, ◌<◌, Bool, true, false, List, [], ◌∷◌, ◌++◌, length, length-take-le, map, drop, take, take_more, get_or, refl, sym, ap, inl, inr, arith, append_assoc, cases_Bool, cond-true, cond-false, take-append-drop, bytes_eq-Decides, Bor, PageResult, Target, begins, linked, outside_number, outside_targets, pointed, to_number, SiteFiles}
use Rattle.std.proofs.Common.{codes, ◌≢◌, eqb, eq-eqb, eqb-true, ne_eqb}
use Rattle.site_check.proofs.LeadsFound.{no_more}
use Rattle.site_check.specs.Leaving.{outside_row, path_after, path_from, steps_up}
use Rattle.site_check.specs.declared.input.MapName.{MapName}
use Rattle.site_check.specs.declared.outside.Outside.{Outside}

-- ---- on the host

begins_both : (front more url : List ℕ) → begins (front ++ more) (front ++ url) ≡ begins more url
begins_both [] more url = refl
begins_both (b ∷ front) more url = grind (arith, common_steps, begins_both front more url)

pub on_host : (front url rest : List ℕ) (n : ℕ) (is : Bool) → n ≡ length front → url ≡ front ++ drop n url → rest ≡ drop n url → is ≡ begins (codes "/") rest →
    is ≡ begins (front ++ 47 ∷ []) url
on_host front url rest n is count split cut test =
    test ∙ sym (begins_both front (47 ∷ []) rest) ∙ ap (λ r. begins (front ++ 47 ∷ []) (front ++ r)) cut ∙ ap (begins (front ++ 47 ∷ [])) (sym split)

pub off_host : (front url : List ℕ) → ((rest : List ℕ) → url ≡ front ++ rest → ⊥) → false ≡ begins (front ++ 47 ∷ []) url
off_host front url lacks =
    let whole = front ++ 47 ∷ [] in
    let rest = drop (length whole) url in
    elim (cases_Bool (begins whole url)) [
      | inl with ↦
          absurd (lacks (47 ∷ rest)
          (sym (take-append-drop (length whole) url) ∙ ap (λ t. t ++ rest) ((bytes_eq-Decides (take (length whole) url) whole).0 with) ∙ append_assoc front (47 ∷ []) rest))
      | inr without ↦ sym without
    ]

-- ---- no such result

pub none_outside : (rooted : Bool) (maps : List MapName) (files : SiteFiles) (results rs : List PageResult) (found : List (Bor PageResult)) → length found ≡ 0 → pointed found ≡ rs →
    [] ≡ map (outside_row rooted maps files) (map (linked results) rs)
none_outside rooted maps files results rs [] none are = ap (λ own. map (outside_row rooted maps files) (map (linked results) own)) are
none_outside rooted maps files results rs (r ∷ found) none are = absurd (omega (arith, none))

-- ---- their numbers

numbers_after : (entries : List (List ℕ)) (n : ℕ) (xs ys : List Outside) →
    outside_targets entries n (xs ++ ys) ≡ outside_targets entries n xs ++ outside_targets entries (n + length xs) ys
numbers_after entries n [] ys = ap (λ k. outside_targets entries k ys) (omega arith)
numbers_after entries n (x ∷ xs) ys =
    let here : List Target = to_number x.linked.result.now.url (outside_number entries n x) in
    let place : (n + 1) + length xs ≡ n + length (x ∷ xs) = omega arith in
    ap (λ l. here ++ l) (numbers_after entries (n + 1) xs ys)
    ∙ sym (append_assoc here (outside_targets entries (n + 1) xs) (outside_targets entries ((n + 1) + length xs) ys))
    ∙ ap (λ k. (here ++ outside_targets entries (n + 1) xs) ++ outside_targets entries k ys) place

-- one URL more
pub outside_more : (entries : List (List ℕ)) (outside : List Outside) (i : ℕ) (one : Outside) → i < length outside → one ≡ get_or outside i one →
    outside_targets entries 0 (take (i + 1) outside) ≡ outside_targets entries 0 (take i outside) ++ to_number one.linked.result.now.url (outside_number entries i one)
outside_more entries outside i one below is = grind (arith, common_steps, length-take-le, take_more, numbers_after, no_more)

-- ---- paths

-- there is no slash in the text
abbrev pub IsName : List ℕ → Type 0
IsName text = (i : ℕ) → i < length text → get_or text i 0 ≢ 47

pub more_name : (b : ℕ) (text : List ℕ) → IsName (b ∷ text) → IsName text
more_name b text free = λ i below. free (suc i) (omega (arith, below))

pub first_free : (b : ℕ) (text : List ℕ) → IsName (b ∷ text) → eqb b 47 ≡ false
first_free b text free = ne_eqb b 47 (free 0 (omega arith))

same_name : (up rest name below following : List ℕ) → IsName name → path_after up rest (name ++ 47 ∷ below) (name ++ 47 ∷ following) ≡ path_from below following
same_name up rest [] below following free = refl
same_name up rest (b ∷ name) below following free =
    cond-true (eqb b b) _ _ (eq-eqb b b refl) ∙ cond-false (eqb b 47) _ _ (first_free b name free) ∙ same_name up rest name below following (more_name b name free)

-- what comes of two bytes that no slash is
step : (up rest top url : List ℕ) (t u : ℕ) → (eqb t u ≡ true → eqb t 47 ≡ false) → (eqb t u ≡ true → path_after up rest top url ≡ steps_up up ++ rest) →
    path_after up rest (t ∷ top) (u ∷ url) ≡ steps_up up ++ rest
step up rest top url t u free more =
    elim (cases_Bool (eqb t u)) [
      | inl same ↦ cond-true (eqb t u) _ _ same ∙ cond-false (eqb t 47) _ _ (free same) ∙ more same
      | inr other ↦ cond-false (eqb t u) _ _ other
    ]

other_name : (up rest name other below following : List ℕ) → IsName name → IsName other → name ≢ other → path_after up rest (name ++ 47 ∷ below) (other ++ 47 ∷ following) ≡ steps_up up ++ rest
other_name up rest [] [] below following free others differ = absurd (differ refl)
other_name up rest [] (u ∷ other) below following free others differ = cond-false (eqb 47 u) _ _ (ne_eqb 47 u (λ e. others 0 (omega arith) (sym e)))
other_name up rest (t ∷ name) [] below following free others differ = cond-false (eqb t 47) _ _ (first_free t name free)
other_name up rest (t ∷ name) (u ∷ other) below following free others differ =
    step up rest (name ++ 47 ∷ below) (other ++ 47 ∷ following) t u (λ _. first_free t name free)
    (λ same. other_name up rest name other below following (more_name t name free) (more_name u other others) (λ e. differ (λ i. eqb-true t u same i ∷ e i)))

top_name : (up rest top url : List ℕ) → IsName top → path_after up rest top url ≡ steps_up up ++ rest
top_name up rest [] url free = refl
top_name up rest (t ∷ top) [] free = refl
top_name up rest (t ∷ top) (u ∷ url) free = step up rest top url t u (λ _. first_free t top free) (λ _. top_name up rest top url (more_name t top free))

url_name : (up rest top url : List ℕ) → IsName url → path_after up rest top url ≡ steps_up up ++ rest
url_name up rest [] url free = refl
url_name up rest (t ∷ top) [] free = refl
url_name up rest (t ∷ top) (u ∷ url) free =
    step up rest top url t u (λ same. ap (λ b. eqb b 47) (eqb-true t u same) ∙ first_free u url free) (λ _. url_name up rest top url (more_name u url free))

pub path_below : (top url name below other following : List ℕ) → top ≡ name ++ 47 ∷ below → url ≡ other ++ 47 ∷ following → IsName name → name ≡ other → path_from top url ≡ path_from below following
path_below top url name below other following above ahead free same =
    (λ i. path_after top url (above i) (ahead i)) ∙ ap (λ o. path_after top url (name ++ 47 ∷ below) (o ++ 47 ∷ following)) (sym same) ∙ same_name top url name below following free

pub path_differs : (top url name below other following : List ℕ) → top ≡ name ++ 47 ∷ below → url ≡ other ++ 47 ∷ following → IsName name → IsName other → name ≢ other → path_from top url ≡ steps_up top ++ url
path_differs top url name below other following above ahead free others differ =
    (λ i. path_after top url (above i) (ahead i)) ∙ other_name top url name other below following free others differ

pub path_of_top : (top url : List ℕ) → IsName top → path_from top url ≡ steps_up top ++ url
path_of_top top url free = top_name top url top url free

pub path_of_url : (top url : List ℕ) → IsName url → path_from top url ≡ steps_up top ++ url
path_of_url top url free = url_name top url top url free
