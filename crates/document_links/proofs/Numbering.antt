-- The numbers of targets, and the links with a `#`.
use Rattle.document_links.proofs.Prelude.{◌≡◌, ◌∙◌, ℕ, ◌+◌, ◌<◌, ◌≤◌, ◌==◌, Bool, true, false, cond, List, [], ◌∷◌, ◌++◌, Option, Some, None, length, take, get_or, refl, sym, ap, subst, arith, clean, list_any, list_any-append}
use Rattle.std.proofs.Common.{Ordering, eq-eqb, ⊎_elim, append-nil, append_assoc}
use Rattle.std.specs.Prelude.{All, IfSome, IsPermutation}
use Rattle.std.specs.Borrow.{Bor}
use Rattle.std.specs.BTreeMap.{insert_entry}
use Rattle.std.specs.Cmp.Lexicographic.{slice_cmp}
use Rattle.std.specs.Map.{lookup}
use Rattle.std.specs.Ordering.{is_eq, match_ordering, nat_cmp}
use Rattle.std.specs.Result.{result_ok}
use Rattle.std.specs.declared.cmp.Ordering.TheVariants.{Less, Equal, Greater}
use Rattle.std.proofs.lemmas.Bool.{cases_lt, or_left, or_right}
use Rattle.std.proofs.lemmas.List.{get_or_append_left, get_or_push, length-append}
use Rattle.std.proofs.lemmas.List.Elements.{All-cons, All-head, All-nil, All-push, All-tail, All-weaker}
use Rattle.std.proofs.lemmas.List.Sorted.{All-permutation, list_any-IsPermutation}
use Rattle.std.proofs.lemmas.Map.Lookups.{exact_bytes}
use Rattle.std.proofs.lemmas.Map.Views.{tells_apart}
use Rattle.crawl_keys.specs.CanonicalText.{resolve}
use Rattle.document_links.specs.declared.marked_links.MarkedLink.{MarkedLink}
use Rattle.document_links.specs.declared.targets.Targets.{Targets}
use Rattle.document_links.specs.Keeping.{AreMarked, AreMore, AreTargets, GivesNumber, HasNumber, IsMarked, IsTarget, sign_of}
use Rattle.document_links.specs.Written.{has_no_base, keeps_query}

-- ---- the map from texts to numbers

if_found : (b : Bool) (o : Option ℕ) (x : ℕ) (Q : ℕ → Type 0) → (b ≡ true → Q x) → IfSome o Q → IfSome (cond b (Some x) o) Q
if_found true o x Q here there = here refl
if_found false o x Q here there = there

pub found_entry : (P : List ℕ → ℕ → Type 0) (text : List ℕ) (entries : List (Bor (List ℕ) × ℕ)) → All (λ (e : Bor (List ℕ) × ℕ). P e.0.now e.1) entries → IfSome (lookup (λ (k : Bor (List ℕ)). is_eq (slice_cmp nat_cmp text k.now)) entries) (P text)
found_entry P text [] all = tt
found_entry P text (e ∷ es) all =
    if_found (is_eq (slice_cmp nat_cmp text e.0.now)) (lookup (λ (k : Bor (List ℕ)). is_eq (slice_cmp nat_cmp text k.now)) es) e.1 (P text)
    (λ same. subst (λ t. P t e.1) (sym (tells_apart exact_bytes text e.0.now same)) (All-head (λ (e : Bor (List ℕ) × ℕ). P e.0.now e.1) e es all))
    (found_entry P text es (All-tail (λ (e : Bor (List ℕ) × ℕ). P e.0.now e.1) e es all))

in_order : {X : Type 0} (Q : List X → Type 0) (o : Ordering) (a b c : List X) → Q a → (o ≡ Equal → Q b) → Q c → Q (match_ordering o a b c)
in_order Q Less a b c p q r = p
in_order Q Equal a b c p q r = q refl
in_order Q Greater a b c p q r = r

pub more_entries : (P : List ℕ → ℕ → Type 0) (key : Bor (List ℕ)) (number : ℕ) (entries : List (Bor (List ℕ) × ℕ)) → All (λ (e : Bor (List ℕ) × ℕ). P e.0.now e.1) entries → P key.now number → All (λ (e : Bor (List ℕ) × ℕ). P e.0.now e.1) (insert_entry (λ (x y : Bor (List ℕ)). slice_cmp nat_cmp x.now y.now) entries key number)
more_entries P key number [] all new = All-cons (λ (e : Bor (List ℕ) × ℕ). P e.0.now e.1) (key, number) [] new (All-nil (λ (e : Bor (List ℕ) × ℕ). P e.0.now e.1))
more_entries P key number (e ∷ es) all new =
    let E = λ (e : Bor (List ℕ) × ℕ). P e.0.now e.1 in
    let more = insert_entry (λ (x y : Bor (List ℕ)). slice_cmp nat_cmp x.now y.now) es key number in
    in_order (All (λ (e : Bor (List ℕ) × ℕ). P e.0.now e.1)) (slice_cmp nat_cmp key.now e.0.now) ((key, number) ∷ e ∷ es) ((e.0, number) ∷ es) (e ∷ more)
    (All-cons E (key, number) (e ∷ es) new all)
    (λ same. All-cons E (e.0, number) es (subst (λ t. P t number) (exact_bytes key.now e.0.now same) new) (All-tail E e es all))
    (All-cons E e more (All-head E e es all) (more_entries P key number es (All-tail E e es all) new))

-- ---- numbers

pub number_stays : (old new : Targets) (text : List ℕ) (number : ℕ) → AreMore old new → HasNumber old text number → HasNumber new text number
number_stays old new text number more is = record {
  within = omega (arith, ap length more.urls, length-append old.urls.items more.more, is.within);
  is = λ unbased fit query.
      ap (λ l. get_or l number None) more.urls
      ∙ get_or_append_left old.urls.items more.more None number is.within
      ∙ is.is (sym (ap has_no_base more.base) ∙ unbased) fit (sym (ap (λ x. keeps_query x (clean text)) more.charset) ∙ query)
      ∙ ap (λ page. result_ok (resolve page text)) (sym more.page);
}

pub no_more : (targets : Targets) → AreMore targets targets
no_more targets = record { base = refl; charset = refl; page = refl; more = []; urls = sym (append-nil targets.urls.items) }

pub yet_more : (old mid new : Targets) → AreMore old mid → AreMore mid new → AreMore old new
yet_more old mid new one two = record {
  base = two.base ∙ one.base;
  charset = two.charset ∙ one.charset;
  page = two.page ∙ one.page;
  more = one.more ++ two.more;
  urls = two.urls ∙ ap (λ l. l ++ two.more) one.urls ∙ append_assoc old.urls.items one.more two.more;
}

pub number_found : (old : Targets) (key : Bor (List ℕ)) (number : ℕ) → AreTargets old → HasNumber old key.now number → GivesNumber old (record old { last = Some (key, number) }) key.now number
number_found old key number are has = record {
  more = record { base = refl; charset = refl; page = refl; more = []; urls = sym (append-nil old.urls.items) };
  targets = record { none = are.none; numbers = are.numbers; last = has };
  numbered = has;
}

pub number_inserted : (old new : Targets) (key : Bor (List ℕ)) (url : Option (List ℕ)) (number : ℕ) → number ≡ length old.urls.items → AreTargets old → new.writer.base ≡ old.writer.base → new.writer.charset ≡ old.writer.charset → new.base ≡ old.base → new.writer.links ≡ []
    → new.urls.items ≡ old.urls.items ++ url ∷ [] → new.numbers.entries ≡ insert_entry (λ (x y : Bor (List ℕ)). slice_cmp nat_cmp x.now y.now) old.numbers.entries key number → new.last ≡ Some (key, number)
    → IsTarget old.writer.base old.writer.charset old.base key.now url → GivesNumber old new key.now number
number_inserted old new key url number next are base charset page none urls entries last is =
    let more : AreMore old new = record { base = base; charset = charset; page = page; more = url ∷ []; urls = urls } in
    let own : HasNumber new key.now number = record {
      within = omega (arith, ap length urls, length-append old.urls.items (url ∷ []), next);
      is = λ unbased fit query.
          ap (λ l. get_or l number None) urls
          ∙ get_or_push old.urls.items url None number (sym next)
          ∙ is (sym (ap has_no_base base) ∙ unbased) fit (sym (ap (λ x. keeps_query x (clean key.now)) charset) ∙ query)
          ∙ ap (λ p. result_ok (resolve p key.now)) (sym page);
    } in
    let stay = All-weaker (λ (e : Bor (List ℕ) × ℕ). HasNumber old e.0.now e.1) (λ (e : Bor (List ℕ) × ℕ). HasNumber new e.0.now e.1) (λ e has. number_stays old new e.0.now e.1 more has) old.numbers.entries are.numbers in
    record {
      more = more;
      targets = record {
        none = none;
        numbers = subst (All (λ (e : Bor (List ℕ) × ℕ). HasNumber new e.0.now e.1)) (sym entries) (more_entries (HasNumber new) key number old.numbers.entries stay own);
        last = subst (λ (known : Option (Bor (List ℕ) × ℕ)). IfSome known (λ (known : Bor (List ℕ) × ℕ). HasNumber new known.0.now known.1)) (sym last) own;
      };
      numbered = own;
    }

-- ---- links with a `#`

marked_stays : (old new : Targets) (values : List (List ℕ)) (link : MarkedLink) → AreMore old new → IsMarked old values link → IsMarked new values link
marked_stays old new values link more is = record {
  within = is.within;
  sign = is.sign;
  begin = is.begin;
  target = number_stays old new (take link.begin (get_or values link.index [])) link.target more is.target;
}

pub none_marked : (targets : Targets) (values : List (List ℕ)) → AreMarked targets values 0 []
none_marked targets values = record { each = All-nil (IsMarked targets values); all = λ index below signed. absurd (omega arith) }

pub not_marked : (targets : Targets) (values : List (List ℕ)) (index : ℕ) (links : List MarkedLink) → AreMarked targets values index links → sign_of (get_or values index []) ≡ length (get_or values index []) → AreMarked targets values (index + 1) links
not_marked targets values index links before none = record {
  each = before.each;
  all = λ k below signed.
      ⊎_elim (λ (earlier : k < index). before.all k earlier signed)
      (λ (later : index ≤ k).
      let same : index ≡ k = omega (arith, later, below) in
      absurd (omega (arith, signed, subst (λ i. sign_of (get_or values i []) ≡ length (get_or values i [])) same none)))
      (cases_lt k index);
}

pub one_marked : (old new : Targets) (values : List (List ℕ)) (index : ℕ) (links : List MarkedLink) (target sign : ℕ) → AreMarked old values index links → AreMore old new → index < length values
    → sign_of (get_or values index []) ≡ sign → sign < length (get_or values index []) → HasNumber new (take (sign + 1) (get_or values index [])) target
    → AreMarked new values (index + 1) (links ++ record { target = target; index = index; begin = sign + 1 } ∷ [])
one_marked old new values index links target sign before more within first inside number =
    let new_link : MarkedLink = record { target = target; index = index; begin = sign + 1 } in
    let own : IsMarked new values new_link = record {
      within = within;
      sign = subst (λ s. s < length (get_or values index [])) (sym first) inside;
      begin = ap (λ s. s + 1) (sym first);
      target = number;
    } in
    record {
      each = All-push (IsMarked new values) links new_link (All-weaker (IsMarked old values) (IsMarked new values) (λ link is. marked_stays old new values link more is) links before.each) own;
      all = λ k below signed.
          let test = λ (link : MarkedLink). link.index == k in
          list_any-append test links (new_link ∷ [])
          ∙ ⊎_elim (λ (earlier : k < index). or_left (list_any test links) (list_any test (new_link ∷ [])) (before.all k earlier signed))
          (λ (later : index ≤ k).
          let same : index ≡ k = omega (arith, later, below) in
          or_right (list_any test links) (list_any test (new_link ∷ [])) (or_left (index == k) false (eq-eqb index k same)))
          (cases_lt k index);
    }

-- the number of the part of a value up to a position
pub number_at : (new : Targets) (text value : List ℕ) (target n m : ℕ) → HasNumber new (take m text) target → text ≡ value → m ≡ n → HasNumber new (take n value) target
number_at new text value target n m has same is = subst (λ t. HasNumber new t target) (λ i. take (is i) (same i)) has

pub marked_sorted : (targets : Targets) (values : List (List ℕ)) (count : ℕ) (links sorted : List MarkedLink) → AreMarked targets values count links → IsPermutation links sorted → AreMarked targets values count sorted
marked_sorted targets values count links sorted before same = record {
  each = All-permutation (IsMarked targets values) links sorted same before.each;
  all = λ k below signed. sym (list_any-IsPermutation (λ (link : MarkedLink). link.index == k) links sorted same) ∙ before.all k below signed;
}
