-- The prescan over runs of bytes: a run over which it stays in a state is one jump.
use Rattle.document_links.proofs.Prelude.{◌≡◌, ◌∙◌, ℕ, ◌<◌, ◌≤◌, ◌+◌, ◌-◌, ◌==◌, ◌||◌, not, Bool, true, false, cond, List, [], ◌∷◌, ◌++◌, length, take, take_all, drop, Option, None, Some, refl, sym, ap, subst, arith, cond-true, cond-false, cases_Bool, false_from_ne_true, true≢false, eqb-true}
use Rattle.std.proofs.Common.{zero, suc, ⊎_elim, codes, take_while}
use Rattle.std.specs.Char.{is_ascii_whitespace}
use Rattle.std.specs.Option.{option_map_or}
use Rattle.std.specs.Str.{IsTrimAsciiStart}
use Rattle.std.proofs.lemmas.Bool.{eq-eqb, not-false}
use Rattle.std.proofs.lemmas.List.Folds.{length-prefix_len}
use Rattle.std.proofs.lemmas.Str.Ascii.{trim_ascii_start_is}
use Rattle.html_links.specs.Shown.{Stopped, following, front}
use Rattle.html_links.proofs.Cuts.{front_cut, after_cut, tail_front, tail_after}
use Rattle.html_links.proofs.Jumps.{shorter, stopped}
use Rattle.document_links.specs.Markup.{begins, is_quote}
use Rattle.document_links.specs.Prescan.{AfterName, BeforeName, BeforeValue, Comment, Content, Go, Markup, Meta, MetaName, Name, Next, Quoted, State, TagName, Unquoted, after_spaces, begun, ended, first_is, follow, is_gap, new_tag, noted, opening_of, prescan, state_in, step}
use Rattle.document_links.specs.Scans.{BeginsName, Leaves, LeavesPiece, following_name, is_inner, is_unquoted, name_front}
use Rattle.document_links.specs.Starts.{after_word}
use Rattle.document_links.specs.declared.prescan.Piece.{Piece}
use Rattle.document_links.specs.declared.prescan.Scan.{Scan}
use Rattle.document_links.proofs.Runs.{collects_run, fails}
use Rattle.document_links.proofs.Occurrences.{ending}

-- ---- runs

pub after_trimmed : (bytes rest : List ℕ) → IsTrimAsciiStart bytes rest → rest ≡ after_spaces bytes
after_trimmed bytes rest trims =
    trim_ascii_start_is bytes rest trims ∙ sym (ap (λ n. drop n bytes) (length-prefix_len is_ascii_whitespace bytes)) ∙ after_cut is_ascii_whitespace bytes

-- a name, by the length of the part after its first byte
pub name_cut : (bytes : List ℕ) (n : ℕ) → BeginsName bytes → n ≡ length (take_while is_inner (take (length bytes - 1) (drop 1 bytes))) →
    (take (1 + n) bytes ≡ name_front bytes) × (drop (1 + n) bytes ≡ following_name bytes)
name_cut [] n begins len = absurd begins
name_cut (b ∷ bytes) n begins len =
    let whole : take (length (b ∷ bytes) - 1) bytes ≡ bytes = take_all (length (b ∷ bytes) - 1) bytes (omega arith) in
    let count : n ≡ length (take_while is_inner bytes) = len ∙ ap (λ (l : List ℕ). length (take_while is_inner l)) whole in (
      tail_front b bytes n ∙ ap (λ t. b ∷ t) (ap (λ k. take k bytes) count ∙ front_cut is_inner bytes),
      tail_after b bytes n ∙ ap (λ k. drop k bytes) count ∙ after_cut is_inner bytes,
    )

abbrev on : List ℕ → Next → Option (List ℕ)
on bytes next = follow next (λ state. prescan state bytes)

jump_at : (s : State) (is : Bool) (b : ℕ) (bytes more : List ℕ) → (is ≡ true → step s b bytes ≡ Go s) → prescan s bytes ≡ prescan s more → prescan s (b ∷ bytes) ≡ prescan s (cond is more (b ∷ bytes))
jump_at s true b bytes more stays later = ap (on bytes) (stays refl) ∙ later
jump_at s false b bytes more stays later = refl

jump : (s : State) (test : ℕ → Bool) → ((b : ℕ) (bytes : List ℕ) → test b ≡ true → step s b bytes ≡ Go s) → (bytes : List ℕ) → prescan s bytes ≡ prescan s (following test bytes)
jump s test stays [] = refl
jump s test stays (b ∷ bytes) = jump_at s (test b) b bytes (following test bytes) (stays b bytes) (jump s test stays bytes)

-- two states with the same step at the byte that ends a run
same_stopped : (s t : State) (test : ℕ → Bool) → ((b : ℕ) (bytes : List ℕ) → test b ≡ false → step s b bytes ≡ step t b bytes) → (bytes : List ℕ) → Stopped test bytes → prescan s bytes ≡ prescan t bytes
same_stopped s t test same [] stop = refl
same_stopped s t test same (b ∷ bytes) stop = ap (on bytes) (same b bytes stop)

-- ---- outside of tags

content_run : (bytes : List ℕ) → prescan Content bytes ≡ prescan Content (following (λ b. not (b == 60)) bytes)
content_run = jump Content (λ b. not (b == 60)) (λ b bytes is. ap Go (fails (b == 60) _ _ is))

pub no_markup : (bytes : List ℕ) → following (λ b. not (b == 60)) bytes ≡ [] → prescan Content bytes ≡ None
no_markup bytes none = content_run bytes ∙ ap (prescan Content) none

pub to_markup : (bytes opened : List ℕ) → 60 ∷ opened ≡ following (λ b. not (b == 60)) bytes → prescan Content bytes ≡ prescan (state_in (opening_of opened)) opened
to_markup bytes opened here = content_run bytes ∙ ap (prescan Content) (sym here)

markup_run : (bytes : List ℕ) → prescan Markup bytes ≡ prescan Markup (following (λ b. not (b == 62)) bytes)
markup_run = jump Markup (λ b. not (b == 62)) (λ b bytes is. ap Go (fails (b == 62) _ _ is))

pub open_markup : (bytes : List ℕ) → following (λ b. not (b == 62)) bytes ≡ [] → prescan Markup bytes ≡ None
open_markup bytes none = markup_run bytes ∙ ap (prescan Markup) none

pub closed_markup : (bytes more : List ℕ) → 62 ∷ more ≡ following (λ b. not (b == 62)) bytes → prescan Markup bytes ≡ prescan Content more
closed_markup bytes more here = markup_run bytes ∙ ap (prescan Markup) (sym here)

comment : (bytes : List ℕ) → prescan Comment bytes ≡ option_map_or (prescan Content) (after_word (codes "-->") bytes) None
comment [] = refl
comment (b ∷ bytes) =
    let ends : Bool = begins (codes "-->") (b ∷ bytes) in
    let rest : Option (List ℕ) = after_word (codes "-->") bytes in
    ⊎_elim (λ (t : ends ≡ true).
    let whole : b ∷ bytes ≡ 45 ∷ 45 ∷ 62 ∷ drop 2 bytes = ending (b ∷ bytes) t in
    let tail : bytes ≡ 45 ∷ 62 ∷ drop 2 bytes = cc in
    ap (λ s. prescan (cond s Markup Comment) bytes) t
    ∙ ap (prescan Markup) tail
    ∙ ap (λ o. option_map_or (prescan Content) o None) (sym (cond-true ends (Some (drop 2 bytes)) rest t)))
    (λ (f : ends ≡ false).
    ap (λ s. prescan (cond s Markup Comment) bytes) f
    ∙ comment bytes
    ∙ ap (λ o. option_map_or (prescan Content) o None) (sym (cond-false ends (Some (drop 2 bytes)) rest f)))
    (cases_Bool ends)

pub open_comment : (bytes : List ℕ) → after_word (codes "-->") bytes ≡ None → prescan Comment bytes ≡ None
open_comment bytes none = comment bytes ∙ ap (λ o. option_map_or (prescan Content) o None) none

pub closed_comment : (bytes more : List ℕ) → after_word (codes "-->") bytes ≡ Some more → prescan Comment bytes ≡ prescan Content more
closed_comment bytes more here = comment bytes ∙ ap (λ o. option_map_or (prescan Content) o None) here

-- ---- the names of tags

pub tag_name : (bytes : List ℕ) → prescan TagName bytes ≡ prescan (BeforeName (new_tag false)) (following is_unquoted bytes)
tag_name bytes =
    jump TagName is_unquoted (λ b bytes is. fails (is_ascii_whitespace b || b == 62) _ _ is) bytes
    ∙ same_stopped TagName (BeforeName (new_tag false)) is_unquoted (λ b bytes is. cond-true (is_ascii_whitespace b || b == 62) _ _ (not-false (is_ascii_whitespace b || b == 62) is)) (following is_unquoted bytes) (stopped is_unquoted bytes)

pub meta_name : (n : ℕ) (bytes : List ℕ) → n < length bytes → prescan (MetaName n) bytes ≡ prescan (BeforeName (new_tag true)) (drop (suc n) bytes)
meta_name n [] some = absurd (omega arith)
meta_name zero (b ∷ bytes) some = refl
meta_name (suc n) (b ∷ bytes) some = meta_name n bytes (omega arith)

-- ---- attributes

pub before_gap : (tag : Meta) (bytes : List ℕ) → prescan (BeforeName tag) bytes ≡ prescan (BeforeName tag) (following is_gap bytes)
before_gap tag = jump (BeforeName tag) is_gap (λ b bytes is. cond-true (is_gap b) _ _ is)

pub no_piece : (tag : Meta) (bytes rest : List ℕ) → rest ≡ following is_gap bytes → rest ≡ [] → prescan (BeforeName tag) bytes ≡ None
no_piece tag bytes rest skipped none = before_gap tag bytes ∙ ap (prescan (BeforeName tag)) (sym skipped ∙ none)

pub tag_end : (tag : Meta) (bytes rest more : List ℕ) (first : ℕ) → rest ≡ following is_gap bytes → rest ≡ first ∷ more → first ≡ 62 → prescan (BeforeName tag) bytes ≡ follow (ended tag) (λ state. prescan state more)
tag_end tag bytes rest more first skipped is here = before_gap tag bytes ∙ ap (prescan (BeforeName tag)) (sym skipped ∙ is ∙ ap (λ b. b ∷ more) here)

pub begins_name : (bytes rest more : List ℕ) (first : ℕ) → rest ≡ following is_gap bytes → rest ≡ first ∷ more → (first ≡ 62 → ⊥) → BeginsName rest
begins_name bytes rest more first skipped is other =
    let stops : Stopped is_gap (first ∷ more) = subst (Stopped is_gap) (sym skipped ∙ is) (stopped is_gap bytes) in
    subst BeginsName (sym is) (stops, false_from_ne_true (first == 62) (λ e. other (eqb-true first 62 e)))

pub leaves_more : (p : Piece) (n m : ℕ) → n ≤ m → LeavesPiece p n → LeavesPiece p m
leaves_more p n m le less = grind arith

pub leaves_text : (s : Scan) (n m : ℕ) → n ≤ m → Leaves s n → Leaves s m
leaves_text s n m le less = grind arith

pub name_shorter : (bytes : List ℕ) → BeginsName bytes → length (after_spaces (following_name bytes)) < length bytes
name_shorter [] begins = absurd begins
name_shorter (b ∷ bytes) begins = omega (arith, shorter is_ascii_whitespace (following is_inner bytes), shorter is_inner bytes)

inner_at : {X : Type 0} (w s e g : Bool) (p q r t : X) → not ((w || s) || (e || g)) ≡ true → cond w p (cond e q (cond (s || g) r t)) ≡ t
inner_at true s e g p q r t is = absurd (true≢false (sym is))
inner_at false true e g p q r t is = absurd (true≢false (sym is))
inner_at false false true g p q r t is = absurd (true≢false (sym is))
inner_at false false false true p q r t is = absurd (true≢false (sym is))
inner_at false false false false p q r t is = refl

outer_at : {X : Type 0} (w s e g : Bool) (p q r t : X) → not ((w || s) || (e || g)) ≡ false → cond w p (cond e q (cond (s || g) r t)) ≡ cond w p (cond e q r)
outer_at true s e g p q r t is = refl
outer_at false s true g p q r t is = refl
outer_at false true false g p q r t is = refl
outer_at false false false true p q r t is = refl
outer_at false false false false p q r t is = absurd (true≢false is)

name_run : (tag : Meta) (name bytes : List ℕ) → prescan (Name tag name) bytes ≡ prescan (Name tag (name ++ front is_inner bytes)) (following is_inner bytes)
name_run tag = collects_run (λ name. prescan (Name tag name)) is_inner (λ name b bytes is. ap (on bytes) (inner_at (is_ascii_whitespace b) (b == 47) (b == 61) (b == 62) _ _ _ _ is))

name_stops : (tag : Meta) (name bytes : List ℕ) → Stopped is_inner bytes → prescan (Name tag name) bytes ≡ prescan (AfterName tag name) bytes
name_stops tag name = same_stopped (Name tag name) (AfterName tag name) is_inner (λ b bytes is. outer_at (is_ascii_whitespace b) (b == 47) (b == 61) (b == 62) _ _ _ _ is)

after_name : (tag : Meta) (name bytes : List ℕ) → prescan (AfterName tag name) bytes ≡ prescan (AfterName tag name) (after_spaces bytes)
after_name tag name = jump (AfterName tag name) is_ascii_whitespace (λ b bytes is. cond-true (is_ascii_whitespace b) _ _ is)

pub read_name : (tag : Meta) (bytes : List ℕ) → BeginsName bytes → prescan (BeforeName tag) bytes ≡ prescan (AfterName tag (name_front bytes)) (after_spaces (following_name bytes))
read_name tag [] begins = absurd begins
read_name tag (b ∷ bytes) begins =
    ap (on bytes) (cond-false (is_gap b) (Go (BeforeName tag)) _ begins.0 ∙ cond-false (b == 62) (ended tag) (Go (Name tag (b ∷ []))) begins.1)
    ∙ name_run tag (b ∷ []) bytes
    ∙ name_stops tag (b ∷ front is_inner bytes) (following is_inner bytes) (stopped is_inner bytes)
    ∙ after_name tag (b ∷ front is_inner bytes) (following is_inner bytes)

-- an attribute without a value
bare_at : {X : Type 0} (w e : Bool) (p q r : X) → w ≡ false → e ≡ false → cond w p (cond e q r) ≡ r
bare_at w e p q r no_space no_equals = cond-false w _ _ no_space ∙ cond-false e _ _ no_equals

no_value : (tag : Meta) (name bytes : List ℕ) → Stopped is_ascii_whitespace bytes → Stopped (λ b. b == 61) bytes → prescan (AfterName tag name) bytes ≡ prescan (BeforeName (noted tag name [])) bytes
no_value tag name [] space equals = refl
no_value tag name (b ∷ bytes) space equals = ap (on bytes) (bare_at (is_ascii_whitespace b) (b == 61) _ _ _ space equals)

pub read_bare : (tag : Meta) (bytes name rest : List ℕ) → BeginsName bytes → name ≡ name_front bytes → rest ≡ after_spaces (following_name bytes) → Stopped (λ b. b == 61) rest →
    prescan (BeforeName tag) bytes ≡ prescan (BeforeName (noted tag name [])) rest
read_bare tag bytes name rest begins named skipped equals =
    read_name tag bytes begins ∙ sym (λ i. prescan (AfterName tag (named i)) (skipped i))
    ∙ no_value tag name rest (subst (Stopped is_ascii_whitespace) (sym skipped) (stopped is_ascii_whitespace (following_name bytes))) equals

-- and one with a value
before_value : (tag : Meta) (name bytes : List ℕ) → prescan (BeforeValue tag name) bytes ≡ prescan (BeforeValue tag name) (after_spaces bytes)
before_value tag name = jump (BeforeValue tag name) is_ascii_whitespace (λ b bytes is. cond-true (is_ascii_whitespace b) _ _ is)

pub read_equals : (tag : Meta) (bytes name rest more value : List ℕ) → BeginsName bytes → name ≡ name_front bytes → rest ≡ after_spaces (following_name bytes) → rest ≡ 61 ∷ more → value ≡ after_spaces more →
    prescan (BeforeName tag) bytes ≡ prescan (BeforeValue tag name) value
read_equals tag bytes name rest more value begins named skipped equals valued =
    read_name tag bytes begins ∙ sym (λ i. prescan (AfterName tag (named i)) (skipped i))
    ∙ ap (prescan (AfterName tag name)) equals
    ∙ before_value tag name more
    ∙ ap (prescan (BeforeValue tag name)) (sym valued)

unquoted_run : (tag : Meta) (name value bytes : List ℕ) → prescan (Unquoted tag name value) bytes ≡ prescan (BeforeName (noted tag name (value ++ front is_unquoted bytes))) (following is_unquoted bytes)
unquoted_run tag name value bytes =
    collects_run (λ value. prescan (Unquoted tag name value)) is_unquoted (λ value b bytes is. ap (on bytes) (fails (is_ascii_whitespace b || b == 62) _ _ is)) value bytes
    ∙ same_stopped (Unquoted tag name (value ++ front is_unquoted bytes)) (BeforeName (noted tag name (value ++ front is_unquoted bytes))) is_unquoted
    (λ b bytes is. cond-true (is_ascii_whitespace b || b == 62) _ _ (not-false (is_ascii_whitespace b || b == 62) is)) (following is_unquoted bytes) (stopped is_unquoted bytes)

-- the first byte of a value without quotes
unquoted_at : (tag : Meta) (name : List ℕ) (w q g : Bool) (b : ℕ) (bytes : List ℕ) → w ≡ false → q ≡ false →
    on bytes (cond w (Go (BeforeValue tag name)) (cond q (Go (Quoted b tag name [])) (cond g (begun (noted tag name []) b) (Go (Unquoted tag name (b ∷ []))))))
    ≡ prescan (BeforeName (noted tag name (cond (not (w || g)) (b ∷ front is_unquoted bytes) []))) (cond (not (w || g)) (following is_unquoted bytes) (b ∷ bytes))
unquoted_at tag name true q g b bytes space quote = absurd (true≢false space)
unquoted_at tag name false true g b bytes space quote = absurd (true≢false quote)
unquoted_at tag name false false true b bytes space quote = refl
unquoted_at tag name false false false b bytes space quote = unquoted_run tag name (b ∷ []) bytes

pub read_unquoted : (tag : Meta) (name bytes inside value rest : List ℕ) (first : ℕ) → Stopped is_ascii_whitespace bytes → bytes ≡ first ∷ inside → is_quote first ≡ false →
    value ≡ front is_unquoted bytes → rest ≡ following is_unquoted bytes → prescan (BeforeValue tag name) bytes ≡ prescan (BeforeName (noted tag name value)) rest
read_unquoted tag name bytes inside value rest first space is quote front_is rest_is =
    let stop : is_ascii_whitespace first ≡ false = subst (Stopped is_ascii_whitespace) is space in
    ap (prescan (BeforeValue tag name)) is
    ∙ unquoted_at tag name (is_ascii_whitespace first) (is_quote first) (first == 62) first inside stop quote
    ∙ (λ i. prescan (BeforeName (noted tag name (front is_unquoted (sym is i)))) (following is_unquoted (sym is i)))
    ∙ sym (λ i. prescan (BeforeName (noted tag name (front_is i))) (rest_is i))

quoted_at : (tag : Meta) (name : List ℕ) (first : ℕ) (inside : List ℕ) → is_ascii_whitespace first ≡ false → is_quote first ≡ true → prescan (BeforeValue tag name) (first ∷ inside) ≡ prescan (Quoted first tag name []) inside
quoted_at tag name first inside space quote =
    ap (on inside) (cond-false (is_ascii_whitespace first) _ _ space ∙ cond-true (is_quote first) _ _ quote)

quoted_run : (tag : Meta) (name : List ℕ) (quote : ℕ) (bytes : List ℕ) → prescan (Quoted quote tag name []) bytes ≡ prescan (Quoted quote tag name (front (λ b. not (b == quote)) bytes)) (following (λ b. not (b == quote)) bytes)
quoted_run tag name quote = collects_run (λ value. prescan (Quoted quote tag name value)) (λ b. not (b == quote)) (λ value b bytes is. ap (λ s. prescan s bytes) (fails (b == quote) _ _ is)) []

pub read_open : (tag : Meta) (name bytes inside : List ℕ) (first : ℕ) → Stopped is_ascii_whitespace bytes → bytes ≡ first ∷ inside → is_quote first ≡ true →
    following (λ b. not (b == first)) inside ≡ [] → prescan (BeforeValue tag name) bytes ≡ None
read_open tag name bytes inside first space is quote none =
    ap (prescan (BeforeValue tag name)) is ∙ quoted_at tag name first inside (subst (Stopped is_ascii_whitespace) is space) quote
    ∙ quoted_run tag name first inside ∙ ap (prescan (Quoted first tag name (front (λ b. not (b == first)) inside))) none

pub read_quoted : (tag : Meta) (name bytes inside value rest : List ℕ) (first : ℕ) → Stopped is_ascii_whitespace bytes → bytes ≡ first ∷ inside → is_quote first ≡ true →
    value ≡ front (λ b. not (b == first)) inside → first ∷ rest ≡ following (λ b. not (b == first)) inside → prescan (BeforeValue tag name) bytes ≡ prescan (BeforeName (noted tag name value)) rest
read_quoted tag name bytes inside value rest first space is quote front_is here =
    ap (prescan (BeforeValue tag name)) is ∙ quoted_at tag name first inside (subst (Stopped is_ascii_whitespace) is space) quote
    ∙ quoted_run tag name first inside ∙ sym (λ i. prescan (Quoted first tag name (front_is i)) (here i))
    ∙ ap (λ s. prescan s rest) (cond-true (first == first) _ _ (eq-eqb first first refl))

-- ---- names of encodings

pub no_equals : (bytes : List ℕ) → Stopped (λ b. b == 61) bytes → first_is (λ b. b == 61) bytes ≡ false
no_equals [] stop = refl
no_equals (b ∷ bytes) stop = ap (λ s. s || false) stop
