-- The comment states: those after `<` behave like those without it, and a run without a dash is one jump.
use Rattle.html_links.proofs.Prelude.{◌≡◌, ℕ, ◌+◌, ◌-◌, ◌<◌, ◌≤◌, ◌==◌, Bool, true, false, not, cond, List, [], ◌∷◌, length, drop, None, Some, refl, ap, sym, ◌∙◌, arith, not-true, following, Stopped}
use Rattle.html_links.specs.Comments.{Dash, mark_of, State, Comment, LessThan, LessThanBang, LessThanBangDash, LessThanBangDashDash, EndDash, End, EndBang, Next, step, follow, run}
use Rattle.html_links.proofs.Jumps.{shorter}

-- how the states after `<` behave
pub record Same (bytes : List ℕ) : Type 0 where
  less : run LessThan bytes ≡ run Comment bytes
  bang : run LessThanBang bytes ≡ run Comment bytes
  dash : run LessThanBangDash bytes ≡ run EndDash bytes
  dashes : run LessThanBangDashDash bytes ≡ run End bytes

pub same : (bytes : List ℕ) → Same bytes
same [] = record { less = refl; bang = refl; dash = refl; dashes = refl }
same (c ∷ rest) = grind (arith, same rest)

-- the mark of a byte determines the byte

no_dash : (c : ℕ) → (c == 45) ≡ false → mark_of c ≡ Dash → ⊥
no_dash c other is = grind arith

jump_at : (b : Bool) (c : ℕ) (rest more : List ℕ) → (b ≡ true → mark_of c ≡ Dash → ⊥) → run Comment rest ≡ run Comment more → run Comment (c ∷ rest) ≡ run Comment (cond b more (c ∷ rest))
jump_at b c rest more dash later = grind (arith, same)

pub to_dash : (bytes : List ℕ) → run Comment bytes ≡ run Comment (following (λ c. not (c == 45)) bytes)
to_dash [] = refl
to_dash (c ∷ rest) = jump_at (not (c == 45)) c rest (following (λ c. not (c == 45)) rest) (λ e. no_dash c (not-true (c == 45) e)) (to_dash rest)

pub read_dash : (bytes dashed : List ℕ) → 45 ∷ dashed ≡ following (λ c. not (c == 45)) bytes → run Comment bytes ≡ run EndDash dashed
read_dash bytes dashed cut = to_dash bytes ∙ ap (run Comment) (sym cut)

pub read_no_dash : (bytes : List ℕ) → following (λ c. not (c == 45)) bytes ≡ [] → run Comment bytes ≡ None
read_no_dash bytes none = to_dash bytes ∙ ap (run Comment) none

pub dash_shorter : (bytes dashed : List ℕ) → 45 ∷ dashed ≡ following (λ c. not (c == 45)) bytes → length dashed < length bytes
dash_shorter bytes dashed cut =
    let e : length (45 ∷ dashed) ≡ length (following (λ c. not (c == 45)) bytes) = ap length cut in
    let le : length (following (λ c. not (c == 45)) bytes) ≤ length bytes = shorter (λ c. not (c == 45)) bytes in
    omega arith

-- further dashes

pub over_dashes : (bytes : List ℕ) → run End bytes ≡ run End (following (λ c. c == 45) bytes)
over_dashes [] = refl
over_dashes (c ∷ rest) = grind (arith, over_dashes rest)

pub no_end : (bytes : List ℕ) → Stopped (λ c. c == 45) bytes → Stopped (λ c. c == 62) bytes → Stopped (λ c. c == 33) bytes → run End bytes ≡ run Comment bytes
no_end bytes dash greater bang = grind arith

pub no_bang_end : (bytes : List ℕ) → Stopped (λ c. c == 62) bytes → run EndBang bytes ≡ run Comment bytes
no_bang_end bytes greater = grind arith

-- the bytes after a dash

pub to_end : (bytes dashed more : List ℕ) → bytes ≡ 45 ∷ dashed → more ≡ following (λ c. c == 45) dashed → run EndDash bytes ≡ run End more
to_end bytes dashed more is skipped = ap (run EndDash) is ∙ over_dashes dashed ∙ ap (run End) (sym skipped)

-- the bytes after a comment are the last of its bytes

comment_less_at : (next : Next) (rest left : List ℕ) → ((s : State) → run s rest ≡ Some left → length left < length rest) →
    follow next (λ s. run s rest) rest ≡ Some left → length left < length rest + 1
comment_less_at next rest left later e = grind (arith, same)

pub comment_less : (s : State) (bytes left : List ℕ) → run s bytes ≡ Some left → length left < length bytes
comment_less s [] left e = absurd (cc)
comment_less s (c ∷ rest) left e =
    let less : length left < length rest + 1 = comment_less_at (step s (mark_of c)) rest left (λ s e. comment_less s rest left e) e in omega arith

comment_end_at : (next : Next) (c : ℕ) (rest left : List ℕ) → ((s : State) → run s rest ≡ Some left → drop (length rest - length left) rest ≡ left) →
    ((s : State) → run s rest ≡ Some left → length left < length rest) → follow next (λ s. run s rest) rest ≡ Some left → drop (length (c ∷ rest) - length left) (c ∷ rest) ≡ left
comment_end_at next c rest left later less e = grind (arith, same)

pub comment_end : (s : State) (bytes left : List ℕ) → run s bytes ≡ Some left → drop (length bytes - length left) bytes ≡ left
comment_end s [] left e = absurd (cc)
comment_end s (c ∷ rest) left e = comment_end_at (step s (mark_of c)) c rest left (λ s e. comment_end s rest left e) (λ s e. comment_less s rest left e) e
