-- The machine of character references over runs of bytes.
use Rattle.html_links.proofs.Prelude.{common_steps, ◌≡◌, ℕ, ◌==◌, Bool, true, false, cond, List, [], ◌∷◌, ◌++◌, refl, ap, sym, ◌∙◌, append_assoc, append-nil, arith, cond-true, cond-false, is_ascii_alphanumeric, encode_utf8, front, following, Stopped, is_plain}
use Rattle.html_links.specs.References.{Text, Reference, Name, Next, Go, text_step, name_text, name_end, step, follow, read}
use Rattle.html_links.proofs.Sources.{front_all}

abbrev on : List ℕ → Next → List ℕ
on rest next = follow next (λ s. read s rest)

-- bytes of the text, before a byte that is read as text

abbrev text_if : Bool → Bool → List ℕ → ℕ → Next
text_if amp nul before c = cond amp (Go before Reference) (cond nul (Go (before ++ encode_utf8 65533) Text) (Go (before ++ c ∷ []) Text))

after_if : (amp nul : Bool) (before : List ℕ) (c : ℕ) (rest : List ℕ) → on rest (text_if amp nul before c) ≡ before ++ on rest (text_if amp nul [] c)
after_if amp nul before c rest = grind (arith, common_steps)

pub text_after : (before : List ℕ) (c : ℕ) (rest : List ℕ) → on rest (text_step before c) ≡ before ++ read Text (c ∷ rest)
text_after before c rest = after_if (c == 38) (c == 0) before c rest

-- runs of plain bytes

pub to_mark : (bytes : List ℕ) → read Text bytes ≡ front is_plain bytes ++ read Text (following is_plain bytes)
to_mark [] = refl
to_mark (c ∷ rest) = grind (arith, to_mark rest)

pub unescaped_text : (value : List ℕ) → following is_plain value ≡ [] → read Text value ≡ value
unescaped_text value none = to_mark value ∙ ap (λ more. front is_plain value ++ read Text more) none ∙ append-nil (front is_plain value) ∙ front_all is_plain value none

text_cut : (rest plain marked : List ℕ) → plain ≡ front is_plain rest → marked ≡ following is_plain rest → read Text rest ≡ plain ++ read Text marked
text_cut rest plain marked some more = to_mark rest ∙ ap (λ p. p ++ read Text (following is_plain rest)) (sym some) ∙ ap (λ m. plain ++ read Text m) (sym more)

-- the text that was written, and the text of the bytes that remain

pub decoded_all : (old new rest plain marked all : List ℕ) → plain ≡ front is_plain rest → marked ≡ following is_plain rest → new ≡ old ++ plain → marked ≡ [] →
    old ++ read Text rest ≡ all → new ≡ all
decoded_all old new rest plain marked all some more written none so_far = grind (arith, append-nil, text_cut)

pub decoded_more : (old new last rest plain marked text more all : List ℕ) → plain ≡ front is_plain rest → marked ≡ following is_plain rest → new ≡ old ++ plain →
    read Text marked ≡ text ++ read Text more → last ≡ new ++ text → old ++ read Text rest ≡ all → last ++ read Text more ≡ all
decoded_more old new last rest plain marked text more all some left written reads wrote so_far = grind (arith, common_steps, text_cut)

-- names

name_at : (b : Bool) (name : List ℕ) (c : ℕ) (rest some more : List ℕ) → (b ≡ true → step (Name name) c ≡ Go [] (Name (name ++ c ∷ []))) →
    read (Name (name ++ c ∷ [])) rest ≡ read (Name ((name ++ c ∷ []) ++ some)) more →
    read (Name name) (c ∷ rest) ≡ read (Name (name ++ cond b (c ∷ some) [])) (cond b more (c ∷ rest))
name_at true name c rest some more stays later = ap (on rest) (stays refl) ∙ later ∙ ap (λ n. read (Name n) more) (append_assoc name (c ∷ []) some)
name_at false name c rest some more stays later = ap (λ n. read (Name n) (c ∷ rest)) (sym (append-nil name))

pub name_run : (name bytes : List ℕ) → read (Name name) bytes ≡ read (Name (name ++ front is_ascii_alphanumeric bytes)) (following is_ascii_alphanumeric bytes)
name_run name [] = ap (λ n. read (Name n) []) (sym (append-nil name))
name_run name (c ∷ rest) =
    name_at (is_ascii_alphanumeric c) name c rest (front is_ascii_alphanumeric rest) (following is_ascii_alphanumeric rest)
    (cond-true (is_ascii_alphanumeric c) (Go [] (Name (name ++ c ∷ []))) (name_end name c)) (name_run (name ++ c ∷ []) rest)

-- and a reference before anything else
pub open_name : (name rest : List ℕ) → Stopped is_ascii_alphanumeric rest → Stopped (λ c. c == 59) rest → Stopped (λ c. c == 61) rest →
    read (Name name) rest ≡ name_text name ++ read Text rest
open_name name rest letter semicolon equals = grind (arith, common_steps, append-nil, cond-false, text_after)
