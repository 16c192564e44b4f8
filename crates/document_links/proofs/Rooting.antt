-- A path of a rooted link, one segment at a time.
use Rattle.document_links.proofs.Prelude.{◌≡◌, ◌∙◌, ℕ, ◌+◌, ◌-◌, ◌<◌, ◌≤◌, ◌==◌, true, false, cond, List, [], ◌∷◌, ◌++◌, take, drop, prefix_len, refl, sym, ap, subst, arith, length, length-drop, cond-true, cond-false, true≢false, StopsAt, StopsAt-drop-prefix_len, begins_path, below_after, depth_after, in_segment, is_slash, kept}
use Rattle.std.proofs.Common.{append-nil, append_assoc, one-add}
use Rattle.std.proofs.lemmas.Bool.{cond_both}
use Rattle.url.specs.Path.{dot_count}
use Rattle.std.proofs.lemmas.Bool.Decides.{nat_tests}
use Rattle.document_links.specs.Rooted.{ends_path}

-- a byte of a segment ends neither the segment nor the path
inner_step : (depth : ℕ) (segment : List ℕ) (b : ℕ) (bytes : List ℕ) → in_segment b ≡ true → below_after depth segment (b ∷ bytes) ≡ below_after depth (segment ++ b ∷ []) bytes
inner_step depth segment b bytes inner =
    let path : ends_path b ≡ false = grind (arith, nat_tests) in
    let slash : is_slash b ≡ false = grind (arith, nat_tests) in
    cond-false (ends_path b) _ _ path ∙ cond-false (is_slash b) _ _ slash

-- a run of bytes of a segment is read as one
pub below_cut : (depth : ℕ) (segment path : List ℕ) → below_after depth segment path ≡ below_after depth (segment ++ take (prefix_len in_segment path) path) (drop (prefix_len in_segment path) path)
below_cut depth segment [] = ap (λ s. below_after depth s []) (sym (append-nil segment))
below_cut depth segment (b ∷ bytes) =
    elim (in_segment b) as (λ v. in_segment b ≡ v → below_after depth segment (b ∷ bytes) ≡ below_after depth (segment ++ take (cond v (1 + prefix_len in_segment bytes) 0) (b ∷ bytes)) (drop (cond v (1 + prefix_len in_segment bytes) 0) (b ∷ bytes))) [
      | true ↦ λ inner. rw one-add (inner_step depth segment b bytes inner ∙ below_cut depth (segment ++ b ∷ []) bytes ∙ ap (λ s. below_after depth s (drop (prefix_len in_segment bytes) bytes)) (append_assoc segment (b ∷ []) (take (prefix_len in_segment bytes) bytes)))
      | false ↦ λ outer. ap (λ s. below_after depth s (b ∷ bytes)) (sym (append-nil segment))
    ] refl

-- a slash ends a segment
slash_step : (depth : ℕ) (segment : List ℕ) (b : ℕ) (bytes : List ℕ) → is_slash b ≡ true → below_after depth segment (b ∷ bytes) ≡ kept depth segment (b ∷ []) ++ below_after (depth_after depth segment) [] bytes
slash_step depth segment b bytes slash =
    let path : ends_path b ≡ false = grind (arith, nat_tests) in
    cond-false (ends_path b) _ _ path ∙ cond-true (is_slash b) _ _ slash

-- and any other byte that is not part of a segment ends the path
end_step : (depth : ℕ) (segment following : List ℕ) → StopsAt in_segment following → begins_path following ≡ false → below_after depth segment following ≡ kept depth segment [] ++ following
end_step depth segment [] stops none = sym (append-nil (kept depth segment []))
end_step depth segment (b ∷ bytes) stops none =
    let path : ends_path b ≡ true = grind (arith, nat_tests) in
    cond-true (ends_path b) _ _ path

pub below_slash : (depth : ℕ) (rest more : List ℕ) (slash : ℕ) → drop (prefix_len in_segment rest) rest ≡ slash ∷ more → is_slash slash ≡ true → below_after depth [] rest ≡ kept depth (take (prefix_len in_segment rest) rest) (slash ∷ []) ++ below_after (depth_after depth (take (prefix_len in_segment rest) rest)) [] more
below_slash depth rest more slash is here =
    below_cut depth [] rest ∙ ap (below_after depth (take (prefix_len in_segment rest) rest)) is ∙ slash_step depth (take (prefix_len in_segment rest) rest) slash more here

pub below_end : (depth : ℕ) (rest : List ℕ) → begins_path (drop (prefix_len in_segment rest) rest) ≡ false → below_after depth [] rest ≡ kept depth (take (prefix_len in_segment rest) rest) [] ++ drop (prefix_len in_segment rest) rest
below_end depth rest none =
    below_cut depth [] rest ∙ end_step depth (take (prefix_len in_segment rest) rest) (drop (prefix_len in_segment rest) rest) (StopsAt-drop-prefix_len in_segment rest) none

-- a text that begins with a slash is the slash and the rest
pub at_slash : (following : List ℕ) → begins_path following ≡ true → (slash : ℕ) × (more : List ℕ) × (following ≡ slash ∷ more) × (is_slash slash ≡ true)
at_slash [] begins = absurd (true≢false (sym begins))
at_slash (b ∷ bytes) begins = (b, bytes, refl, begins)

-- ---- in the loop over the segments

-- the text so far, after the last segment and the text after it are appended
pub ended : (depth : ℕ) (rest segment following old : List ℕ) → segment ≡ take (prefix_len in_segment rest) rest → following ≡ drop (prefix_len in_segment rest) rest → begins_path following ≡ false → (old ++ kept depth segment []) ++ following ≡ old ++ below_after depth [] rest
ended depth rest segment following old front back none =
    append_assoc old (kept depth segment []) following
    ∙ ap (λ l. old ++ l) ((λ i. kept depth (front i) [] ++ back i) ∙ sym (below_end depth rest (subst (λ l. begins_path l ≡ false) back none)))

-- and after a segment and its slash are appended
pub stepped : (depth : ℕ) (rest segment following slash more old : List ℕ) → segment ≡ take (prefix_len in_segment rest) rest → following ≡ drop (prefix_len in_segment rest) rest → begins_path following ≡ true → slash ≡ take 1 following → more ≡ drop 1 following → (old ++ kept depth segment slash) ++ below_after (depth_after depth segment) [] more ≡ old ++ below_after depth [] rest
stepped depth rest segment following slash more old front back begins first others =
    let (b, bytes, is, here) = at_slash following begins in
    let one : slash ≡ b ∷ [] = first ∙ ap (take 1) is in
    let left : more ≡ bytes = others ∙ ap (drop 1) is in
    append_assoc old (kept depth segment slash) (below_after (depth_after depth segment) [] more)
    ∙ ap (λ l. old ++ l) ((λ i. kept depth (front i) (one i) ++ below_after (depth_after depth (front i)) [] (left i)) ∙ sym (below_slash depth rest bytes b (sym back ∙ is) here))

pub deeper : (depth : ℕ) (segment : List ℕ) → depth_after depth segment ≤ depth + 1
deeper depth segment =
    cond_both (dot_count segment == 2) (depth - 1) (cond (dot_count segment == 1) depth (depth + 1)) (λ n. n ≤ depth + 1) (λ up. omega arith)
    (λ other. cond_both (dot_count segment == 1) depth (depth + 1) (λ n. n ≤ depth + 1) (λ same. omega arith) (λ more. omega arith))

pub fewer : (rest following more : List ℕ) → following ≡ drop (prefix_len in_segment rest) rest → begins_path following ≡ true → more ≡ drop 1 following → length more < length rest
fewer rest following more back begins others =
    let (b, bytes, is, here) = at_slash following begins in
    let left : more ≡ bytes = others ∙ ap (drop 1) is in
    omega (arith, ap length left, ap length is, ap length back, length-drop (prefix_len in_segment rest) rest)
