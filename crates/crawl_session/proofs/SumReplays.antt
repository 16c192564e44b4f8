-- A log with checksums requests what the same log without them does.
use Rattle.std.proofs.Common.{◌≡◌, ◌⊎◌, inl, inr, ℕ, suc, ◌+◌, ◌-◌, ◌/◌, ◌^◌, ◌<◌, ◌==◌, Bool, true, false, if◌then◌else◌, List, [], ◌∷◌, ◌++◌, length, take, nat_lt, slice_index, Option, Some, None, Ok, Err, refl, sym, ap, subst, ◌∙◌, arith, append-nil, append_assoc, eqb-true, ne_eqb, length-append}
use Rattle.std.proofs.lemmas.List.Elements.{All-nil, All-cons, All-append, All-head, All-tail}
use Rattle.std.specs.Hash.DefaultHasher.{finish, write}
use Rattle.std.specs.List.{concat, after_first, before_first, position_or_len}
use Rattle.std.specs.Str.{is_utf8}
use Rattle.std.specs.Str.Lines.{lines, strip_carriage_return}
use Rattle.std.specs.declared.hash.DefaultHasher.{DefaultHasher}
use Rattle.crawl_limits.specs.Limits.{line_limit}
use Rattle.text_lines.specs.Fields.{at_space, is_space}
use Rattle.text_lines.specs.declared.lines.LineError.TheVariants.{TooLong, NotText}
use Rattle.crawl_session.specs.Frontiers.{Frontier}
use Rattle.crawl_session.specs.Input.{IsUnfinished}
use Rattle.crawl_session.specs.Parts.{own_request, placed_if}
use Rattle.crawl_session.specs.Requests.{request_from, request_in}
use Rattle.crawl_session.specs.Sessions.{answered, line_exchange, state_after}
use Rattle.crawl_session.specs.Settings.{Settings}
use Rattle.crawl_session.specs.Sums.{digit, kept, kept_byte, sum_after, summed_each, unfinished_after}
use Rattle.crawl_session.specs.declared.part.Part.{Part}
use Rattle.crawl_session.specs.declared.request.RequestError.TheVariants as wrong
use Rattle.crawl_session.proofs.Cuts.{line_before, lines_after, one_line}
use Rattle.crawl_session.proofs.Lines.{state_after-append}
use Rattle.crawl_session.proofs.SumLaws.{Cut, cut, kept-unfinished, kept_end, kept_lf, length-kept, sum_front, sum_front_unfinished, unfinished_more, unfinished_text, whole_more, whole_text}
use Rattle.crawl_session.proofs.SumLines.{IsOther}

-- ---- a line that begins with `#` or a space requests nothing

abbrev mark : Bool → ℕ
mark true = 35
mark false = 32

-- the first word of a text that begins with `#` begins with it
marked_word : (rest : List ℕ) → before_first is_space (35 ∷ rest) ≡ 35 ∷ before_first is_space rest
marked_word rest = let more : position_or_len is_space (35 ∷ rest) ≡ suc (position_or_len is_space rest) = omega arith in ap (λ n. take n (35 ∷ rest)) more

unasked_word : (workers : ℕ) (suffixes : List (List ℕ)) (word rest tail : List ℕ) → request_from workers suffixes (35 ∷ rest) (Some (35 ∷ word, tail)) ≡ Err wrong.BadLine
unasked_word workers suffixes word rest tail = refl

unasked_text : (m : Bool) (workers : ℕ) (suffixes : List (List ℕ)) (rest : List ℕ) → request_from workers suffixes (mark m ∷ rest) (at_space (mark m ∷ rest)) ≡ Err wrong.BadLine
unasked_text true workers suffixes rest = by_space (nat_lt (position_or_len is_space (35 ∷ rest)) (length (35 ∷ rest)))
  where
    by_space : (b : Bool) → request_from workers suffixes (35 ∷ rest) (if b then Some (before_first is_space (35 ∷ rest), after_first is_space (35 ∷ rest)) else None) ≡ Err wrong.BadLine
    by_space true = ap (λ w. request_from workers suffixes (35 ∷ rest) (Some (w, after_first is_space (35 ∷ rest)))) (marked_word rest) ∙ unasked_word workers suffixes (before_first is_space rest) rest (after_first is_space (35 ∷ rest))
    by_space false = refl
unasked_text false workers suffixes rest = by_space (nat_lt (position_or_len is_space (32 ∷ rest)) (length (32 ∷ rest)))
  where
    by_space : (b : Bool) → request_from workers suffixes (32 ∷ rest) (if b then Some (before_first is_space (32 ∷ rest), after_first is_space (32 ∷ rest)) else None) ≡ Err wrong.BadLine
    by_space true = refl
    by_space false = refl

unasked : (m : Bool) (settings : Settings) (state : Frontier) (rest : List ℕ) → (line_exchange settings state (mark m ∷ rest)).state ≡ state
unasked m settings state rest = by_part m settings.part (nat_lt line_limit (length (mark m ∷ rest))) (is_utf8 (mark m ∷ rest)) (unasked_text m settings.workers settings.suffixes rest)
  where
    by_part : (m : Bool) (part : Option Part) (long text : Bool) → request_from settings.workers settings.suffixes (mark m ∷ rest) (at_space (mark m ∷ rest)) ≡ Err wrong.BadLine
        → (answered state (own_request part (mark m ∷ rest) (request_in settings.workers settings.suffixes (if long then Err (TooLong 1) else if text then Ok (mark m ∷ rest) else Err (NotText 1))))).state ≡ state
    by_part m None true text bad = refl
    by_part m None false true bad = ap (λ r. (answered state r).state) bad
    by_part m None false false bad = refl
    by_part true (Some part) true text bad = refl
    by_part true (Some part) false true bad = ap (λ r. (answered state (placed_if part r)).state) bad
    by_part true (Some part) false false bad = refl
    by_part false (Some part) true text bad = refl
    by_part false (Some part) false true bad = ap (λ r. (answered state (placed_if part r)).state) bad
    by_part false (Some part) false false bad = refl

-- a line that is longer than its mark keeps it without its CR
stripped : (m : Bool) (rest : List ℕ) → (more : List ℕ) × (strip_carriage_return (mark m ∷ rest) ≡ mark m ∷ more)
stripped true [] = ([], refl)
stripped false [] = ([], refl)
stripped m (byte ∷ rest) = by_cr (slice_index (mark m ∷ byte ∷ rest) (length (mark m ∷ byte ∷ rest) - 1) == 13)
  where
    by_cr : (b : Bool) → (more : List ℕ) × ((if b then take (length (mark m ∷ byte ∷ rest) - 1) (mark m ∷ byte ∷ rest) else mark m ∷ byte ∷ rest) ≡ mark m ∷ more)
    by_cr true = let shorter : length (mark m ∷ byte ∷ rest) - 1 ≡ suc (length rest) = omega arith in (take (length rest) (byte ∷ rest), ap (λ n. take n (mark m ∷ byte ∷ rest)) shorter)
    by_cr false = (byte ∷ rest, refl)

unasked_line : (m : Bool) (settings : Settings) (state : Frontier) (rest : List ℕ) → (line_exchange settings state (strip_carriage_return (mark m ∷ rest))).state ≡ state
unasked_line m settings state rest = let short = stripped m rest in ap (λ l. (line_exchange settings state l).state) short.1 ∙ unasked m settings state short.0

-- ---- two beginnings of a line: the same, or with a space for `#`

record Marked (line other : List ℕ) : Type 0 where
  rest : List ℕ
  spaced : line ≡ 32 ∷ rest
  marked : other ≡ 35 ∷ rest

abbrev Alike : List ℕ → List ℕ → Type 0
Alike line other = (line ≡ other) ⊎ Marked line other

same_state : (settings : Settings) (state : Frontier) (line other : List ℕ) → Alike line other → (line_exchange settings state (strip_carriage_return line)).state ≡ (line_exchange settings state (strip_carriage_return other)).state
same_state settings state line other (inl same) = ap (λ l. (line_exchange settings state (strip_carriage_return l)).state) same
same_state settings state line other (inr m) =
    ap (λ l. (line_exchange settings state (strip_carriage_return l)).state) m.spaced ∙ unasked_line false settings state m.rest
    ∙ sym (ap (λ l. (line_exchange settings state (strip_carriage_return l)).state) m.marked ∙ unasked_line true settings state m.rest)

kept_later : (bytes : List ℕ) → IsUnfinished bytes → kept false bytes ≡ bytes
kept_later [] is = refl
kept_later (byte ∷ more) is = ap (λ b. byte ∷ kept b more) (All-head IsOther byte more is) ∙ ap (λ l. byte ∷ l) (kept_later more (All-tail IsOther byte more is))

begins_alike : (bytes : List ℕ) → IsUnfinished bytes → Alike (kept true bytes) bytes
begins_alike [] is = inl refl
begins_alike (byte ∷ more) is = by_mark (byte == 35) refl
  where
    later : kept (byte == 10) more ≡ more
    later = ap (λ b. kept b more) (All-head IsOther byte more is) ∙ kept_later more (All-tail IsOther byte more is)

    by_mark : (b : Bool) → (byte == 35) ≡ b → Alike ((if b then 32 else byte) ∷ kept (byte == 10) more) (byte ∷ more)
    by_mark true at = inr (record { rest = more; spaced = ap (λ l. 32 ∷ l) later; marked = ap (λ b. b ∷ more) (eqb-true byte 35 at) })
    by_mark false at = inl (ap (λ l. byte ∷ l) later)

continues_alike : (line other bytes : List ℕ) → IsUnfinished bytes → Alike line other → Alike (line ++ kept (length line == 0) bytes) (other ++ bytes)
continues_alike [] other bytes is (inl same) = subst (λ o. Alike (kept true bytes) (o ++ bytes)) same (begins_alike bytes is)
continues_alike [] other bytes is (inr m) = absurd (omega (arith, ap (λ l. length l) m.spaced))
continues_alike (byte ∷ line) other bytes is alike = by_case alike
  where
    later : (byte ∷ line) ++ kept (length (byte ∷ line) == 0) bytes ≡ (byte ∷ line) ++ bytes
    later = ap (λ b. (byte ∷ line) ++ kept b bytes) (ne_eqb (length (byte ∷ line)) 0 (λ e. absurd (omega (arith, e)))) ∙ ap (λ l. (byte ∷ line) ++ l) (kept_later bytes is)

    by_case : Alike (byte ∷ line) other → Alike ((byte ∷ line) ++ kept (length (byte ∷ line) == 0) bytes) (other ++ bytes)
    by_case (inl same) = inl (later ∙ ap (λ o. o ++ bytes) same)
    by_case (inr m) = inr (record { rest = m.rest ++ bytes; spaced = later ∙ ap (λ o. o ++ bytes) m.spaced; marked = ap (λ o. o ++ bytes) m.marked })

-- ---- lines that end

module _ (settings : Settings) where
  abbrev after : Frontier → List ℕ → Frontier
  after state bytes = state_after settings state (lines bytes)

  after_line_end : (state : Frontier) (line more : List ℕ) → IsUnfinished line → after state (line ++ 10 ∷ more) ≡ after (line_exchange settings state (strip_carriage_return line)).state more
  after_line_end state line more is = ap (state_after settings state) (line_before line more is)

  ended_alike : (state : Frontier) (line other more others : List ℕ) → IsUnfinished line → IsUnfinished other → Alike line other → ((mid : Frontier) → after mid more ≡ after mid others) → after state (line ++ 10 ∷ more) ≡ after state (other ++ 10 ∷ others)
  ended_alike state line other more others is are alike same =
      after_line_end state line more is ∙ ap (λ mid. after mid more) (same_state settings state line other alike) ∙ same (line_exchange settings state (strip_carriage_return other)).state ∙ sym (after_line_end state other others are)

  whole_alike : (front line other : List ℕ) (state : Frontier) → IsUnfinished line → IsUnfinished other → Alike line other → after state (line ++ kept (length line == 0) (front ++ 10 ∷ [])) ≡ after state (other ++ (front ++ 10 ∷ []))
  whole_alike [] line other state is are alike =
      ap (λ k. after state (line ++ k ∷ [])) (kept_lf (length line == 0)) ∙ ended_alike state line other [] [] is are alike (λ mid. refl)
  whole_alike (byte ∷ front) line other state is are alike = by_byte (byte == 10) refl (whole_alike front)
    where
      start : Bool
      start = length line == 0

      by_byte : (b : Bool) → (byte == 10) ≡ b → ((l o : List ℕ) (s : Frontier) → IsUnfinished l → IsUnfinished o → Alike l o → after s (l ++ kept (length l == 0) (front ++ 10 ∷ [])) ≡ after s (o ++ (front ++ 10 ∷ [])))
          → after state (line ++ kept_byte start byte ∷ kept b (front ++ 10 ∷ [])) ≡ after state (other ++ (byte ∷ (front ++ 10 ∷ [])))
      by_byte true at more =
          let lf : kept_byte start byte ≡ 10 = ap (kept_byte start) (eqb-true byte 10 at) ∙ kept_lf start in
          ap (λ k. after state (line ++ k ∷ kept true (front ++ 10 ∷ []))) lf
          ∙ ended_alike state line other (kept true (front ++ 10 ∷ [])) (front ++ 10 ∷ []) is are alike (λ mid. more [] [] mid (All-nil IsOther) (All-nil IsOther) (inl refl))
          ∙ ap (λ k. after state (other ++ (k ∷ (front ++ 10 ∷ [])))) (sym (eqb-true byte 10 at))
      by_byte false at more =
          let longer = line ++ kept_byte start byte ∷ [] in
          let one = All-cons IsOther byte [] at (All-nil IsOther) in
          let later : (length longer == 0) ≡ false = ne_eqb (length longer) 0 (λ e. absurd (omega (arith, e, length-append line (kept_byte start byte ∷ [])))) in
          ap (after state) (sym (append_assoc line (kept_byte start byte ∷ []) (kept false (front ++ 10 ∷ []))))
          ∙ ap (λ b. after state (longer ++ kept b (front ++ 10 ∷ []))) (sym later)
          ∙ more longer (other ++ byte ∷ []) state (All-append IsOther line (kept_byte start byte ∷ []) is (kept-unfinished start (byte ∷ []) one)) (All-append IsOther other (byte ∷ []) are one) (continues_alike line other (byte ∷ []) one alike)
          ∙ ap (after state) (append_assoc other (byte ∷ []) (front ++ 10 ∷ []))

  -- a checksum line changes nothing
  after_sum : (state : Frontier) (hash : DefaultHasher) (more : List ℕ) → after state (sum_after hash ++ more) ≡ after state more
  after_sum state hash more =
      after_line_end state (sum_front (finish hash)) more (sum_front_unfinished (finish hash)) ∙ ap (λ mid. after mid more) (unasked_line true settings state (digit (finish hash / 2 ^ 28) ∷ digit (finish hash / 2 ^ 24) ∷ digit (finish hash / 2 ^ 20) ∷ digit (finish hash / 2 ^ 16) ∷ digit (finish hash / 2 ^ 12) ∷ digit (finish hash / 2 ^ 8) ∷ digit (finish hash / 2 ^ 4) ∷ digit (finish hash) ∷ []))

  -- ---- appends

  abbrev Replays : List (List ℕ) → Type 0
  Replays pieces = (hash : DefaultHasher) (line other : List ℕ) (state : Frontier) → IsUnfinished line → IsUnfinished other → Alike line other → after state (line ++ summed_each hash (length line) pieces) ≡ after state (other ++ concat pieces)

  none_left : (line other : List ℕ) (state : Frontier) → IsUnfinished line → IsUnfinished other → Alike line other → after state line ≡ after state other
  none_left line other state is are (inl same) = ap (after state) same
  none_left line other state is are (inr m) = only line false m.rest m.spaced is ∙ sym (only other true m.rest m.marked are)
    where
      only : (l : List ℕ) (mk : Bool) (rest : List ℕ) → l ≡ mark mk ∷ rest → IsUnfinished l → after state l ≡ state
      only l mk rest begins unfinished =
          ap (state_after settings state) (one_line l unfinished (subst (λ n. 0 < n) (sym (ap (λ x. length x) begins)) (omega arith))) ∙ ap (λ x. (line_exchange settings state x).state) begins ∙ unasked mk settings state rest

  part_replays : (bytes : List ℕ) (more : List (List ℕ)) → IsUnfinished bytes → Replays more → Replays (bytes ∷ more)
  part_replays bytes more unfinished rest hash line other state is are alike =
      let text = kept (length line == 0) bytes in
      let len : unfinished_after (length line) bytes ≡ length (line ++ text) = unfinished_more (length line) bytes unfinished ∙ ap (λ n. length line + n) (sym (length-kept (length line == 0) bytes)) ∙ sym (length-append line text) in
      ap (λ t. after state (line ++ (t ++ summed_each (write hash t) (unfinished_after (length line) bytes) more))) (unfinished_text hash (length line == 0) bytes unfinished)
      ∙ ap (λ n. after state (line ++ (text ++ summed_each (write hash text) n more))) len
      ∙ ap (after state) (sym (append_assoc line text (summed_each (write hash text) (length (line ++ text)) more)))
      ∙ rest (write hash text) (line ++ text) (other ++ bytes) state (All-append IsOther line text is (kept-unfinished (length line == 0) bytes unfinished)) (All-append IsOther other bytes are unfinished) (continues_alike line other bytes unfinished alike)
      ∙ ap (after state) (append_assoc other bytes (concat more))

  after_whole : (state : Frontier) (front rest : List ℕ) → after state ((front ++ 10 ∷ []) ++ rest) ≡ after (after state (front ++ 10 ∷ [])) rest
  after_whole state front rest = ap (state_after settings state) (lines_after (front ++ 10 ∷ []) rest (inr (front, refl))) ∙ state_after-append settings state (lines (front ++ 10 ∷ [])) (lines rest)

  whole_replays : (front left : List ℕ) (more : List (List ℕ)) → IsUnfinished left → Replays more → Replays ((front ++ 10 ∷ left) ∷ more)
  whole_replays front left more unfinished later hash line other state is are alike =
      let start = length line == 0 in
      let first = kept start (front ++ 10 ∷ []) in
      let sum = sum_after (write hash first) in
      let text = first ++ (sum ++ kept true left) in
      let tail = summed_each (write hash text) (length (kept true left)) more in
      let ends : line ++ first ≡ (line ++ kept start front) ++ 10 ∷ [] = ap (λ l. line ++ l) (kept_end start front) ∙ sym (append_assoc line (kept start front) (10 ∷ [])) in
      let others : other ++ (front ++ 10 ∷ []) ≡ (other ++ front) ++ 10 ∷ [] = sym (append_assoc other front (10 ∷ [])) in
      let mid = after state (other ++ (front ++ 10 ∷ [])) in
      ap (λ t. after state (line ++ (t ++ summed_each (write hash t) (unfinished_after (length line) (front ++ 10 ∷ left)) more))) (whole_text hash start front left unfinished)
      ∙ ap (λ n. after state (line ++ (text ++ summed_each (write hash text) n more))) (whole_more (length line) front left unfinished ∙ sym (length-kept true left))
      ∙ ap (after state) (joined line first sum (kept true left) tail ∙ ap (λ l. l ++ (sum ++ (kept true left ++ tail))) ends)
      ∙ after_whole state (line ++ kept start front) (sum ++ (kept true left ++ tail))
      ∙ ap (λ s. after s (sum ++ (kept true left ++ tail))) (ap (after state) (sym ends) ∙ whole_alike front line other state is are alike)
      ∙ after_sum mid (write hash first) (kept true left ++ tail)
      ∙ later (write hash text) (kept true left) left mid (kept-unfinished true left unfinished) unfinished (begins_alike left unfinished)
      ∙ sym (ap (after state) (apart other front left (concat more) ∙ ap (λ l. l ++ (left ++ concat more)) others) ∙ after_whole state (other ++ front) (left ++ concat more) ∙ ap (λ l. after (after state l) (left ++ concat more)) (sym others))
    where
      joined : (a b d e f : List ℕ) → a ++ ((b ++ (d ++ e)) ++ f) ≡ (a ++ b) ++ (d ++ (e ++ f))
      joined a b d e f = ap (λ l. a ++ l) (append_assoc b (d ++ e) f ∙ ap (λ l. b ++ l) (append_assoc d e f)) ∙ sym (append_assoc a b (d ++ (e ++ f)))

      apart : (a b d e : List ℕ) → a ++ ((b ++ 10 ∷ d) ++ e) ≡ (a ++ (b ++ 10 ∷ [])) ++ (d ++ e)
      apart a b d e = ap (λ l. a ++ l) (append_assoc b (10 ∷ d) e ∙ sym (append_assoc b (10 ∷ []) (d ++ e))) ∙ sym (append_assoc a (b ++ 10 ∷ []) (d ++ e))

  replays : (pieces : List (List ℕ)) → Replays pieces
  replays [] = λ hash line other state is are alike. ap (after state) (append-nil line) ∙ none_left line other state is are alike ∙ ap (after state) (sym (append-nil other))
  replays (bytes ∷ more) = by_cut (cut bytes) (replays more)
    where
      by_cut : IsUnfinished bytes ⊎ Cut bytes → Replays more → Replays (bytes ∷ more)
      by_cut (inl unfinished) rest = part_replays bytes more unfinished rest
      by_cut (inr found) rest = subst (λ b. Replays (b ∷ more)) (sym found.split) (whole_replays found.front found.rest more found.unfinished rest)

-- appends with checksums lead to the state that the same requests without them lead to
pub sums_change_nothing : (settings : Settings) (state : Frontier) (hash : DefaultHasher) (pieces : List (List ℕ)) → state_after settings state (lines (summed_each hash 0 pieces)) ≡ state_after settings state (lines (concat pieces))
sums_change_nothing settings state hash pieces = replays settings pieces hash [] [] state (All-nil IsOther) (All-nil IsOther) (inl refl)
