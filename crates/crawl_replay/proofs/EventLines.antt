-- The event on a line after the first, as the format defines it.
use Rattle.crawl_replay.proofs.Prelude.{common_steps, ◌≡◌, ◌⊎◌, ℕ, Bool, true, List, ◌∷◌, ◌++◌, Option, Some, None, Result, Ok, Err, refl, sym, ap, ◌∙◌, codes, inl, arith, ok_or, option_and_then, if◌then◌else◌, bytes_eq, bytes_eq-Decides, Event, Look, Enter, Admit, Back, EndSeeds, Take, Done, Close, at_space, number_of, address_from, admit_at, admit_parts, admit_with, plain_event, numbered_event, event_from, event_of, IsNumber, IsNumbered, IsAdmit, IsBadAdmission, IsEventLine, ScriptError}
use Rattle.std.specs.Option.{option_map}
use Rattle.crawl_keys.specs.CanonicalText.{canonical}
use Rattle.crawl_keys.specs.declared.error.KeyError.{KeyError}
use Rattle.crawl_replay.specs.declared.script.error.ScriptError.TheVariants.{BadLine, BadUrl}
use Rattle.crawl_replay.proofs.NumberText.{number_is, number_of_is, at_space-joined, at_space-number, joined-at_space}

-- ---- if a line has an event, its bytes are those of the event

-- the value that a number gives
by_number : (build : ℕ → Event) (found : Option ℕ) (event : Event) → option_map build found ≡ Some event → (value : ℕ) × (found ≡ Some value) × (build value ≡ event)
by_number build found event e = grind arith

numbered_line : (workers bits : ℕ) (build : ℕ → Event) (word : List ℕ) → ((value : ℕ) (line : List ℕ) → IsNumbered word bits value line → IsEventLine workers (build value) line) → (first number line : List ℕ) (event : Event) → line ≡ first ++ 32 ∷ number → bytes_eq first word ≡ true → option_map build (number_of bits number) ≡ Some event → IsEventLine workers event line
numbered_line workers bits build word says first number line event split is_word e = grind (arith, common_steps, by_number, bytes_eq-Decides, number_is)

-- the first word that fits, or a later one
by_word : {A : Type 0} (b : Bool) (first second : Option A) (x : A) (P : Type 0) → (b ≡ true → first ≡ Some x → P) → (second ≡ Some x → P) → (if b then first else second) ≡ Some x → P
by_word b first second x P here later e = grind arith

numbered_sound : (workers : ℕ) (first number line : List ℕ) (event : Event) → line ≡ first ++ 32 ∷ number → numbered_event first number ≡ Some event → IsEventLine workers event line
numbered_sound workers first number line event split e =
    by_word (bytes_eq first (codes "look")) _ _ event (IsEventLine workers event line) (numbered_line workers 64 Look (codes "look") (λ v l is. is) first number line event split)
    (by_word (bytes_eq first (codes "enter")) _ _ event (IsEventLine workers event line) (numbered_line workers 64 Enter (codes "enter") (λ v l is. is) first number line event split)
    (by_word (bytes_eq first (codes "back")) _ _ event (IsEventLine workers event line) (numbered_line workers 64 Back (codes "back") (λ v l is. is) first number line event split)
    (by_word (bytes_eq first (codes "take")) _ _ event (IsEventLine workers event line) (numbered_line workers 32 Take (codes "take") (λ v l is. is) first number line event split)
    (by_word (bytes_eq first (codes "done")) _ _ event (IsEventLine workers event line) (numbered_line workers 32 Done (codes "done") (λ v l is. is) first number line event split)
    (λ none. absurd (cc)))))) e

plain_sound : (workers : ℕ) (line : List ℕ) (event : Event) → plain_event line ≡ Some event → IsEventLine workers event line
plain_sound workers line event e = grind (arith, by_word, bytes_eq-Decides)

-- the text of an admission after its first space
parts_by_number : (found : Option ℕ) (address : List ℕ) (q : ℕ × List ℕ) → option_map (λ sender. (sender, address)) found ≡ Some q → (found ≡ Some q.0) × (address ≡ q.1)
parts_by_number found address q e = grind arith

parts_by_space : (rest line : List ℕ) (parts : Option (List ℕ × List ℕ)) (q : ℕ × List ℕ) → at_space rest ≡ parts → line ≡ codes "admit" ++ 32 ∷ rest → option_and_then (λ p. option_map (λ sender. (sender, p.1)) (number_of 64 p.0)) parts ≡ Some q → IsAdmit q.0 q.1 line
parts_by_space rest line None q e split found = absurd (cc)
parts_by_space rest line (Some p) q e split found =
    let both = parts_by_number (number_of 64 p.0) p.1 q found in
    let cut : rest ≡ p.0 ++ 32 ∷ p.1 = joined-at_space rest p e in record {
      number = p.0;
      written = split ∙ ap (λ r. codes "admit" ++ 32 ∷ r) (cut ∙ ap (λ a. p.0 ++ 32 ∷ a) both.1);
      sent = number_is 64 p.0 q.0 both.0;
    }

-- ---- if the bytes are those of an event, the line has it

admit_parts-is : (rest number address : List ℕ) (sender : ℕ) → IsNumber 64 sender number → rest ≡ number ++ 32 ∷ address → admit_parts rest ≡ Some (sender, address)
admit_parts-is rest number address sender sent is = rw (at_space-number rest number address sent.digits is, number_of_is 64 number sender sent) refl

admit_from : (workers number sender : ℕ) (address line : List ℕ) → IsAdmit sender address line → event_of workers number line ≡ admit_at sender (address_from workers number (canonical address))
admit_from workers number sender address line is =
    let split = at_space-joined line (codes "admit") (is.number ++ 32 ∷ address) refl is.written in
    let parts = admit_parts-is (is.number ++ 32 ∷ address) is.number address sender is.sent refl in
    ap (event_from workers number line) split ∙ ap (admit_with workers number) parts

pub event_said : (workers number : ℕ) (event : Event) (line : List ℕ) → IsEventLine workers event line → event_of workers number line ≡ Ok event
event_said workers number (Look sender) line is =
    let split = at_space-joined line (codes "look") is.number refl is.written in
    ap (event_from workers number line) split ∙ ap (λ n. ok_or (option_map Look n) (BadLine number)) (number_of_is 64 is.number sender is.valued)
event_said workers number (Enter sender) line is =
    let split = at_space-joined line (codes "enter") is.number refl is.written in
    ap (event_from workers number line) split ∙ ap (λ n. ok_or (option_map Enter n) (BadLine number)) (number_of_is 64 is.number sender is.valued)
event_said workers number (Back sender) line is =
    let split = at_space-joined line (codes "back") is.number refl is.written in
    ap (event_from workers number line) split ∙ ap (λ n. ok_or (option_map Back n) (BadLine number)) (number_of_is 64 is.number sender is.valued)
event_said workers number (Take queue) line is =
    let split = at_space-joined line (codes "take") is.number refl is.written in
    ap (event_from workers number line) split ∙ ap (λ n. ok_or (option_map Take n) (BadLine number)) (number_of_is 32 is.number queue is.valued)
event_said workers number (Done queue) line is =
    let split = at_space-joined line (codes "done") is.number refl is.written in
    ap (event_from workers number line) split ∙ ap (λ n. ok_or (option_map Done n) (BadLine number)) (number_of_is 32 is.number queue is.valued)
event_said workers number EndSeeds line is = ap (event_of workers number) is
event_said workers number Close line is = ap (event_of workers number) is
event_said workers number (Admit sender url queue) line is =
    admit_from workers number sender is.address line is.admits
    ∙ ap (λ r. admit_at sender (address_from workers number r)) is.named
    ∙ ap (λ q. Ok (Admit sender url q)) (sym is.placed)

pub bad_url_said : (workers number : ℕ) (line : List ℕ) → IsBadAdmission line → event_of workers number line ≡ Err (BadUrl number)
bad_url_said workers number line is =
    admit_from workers number is.sender is.address line is.admits ∙ ap (λ r. admit_at is.sender (address_from workers number r)) is.refused

-- ---- both directions together

-- the bytes of the line are those of its event
abbrev pub Holds : ℕ → ℕ → List ℕ → Result Event ScriptError → Type 0
Holds workers number line (Ok event) = IsEventLine workers event line
Holds workers number line (Err error) = (error ≡ BadLine number) ⊎ ((error ≡ BadUrl number) × IsBadAdmission line)

plain_holds : (workers number : ℕ) (line : List ℕ) (found : Option Event) → ((event : Event) → found ≡ Some event → IsEventLine workers event line) → Holds workers number line (ok_or found (BadLine number))
plain_holds workers number line found sound = grind arith

address_holds : (workers number sender : ℕ) (address line : List ℕ) (read : Result (List ℕ) KeyError) → IsAdmit sender address line → canonical address ≡ read → Holds workers number line (admit_at sender (address_from workers number read))
address_holds workers number sender address line read admits h2 = grind arith

admit_holds : (workers number : ℕ) (rest line : List ℕ) (parts : Option (ℕ × List ℕ)) → ((q : ℕ × List ℕ) → parts ≡ Some q → IsAdmit q.0 q.1 line) → Holds workers number line (admit_with workers number parts)
admit_holds workers number rest line None sound = inl refl
admit_holds workers number rest line (Some q) sound = address_holds workers number q.0 q.1 line (canonical q.1) (sound q refl) refl

holds_if : (workers number : ℕ) (line : List ℕ) (b : Bool) (first second : Result Event ScriptError) → (b ≡ true → Holds workers number line first) → Holds workers number line second → Holds workers number line (if b then first else second)
holds_if workers number line b first second here later = grind arith

holds_from : (workers number : ℕ) (line : List ℕ) (parts : Option (List ℕ × List ℕ)) → at_space line ≡ parts → Holds workers number line (event_from workers number line parts)
holds_from workers number line None split = plain_holds workers number line (plain_event line) (plain_sound workers line)
holds_from workers number line (Some p) split =
    let cut : line ≡ p.0 ++ 32 ∷ p.1 = joined-at_space line p split in
    holds_if workers number line (bytes_eq p.0 (codes "admit")) _ _
    (λ is. let same : p.0 ≡ codes "admit" = (bytes_eq-Decides p.0 (codes "admit")).0 is in
    let following : line ≡ codes "admit" ++ 32 ∷ p.1 = cut ∙ ap (λ w. w ++ 32 ∷ p.1) same in
    admit_holds workers number p.1 line (admit_parts p.1) (λ q found. parts_by_space p.1 line (at_space p.1) q refl following found))
    (plain_holds workers number line (numbered_event p.0 p.1) (λ event found. numbered_sound workers p.0 p.1 line event cut found))

pub holds : (workers number : ℕ) (line : List ℕ) → Holds workers number line (event_of workers number line)
holds workers number line = holds_from workers number line (at_space line) refl
