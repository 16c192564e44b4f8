-- The end of what begins with `<![` in foreign content, from the bytes after that: a CDATA section, as the HTML Standard's
-- tokenizer reads it in its states from CDATA section to CDATA section end, or a bogus comment. `Name k` is the state after k bytes
-- of `CDATA[`.
use Rattle.std.specs.Prelude.{ℕ, ◌+◌, ◌==◌, nat_lt, if◌then◌else◌, List, [], ◌∷◌, Option, None, Some}
use Rattle.html_links.specs.declared.cdata.State.{State}
use Rattle.html_links.specs.declared.cdata.State.TheVariants.{Name, Section, Bracket, End, Bogus}
use Rattle.html_links.specs.declared.cdata.Next.{Next}
use Rattle.html_links.specs.declared.cdata.Next.TheVariants.{Go, Ends}

-- the bytes of `CDATA[`, one by one
abbrev pub letter : ℕ → ℕ
letter count =
    if count == 0 then 67
    else if count == 1 then 68
    else if count == 2 then 65
    else if count == 3 then 84
    else if count == 4 then 65
    else 91

abbrev pub bogus_step : ℕ → Next
bogus_step c = if c == 62 then Ends else Go Bogus

abbrev pub name_after : ℕ → State
name_after count = if nat_lt count 5 then Name (count + 1) else Section

abbrev pub step : State → ℕ → Next
step (Name count) c = if c == letter count then Go (name_after count) else bogus_step c
step Bogus c = bogus_step c
step Section c = if c == 93 then Go Bracket else Go Section
step Bracket c = if c == 93 then Go End else Go Section
step End c =
    if c == 62 then Ends
    else if c == 93 then Go End
    else Go Section

abbrev pub follow : Next → (State → Option (List ℕ)) → List ℕ → Option (List ℕ)
follow (Go state) on rest = on state
follow Ends on rest = Some rest

-- the bytes after the section or comment, if it ends
abbrev pub run : State → List ℕ → Option (List ℕ)
run state [] = None
run state (c ∷ rest) = follow (step state c) (λ state. run state rest) rest
