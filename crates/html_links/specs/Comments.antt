-- Comments, from the bytes after `<!--`, as the HTML Standard's tokenizer reads them in its states from comment start to comment
-- end bang. Each state is a constructor, and each transition an equation of `step`.
use Rattle.std.specs.Prelude.{ℕ, ◌==◌, if◌then◌else◌, List, [], ◌∷◌, Option, None, Some}
use Rattle.std.specs.Borrow.{Bor}

-- the classes of bytes: `-`, `>`, `!`, `<`, and all others
pub data Mark : Type 0 where
  Dash : Mark
  Greater : Mark
  Bang : Mark
  Less : Mark
  Plain : Mark

abbrev pub mark_of : ℕ → Mark
mark_of c =
    if c == 45 then Dash
    else if c == 62 then Greater
    else if c == 33 then Bang
    else if c == 60 then Less
    else Plain

pub data State : Type 0 where
  Start : State
  StartDash : State
  Comment : State
  LessThan : State
  LessThanBang : State
  LessThanBangDash : State
  LessThanBangDashDash : State
  EndDash : State
  End : State
  EndBang : State

-- go to a state, or emit the comment
pub data Next : Type 0 where
  Go : State → Next
  Emit : Next

abbrev pub step : State → Mark → Next
step Start Dash = Go StartDash
step Start Greater = Emit
step Start Less = Go LessThan
step Start _ = Go Comment
step StartDash Dash = Go End
step StartDash Greater = Emit
step StartDash Less = Go LessThan
step StartDash _ = Go Comment
step Comment Less = Go LessThan
step Comment Dash = Go EndDash
step Comment _ = Go Comment
step LessThan Bang = Go LessThanBang
step LessThan Less = Go LessThan
step LessThan Dash = Go EndDash
step LessThan _ = Go Comment
step LessThanBang Dash = Go LessThanBangDash
step LessThanBang Less = Go LessThan
step LessThanBang _ = Go Comment
step LessThanBangDash Dash = Go LessThanBangDashDash
step LessThanBangDash Less = Go LessThan
step LessThanBangDash _ = Go Comment
step LessThanBangDashDash Greater = Emit
step LessThanBangDashDash Bang = Go EndBang
step LessThanBangDashDash Dash = Go End
step LessThanBangDashDash Less = Go LessThan
step LessThanBangDashDash Plain = Go Comment
step EndDash Dash = Go End
step EndDash Less = Go LessThan
step EndDash _ = Go Comment
step End Greater = Emit
step End Bang = Go EndBang
step End Dash = Go End
step End Less = Go LessThan
step End Plain = Go Comment
step EndBang Dash = Go EndDash
step EndBang Greater = Emit
step EndBang Less = Go LessThan
step EndBang _ = Go Comment

abbrev pub follow : Next → (State → Option (List ℕ)) → List ℕ → Option (List ℕ)
follow (Go state) on rest = on state
follow Emit on rest = Some rest

-- the bytes after the comment, if it ends
abbrev pub run : State → List ℕ → Option (List ℕ)
run state [] = None
run state (c ∷ rest) = follow (step state (mark_of c)) (λ state. run state rest) rest

abbrev pub comment_rest : List ℕ → Option (List ℕ)
comment_rest bytes = run Start bytes

abbrev pub bytes_at : Option (Bor (List ℕ)) → Option (List ℕ)
bytes_at None = None
bytes_at (Some x) = Some x.now
