-- The result of a call that may run out of memory: the value or the error that is defined for its arguments, or out of memory.
use Rattle.std.specs.Prelude.{◌≡◌, ◌⊎◌, Result, Ok, Err}

-- the error is the one that is defined, or out of memory
abbrev pub IsRefusal : {A E : Type 0} → E → Result A E → E → Type 0
IsRefusal no_memory defined refusal = (defined ≡ Err refusal) ⊎ (refusal ≡ no_memory)

-- the value represents the one that is defined, or the error is the one that is defined, or out of memory
abbrev pub Gives : {X A E : Type 0} → E → (X → A) → Result X E → Result A E → Type 0
Gives no_memory view (Ok x) defined = defined ≡ Ok (view x)
Gives no_memory view (Err refusal) defined = IsRefusal no_memory defined refusal
