-- What holds of both choices holds of the one that is made.
use Rattle.std.proofs.Common.{Bool, if◌then◌else◌, arith}

pub either_way : {T : Type 0} (P : T → Type 0) (b : Bool) (x y : T) → P x → P y → P (if b then x else y)
either_way P b x y first second = grind arith
