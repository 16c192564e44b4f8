-- What a worker lost, by cause.
use Rattle.std.specs.Prelude.{ℕ, ◌+◌, ◌-◌, ◌^◌, min, Option, Some, None}
use Rattle.crawl_frontier.specs.declared.error.OfferError.{OfferError}
use Rattle.crawl_frontier.specs.declared.error.OfferError.TheVariants as refused
use Rattle.link_offers.specs.declared.losses.Loss.{Loss}
use Rattle.link_offers.specs.declared.losses.Loss.TheVariants as loss
use Rattle.link_offers.specs.declared.losses.Losses.{Losses}

abbrev pub no_losses : Losses
no_losses = record { failed = 0; unkept = 0; full = 0; too_far = 0; crossed = 0; no_memory = 0 }

-- one more, up to the greatest u64
abbrev pub one_more : ℕ → ℕ
one_more n = min (n + 1) (2 ^ 64 - 1)

-- the losses with one more of this cause
abbrev pub with_loss : Loss → Losses → Losses
with_loss loss.Failed losses = record losses { failed = one_more losses.failed }
with_loss loss.Unkept losses = record losses { unkept = one_more losses.unkept }
with_loss loss.Full losses = record losses { full = one_more losses.full }
with_loss loss.TooFar losses = record losses { too_far = one_more losses.too_far }
with_loss loss.Crossed losses = record losses { crossed = one_more losses.crossed }
with_loss loss.NoMemory losses = record losses { no_memory = one_more losses.no_memory }

abbrev pub all_losses : Losses → ℕ
all_losses losses = losses.failed + losses.unkept + losses.full + losses.too_far + losses.crossed + losses.no_memory

-- the sum of all counts, up to the greatest u64
abbrev pub sum_of : Losses → ℕ
sum_of losses = min (all_losses losses) (2 ^ 64 - 1)

-- the cause for which a link is lost whose offer failed with this error
abbrev pub loss_of : OfferError → Option Loss
loss_of refused.Filtered = None
loss_of refused.Closed = None
loss_of refused.Full = Some loss.Full
loss_of (refused.Crossed own found) = Some loss.Crossed
loss_of refused.TooFar = Some loss.TooFar
loss_of refused.NoMemory = Some loss.NoMemory

-- the losses with one more, if there is one
abbrev counted_in : Option Loss → Losses → Losses
counted_in None losses = losses
counted_in (Some why) losses = with_loss why losses

-- the losses with an offer that failed with this error. A URL that the filter does not allow is not lost
abbrev pub with_refusal : OfferError → Losses → Losses
with_refusal refusal losses = counted_in (loss_of refusal) losses

-- the sum of both, up to the greatest u64
abbrev pub sum : ℕ → ℕ → ℕ
sum a b = min (a + b) (2 ^ 64 - 1)

abbrev pub both_losses : Losses → Losses → Losses
both_losses a b = record {
  failed = sum a.failed b.failed;
  unkept = sum a.unkept b.unkept;
  full = sum a.full b.full;
  too_far = sum a.too_far b.too_far;
  crossed = sum a.crossed b.crossed;
  no_memory = sum a.no_memory b.no_memory;
}
