-- From what the machine does to what a session does.
use Rattle.crawl_session.proofs.Prelude.{◌≡◌, ℕ, List, Result, OnErr, ap, ◌∙◌, arith, Kept, Deferrals, KeptFrontier, GivesUp}
use Rattle.crawl_session.specs.Steps as steps
use Rattle.crawl_session.proofs.Steps as machine_steps

abbrev pub keeping : Kept → List Deferrals → ℕ → List ℕ → KeptFrontier
keeping kept deferrals senders seen = record { machine = kept; deferrals = deferrals; senders = senders; seen = seen }

pub gives_up_lifts : {X E : Type 0} (old new : Kept) (deferrals : List Deferrals) (senders : ℕ) (seen : List ℕ) (result : Result X E) → OnErr result (steps.GivesUp old new) → OnErr result (GivesUp (keeping old deferrals senders seen) (keeping new deferrals senders seen))
gives_up_lifts old new deferrals senders seen result gives = grind arith

pub same_lifts : {X E : Type 0} (old new : Kept) (deferrals : List Deferrals) (senders : ℕ) (seen : List ℕ) (result : Result X E) → OnErr result (new ≡ old) → OnErr result (keeping new deferrals senders seen ≡ keeping old deferrals senders seen)
same_lifts old new deferrals senders seen result same = grind arith

-- nothing happened
pub given_up_immediately : (old new : KeptFrontier) → new ≡ old → GivesUp old new
given_up_immediately old new same state shows = record {
  machine = machine_steps.gives_up_immediately old.machine new.machine (ap (λ (k : KeptFrontier). k.machine) same) state.machine shows.machine;
  deferrals = ap (λ (k : KeptFrontier). k.deferrals) same ∙ shows.deferrals;
  senders = ap (λ (k : KeptFrontier). k.senders) same ∙ shows.senders;
  seen = ap (λ (k : KeptFrontier). k.seen) same ∙ shows.seen;
}
