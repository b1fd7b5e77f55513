-- What tries and waits for a turn answer.
use Rattle.turn.specs.declared.turns.Turn.{Turn}
use Rattle.hub.specs.declared.hub.LeaseRest.{LeaseRest}
use Rattle.hub.specs.declared.hub.LeaseRest.TheVariants as lease_rest
use Rattle.hub.specs.declared.hub.LeaseWait.{LeaseWait}
use Rattle.hub.specs.declared.hub.LeaseWait.TheVariants as lease_wait
use Rattle.hub.specs.declared.locked.Rested.{Rested}
use Rattle.hub.specs.declared.locked.Rested.TheVariants as rested
use Rattle.hub.specs.declared.locked.Waited.{Waited}
use Rattle.hub.specs.declared.locked.Waited.TheVariants as waited

-- a turn, nothing ready, or the end
abbrev pub MatchWaited : Waited → (Turn → Type 0) → Type 0 → Type 0 → Type 0
MatchWaited (waited.Turn t) P Q R = P t
MatchWaited waited.Idle P Q R = Q
MatchWaited waited.Ended P Q R = R

-- a turn, nothing ready but some out, or nothing at all
abbrev pub MatchRested : Rested → (Turn → Type 0) → Type 0 → Type 0 → Type 0
MatchRested (rested.Turn t) P Q R = P t
MatchRested rested.Idle P Q R = Q
MatchRested rested.Rest P Q R = R

abbrev pub MatchLeaseWait : LeaseWait → (Turn → Type 0) → Type 0 → Type 0
MatchLeaseWait (lease_wait.Turn t) P Q = P t
MatchLeaseWait lease_wait.Ended P Q = Q

abbrev pub MatchLeaseRest : LeaseRest → (Turn → Type 0) → Type 0 → Type 0
MatchLeaseRest (lease_rest.Turn t) P Q = P t
MatchLeaseRest lease_rest.Rest P Q = Q
