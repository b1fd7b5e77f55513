-- Why a hub declines a command: its own tests, or the engine's.
use Rattle.std.proofs.Common.{◌≡◌, ◌≤◌, ℕ, sym, subst, arith}
use Rattle.reference.specs.Commands.{Command}
use Rattle.reference.specs.declared.fault.Fault.{Fault}
use Rattle.reference.specs.declared.fault.Fault.TheVariants.{Query, BadName, NameTaken, BadColumns, TooMany, UnknownStream, UnknownQuery, BadWidth, ValueRange, InstantRange, Late, Backward, Leap, StreamFull, BadLimit, Broken, UnknownLease, Stranger, TooManyLeases, HistoryFull, OutOfMemory, Foreign}
use Rattle.hub.specs.Calls.{Refused}
use Rattle.hub.specs.Seats.{PlainSeat, reach}
use Rattle.hub.specs.Steps.{Declines, HasRoom, PlainLocked, engine_at, next_number}
use Rattle.hub.specs.Workers.{Barred}

pub barred_declines : (l : PlainLocked) (s : PlainSeat) (c : Command) (f : Fault) → Barred l s f → Declines l s c f
barred_declines l s c (Query x) h = absurd h
barred_declines l s c BadName h = absurd h
barred_declines l s c NameTaken h = absurd h
barred_declines l s c BadColumns h = absurd h
barred_declines l s c TooMany h = absurd h
barred_declines l s c UnknownStream h = absurd h
barred_declines l s c UnknownQuery h = absurd h
barred_declines l s c BadWidth h = absurd h
barred_declines l s c ValueRange h = absurd h
barred_declines l s c InstantRange h = absurd h
barred_declines l s c Late h = absurd h
barred_declines l s c Backward h = absurd h
barred_declines l s c Leap h = absurd h
barred_declines l s c StreamFull h = absurd h
barred_declines l s c BadLimit h = absurd h
barred_declines l s c Broken h = absurd h
barred_declines l s c UnknownLease h = absurd h
barred_declines l s c Stranger h = absurd h
barred_declines l s c TooManyLeases h = absurd h
barred_declines l s c HistoryFull h = h
barred_declines l s c OutOfMemory h = absurd h
barred_declines l s c (Foreign k) h = h

let_in : (l : PlainLocked) (s : PlainSeat) (c : Command) (f : Fault) → HasRoom l → reach s ≤ next_number l → Refused (engine_at l) c f → Declines l s c f
let_in l s c (Query x) room known h = (room, known, h)
let_in l s c BadName room known h = (room, known, h)
let_in l s c NameTaken room known h = (room, known, h)
let_in l s c BadColumns room known h = (room, known, h)
let_in l s c TooMany room known h = (room, known, h)
let_in l s c UnknownStream room known h = (room, known, h)
let_in l s c UnknownQuery room known h = (room, known, h)
let_in l s c BadWidth room known h = (room, known, h)
let_in l s c ValueRange room known h = (room, known, h)
let_in l s c InstantRange room known h = (room, known, h)
let_in l s c Late room known h = (room, known, h)
let_in l s c Backward room known h = (room, known, h)
let_in l s c Leap room known h = (room, known, h)
let_in l s c StreamFull room known h = (room, known, h)
let_in l s c BadLimit room known h = (room, known, h)
let_in l s c Broken room known h = (room, known, h)
let_in l s c UnknownLease room known h = (room, known, h)
let_in l s c Stranger room known h = (room, known, h)
let_in l s c TooManyLeases room known h = (room, known, h)
let_in l s c HistoryFull room known h = absurd h.line
let_in l s c OutOfMemory room known h = (room, known, h)
let_in l s c (Foreign k) room known h = absurd h.line

-- the seat was let in, and the next entry has the number n
pub refused_declines : (l : PlainLocked) (s : PlainSeat) (c : Command) (f : Fault) (n : ℕ) → (n ≡ next_number l) × HasRoom l × (reach s ≤ n) → Refused (engine_at l) c f → Declines l s c f
refused_declines l s c f n h refused = let_in l s c f h.1 (omega (arith, h.0, h.2)) refused

pub short_declines : (l : PlainLocked) (s : PlainSeat) (c : Command) (f : Fault) (n : ℕ) → (n ≡ next_number l) × HasRoom l × (reach s ≤ n) → f ≡ OutOfMemory → Declines l s c f
short_declines l s c f n h wants = subst (λ g. Declines l s c g) (sym wants) (refused_declines l s c OutOfMemory n h (record { line = tt }))
