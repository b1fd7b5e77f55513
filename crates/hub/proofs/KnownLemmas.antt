-- What a caller of the hub knows, from what the method under the lock ensures.
use Rattle.std.proofs.Common.{◌≡◌, ◌∙◌, ℕ, ℤ, Bool, true, false, List, Option, Some, None, Result, Ok, Err, IfOk, IfErr, ap, inl, inr, refl, subst, sym}
use Rattle.std.specs.Prelude.{IsSome, is_some}
use Rattle.reference.specs.Machine.{Machine}
use Rattle.reference.specs.Commands.{Command}
use Rattle.histories.specs.Histories.{Told}
use Rattle.hub.specs.Steps.{Accepted, AcceptedNamed, Declined, DeclinedNamed, ForgetsAfter}
use Rattle.hub.specs.Steps.{ForgetsWhenDue, IsReplayed, PlainLocked, Rests, Settles, Spurned}
use Rattle.hub.specs.Steps.{SpurnedNamed, Took, TookNamed, Withholds, engine_at}
use Rattle.hub.specs.Workers.{HasEnded, Lends, SeesPeek}
use Rattle.hub.specs.Seats.{PlainSeat}
use Rattle.reference.specs.declared.fault.Fault.{Fault}
use Rattle.turn.specs.declared.turns.Turn.{Turn}
use Rattle.hub.specs.Tries.{MatchRested, MatchWaited}
use Rattle.hub.specs.declared.locked.Rested.{Rested}
use Rattle.hub.specs.declared.locked.Rested.TheVariants as rested
use Rattle.hub.specs.declared.locked.Waited.{Waited}
use Rattle.hub.specs.declared.locked.Waited.TheVariants as waited

pub spurned : {A : Type 0} (r : Result A Fault) (old new : PlainLocked) (seat seat' : PlainSeat) (c : Command)
    → IfErr r (λ f. Declined old seat c f new seat') → IfErr r (λ f. Spurned seat c f seat')
spurned (Ok a) old new seat seat' c h = tt
spurned (Err f) old new seat seat' c h = (old, new, h)

pub took : {A : Type 0} (view : A → Told) (P : A → Type 0) (r : Result A Fault) (old new : PlainLocked) (seat seat' : PlainSeat) (c : Command)
    → IfOk r (λ x. P x × Accepted old seat c (view x) new seat') → IfOk r (λ x. P x × Took seat c (view x) seat')
took view P (Ok a) old new seat seat' c h = (h.0, (old, new, h.1))
took view P (Err f) old new seat seat' c h = tt

pub lent : (old new : PlainLocked) (rows : ℕ) (t : Turn) → Lends old rows t new → (old : PlainLocked) × (new : PlainLocked) × Lends old rows t new
lent old new rows t h = (old, new, h)

-- what a try answered
pub turned : (w : Waited) (t : Turn) (F Q R : Type 0) (old new : PlainLocked) (rows : ℕ) → w ≡ waited.Turn t → MatchWaited w (λ x. F × Lends old rows x new) Q R → (old : PlainLocked) × (new : PlainLocked) × Lends old rows t new
turned w t F Q R old new rows is h = let m : F × Lends old rows t new = subst (λ x. MatchWaited x (λ x. F × Lends old rows x new) Q R) is h in (old, new, m.1)

-- before the end was called
pub turned_before : (w : Waited) (t : Turn) (Q R : Type 0) (old new : PlainLocked) (rows : ℕ) → w ≡ waited.Turn t → MatchWaited w (λ x. (old.has_ended ≡ false) × Lends old rows x new) Q R
    → (old : PlainLocked) × (new : PlainLocked) × (old.has_ended ≡ false) × Lends old rows t new
turned_before w t Q R old new rows is h =
    let m : (old.has_ended ≡ false) × Lends old rows t new = subst (λ x. MatchWaited x (λ x. (old.has_ended ≡ false) × Lends old rows x new) Q R) is h in (old, new, m.0, m.1)

pub over : (w : Waited) (P : Turn → Type 0) (Q : Type 0) (old new : PlainLocked) → w ≡ waited.Ended → MatchWaited w P Q (HasEnded old new) → (old : PlainLocked) × (new : PlainLocked) × HasEnded old new
over w P Q old new is h = let m : HasEnded old new = subst (λ x. MatchWaited x P Q (HasEnded old new)) is h in (old, new, m)

pub turned_or : (w : Rested) (t : Turn) (Q R : Type 0) (old new : PlainLocked) (rows : ℕ) → w ≡ rested.Turn t → MatchRested w (λ x. Lends old rows x new) Q R → (old : PlainLocked) × (new : PlainLocked) × Lends old rows t new
turned_or w t Q R old new rows is h = let m : Lends old rows t new = subst (λ x. MatchRested x (λ x. Lends old rows x new) Q R) is h in (old, new, m)

pub rested_by : (w : Rested) (P : Turn → Type 0) (Q : Type 0) (old new : PlainLocked) (rows : ℕ) → w ≡ rested.Rest → MatchRested w P Q (Rests old rows new) → (old : PlainLocked) × (new : PlainLocked) × Rests old rows new
rested_by w P Q old new rows is h = let m : Rests old rows new = subst (λ x. MatchRested x P Q (Rests old rows new)) is h in (old, new, m)

-- a loop that does not end by itself
pub goes_on : {A : Type 0} (o : Option A) → IsSome o → o ≡ None → ⊥
goes_on {A = A} o some none = absurd (let bad : false ≡ true = subst (λ (x : Option A). is_some x ≡ true) none some in cc)

-- why none went out
pub withheld : (f : Fault) (F : Type 0) (old new : PlainLocked) (rows : ℕ) → F × Withholds old rows f new → (old : PlainLocked) × (new : PlainLocked) × Withholds old rows f new
withheld f F old new rows h = (old, new, h.1)

pub withheld_before : (f : Fault) (old new : PlainLocked) (rows : ℕ) → (old.has_ended ≡ false) × Withholds old rows f new → (old : PlainLocked) × (new : PlainLocked) × (old.has_ended ≡ false) × Withholds old rows f new
withheld_before f old new rows h = (old, new, h.0, h.1)

pub withheld_or : (f : Fault) (old new : PlainLocked) (rows : ℕ) → Withholds old rows f new → (old : PlainLocked) × (new : PlainLocked) × Withholds old rows f new
withheld_or f old new rows h = (old, new, h)

-- what a peek showed
pub peeked : (l : PlainLocked) (query : ℕ) (given limit : ℤ) (r : Result (List (ℤ × List (Option ℤ))) Fault) → given ≡ limit → SeesPeek (λ rows. rows) l query given r → (x : PlainLocked) × SeesPeek (λ rows. rows) x query limit r
peeked l query given limit r is h = (l, subst (λ z. SeesPeek (λ rows. rows) l query z r) is h)

-- whether it forgot
pub forgot_or_not : (r : Result Bool Fault) (f b : Bool) (old new : PlainLocked) (values : ℕ) → r ≡ Ok f → f ≡ b → ForgetsWhenDue old values r new → (x : PlainLocked) × (x' : PlainLocked) × ForgetsWhenDue x values (Ok b) x'
forgot_or_not r f b old new values is test h = (old, new, subst (λ (z : Result Bool Fault). ForgetsWhenDue old values z new) (is ∙ ap (λ (z : Bool). Ok z) test) h)

-- OF A CALL THAT NAMES a stream or a query
module _ (number_of : Machine → List ℕ → Option ℕ) (name : List ℕ) (c : ℕ → Command) (seat seat' : PlainSeat) where
  pub took_named : {A : Type 0} (view : A → Told) (P : A → Type 0) (r : Result A Fault) (old new : PlainLocked) → IfOk r (λ x. P x × AcceptedNamed number_of name c old seat (view x) new seat')
      → IfOk r (λ x. P x × TookNamed number_of name c seat (view x) seat')
  took_named view P (Ok a) old new h = (h.0, (old, new, h.1))
  took_named view P (Err f) old new h = tt

  pub spurned_named : {A : Type 0} (r : Result A Fault) (unknown : Fault) (old new : PlainLocked) → IfErr r (λ f. DeclinedNamed number_of name unknown c old seat f new seat')
      → IfErr r (λ f. SpurnedNamed number_of name unknown c seat f seat')
  spurned_named (Ok a) unknown old new h = tt
  spurned_named (Err f) unknown old new h = (old, new, h)

  pub accepted_named : {A : Type 0} (view : A → Told) (P : A → Type 0) (r : Result A Fault) (old new : PlainLocked) (n : ℕ) (found : Option ℕ) → found ≡ number_of (engine_at old).machine name → found ≡ Some n
      → IfOk r (λ x. P x × Accepted old seat (c n) (view x) new seat') → IfOk r (λ x. P x × AcceptedNamed number_of name c old seat (view x) new seat')
  accepted_named view P (Ok a) old new n found is some h = (h.0, (n, sym is ∙ some, h.1))
  accepted_named view P (Err f) old new n found is some h = tt

  pub declined_named : {A : Type 0} (r : Result A Fault) (unknown : Fault) (old new : PlainLocked) (n : ℕ) (found : Option ℕ) → found ≡ number_of (engine_at old).machine name → found ≡ Some n
      → IfErr r (λ f. Declined old seat (c n) f new seat') → IfErr r (λ f. DeclinedNamed number_of name unknown c old seat f new seat')
  declined_named (Ok a) unknown old new n found is some h = tt
  declined_named (Err f) unknown old new n found is some h = inl (n, sym is ∙ some, h)

pub unnamed : (number_of : Machine → List ℕ → Option ℕ) (name : List ℕ) (c : ℕ → Command) (seat : PlainSeat) (unknown : Fault) (l : PlainLocked) (found : Option ℕ) → IsReplayed l → found ≡ number_of (engine_at l).machine name → found ≡ None
    → DeclinedNamed number_of name unknown c l seat unknown l seat
unnamed number_of name c seat unknown l found legal is none = inr (legal, sym is ∙ none, refl, refl, refl)

-- A SEAT THAT SETTLED, and a hub that may have forgotten
pub settled_alone : (seat seat' : PlainSeat) (agrees : Bool) (values : ℕ) → ((old : PlainLocked) × (settled : PlainLocked) × (new : PlainLocked) × Settles old seat agrees settled seat' × ForgetsAfter settled agrees values new)
    → (old : PlainLocked) × (new : PlainLocked) × Settles old seat agrees new seat'
settled_alone seat seat' agrees values h = (h.0, h.1, h.3)

pub settles_and_forgets : (old settled noted new : PlainLocked) (seat seat' : PlainSeat) (agrees : Bool) (values : ℕ) (forgot : Result Bool Fault) → agrees ≡ true → Settles old seat agrees settled seat' → noted ≡ settled → ForgetsWhenDue noted values forgot new
    → (x : PlainLocked) × Settles old seat true x seat' × ForgetsAfter x true values new
settles_and_forgets old settled noted new seat seat' agrees values forgot is s same h = (
  settled,
  subst (λ (b : Bool). Settles old seat b settled seat') is s,
  (forgot, subst (λ (l : PlainLocked). ForgetsWhenDue l values forgot new) same h),
)

pub settles_alone : (old new : PlainLocked) (seat seat' : PlainSeat) (agrees : Bool) (values : ℕ) → agrees ≡ false → Settles old seat agrees new seat' → (x : PlainLocked) × Settles old seat false x seat' × ForgetsAfter x false values new
settles_alone old new seat seat' agrees values is s = (new, subst (λ (b : Bool). Settles old seat b new seat') is s, refl)
