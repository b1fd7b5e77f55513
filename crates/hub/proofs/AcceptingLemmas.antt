-- An accepted command, from what its parts did.
use Rattle.std.proofs.Common.{◌≡◌, ℕ, ◌≤◌, Bool, List, [], ◌∷◌, ◌++◌, refl, sym, ap, ◌∙◌, subst}
use Rattle.reference.specs.Commands.{Command}
use Rattle.leases.specs.declared.opening.Opening.{Opening}
use Rattle.leases.specs.declared.state.EngineState.{EngineState}
use Rattle.histories.specs.Histories.{Entry, Told}
use Rattle.reference.specs.Replies.{Reply}
use Rattle.hub.specs.Calls.{Answered}
use Rattle.hub.specs.Steps.{Accepted, HasRoom, IsReplayed, PlainLocked, engine_at, next_number}
use Rattle.hub.specs.Seats.{PlainSeat, reach}
use Rattle.hub.specs.Ledgers.{PlainLedger, noted}
use Rattle.hub.specs.declared.settled.Settled.{Settled}

abbrev pub entry : ℕ → Command → Reply → Entry
entry s c r = record { seat = s; command = c; reply = r }

pub entry_is : (e : Entry) (s s' : ℕ) (c c' : Command) (r r' : Reply) → e ≡ entry s' c' r' → s' ≡ s → c' ≡ c → r' ≡ r → e ≡ entry s c r
entry_is e s s' c c' r r' is a b d = is ∙ ap (λ x. entry x c' r') a ∙ ap (λ x. entry s x r') b ∙ ap (λ x. entry s c x) d

pub receipt_is : (t : Told) (n : ℕ) (e e' : Entry) → t ≡ record { number = n; entry = e' } → e' ≡ e → t ≡ record { number = n; entry = e }
receipt_is t n e e' is same = is ∙ ap (λ x. record { number = n; entry = x }) same

pub longer : {X : Type 0} (now mid es : List X) (x y : X) → now ≡ mid ++ x ∷ [] → mid ≡ es → x ≡ y → now ≡ es ++ y ∷ []
longer now mid es x y is same there = is ∙ ap (λ l. l ++ x ∷ []) same ∙ ap (λ z. es ++ z ∷ []) there

locked_is : (s : EngineState) (m m' : Opening) (f f' : ℕ) (h h' : List Entry) (l l' n n' : ℕ) (k k' : PlainLedger) (b b' : Bool) → m ≡ m' → f ≡ f' → h ≡ h' → l ≡ l' → n ≡ n' → k ≡ k' → b ≡ b'
    → (let d : PlainLocked = record { engine = s; opening = m; first = f; history = h; limit = l; seats = n; ledger = k; has_ended = b } in d) ≡ record { engine = s; opening = m'; first = f'; history = h'; limit = l'; seats = n'; ledger = k'; has_ended = b' }
locked_is s m m' f f' h h' l l' n n' k k' b b' o i p q r j t = rw (o, i, p, q, r, j, t) refl

seat_is : (n n' : ℕ) (rs rs' : List Told) (d d' : Settled) (l l' : ℕ) → n ≡ n' → rs ≡ rs' → d ≡ d' → l ≡ l' → (let s : PlainSeat = record { number = n; receipts = rs; settled = d; learnt = l } in s) ≡ record { number = n'; receipts = rs'; settled = d'; learnt = l' }
seat_is n n' rs rs' d d' l l' p q t r = rw (p, q, t, r) refl

pub accepting : (old new : PlainLocked) (seat seat' : PlainSeat) (c : Command) (r : Reply) (n : ℕ) (t : Told)
    → IsReplayed old → Answered (engine_at old) c r (engine_at new)
    → (n ≡ next_number old) × HasRoom old × (reach seat ≤ n)
    → new.opening ≡ old.opening → new.first ≡ old.first → new.history ≡ old.history ++ entry seat.number c r ∷ [] → new.limit ≡ old.limit → new.seats ≡ old.seats
    → new.ledger ≡ noted old.ledger seat.number (next_number old) → new.has_ended ≡ old.has_ended
    → seat'.number ≡ seat.number → seat'.receipts ≡ seat.receipts ++ record { number = n; entry = entry seat.number c r } ∷ [] → seat'.settled ≡ seat.settled → seat'.learnt ≡ seat.learnt
    → t ≡ record { number = n; entry = entry seat.number c r }
    → (r ≡ t.entry.reply) × Accepted old seat c t new seat'
accepting old new seat seat' c r n t legal answered ok opening first history limit seats ledger ended number receipts settled learnt is =
    subst (λ x. (r ≡ x.entry.reply) × Accepted old seat c x new seat') (sym is) (
      refl,
      record {
        legal = legal;
        engine = answered;
        history = locked_is new.engine new.opening _ new.first _ new.history _ new.limit _ new.seats _ new.ledger _ new.has_ended _ opening first history limit seats ledger ended;
        room = ok.1;
        number = ok.0;
        by = refl;
        command = refl;
        above = ok.2;
        told = seat_is seat'.number _ seat'.receipts _ seat'.settled _ seat'.learnt _ number receipts settled learnt;
      },
    )
