-- One entry more.
use Rattle.std.proofs.Common.{◌≡◌, ℕ, ◌+◌, ◌≤◌, ◌<◌, ◌^◌, List, [], ◌∷◌, ◌++◌, length, length-append, refl, sym, ap, ◌∙◌, subst, arith, max}
use Rattle.reference.specs.Commands.{Command}
use Rattle.reference.specs.Machine.{Machine}
use Rattle.histories.specs.Histories.{Entry, Replays, Told}
use Rattle.reference.specs.Replies.{Reply}
use Rattle.hub.specs.Seats.{held}
use Rattle.hub.specs.Rising.{IsRisingFrom}
use Rattle.hub.proofs.PlaceLemmas.{rising_push}
use Rattle.reference.specs.Steps.{IsStep}

pub Replays-push : (m n k : Machine) (es : List Entry) (e : Entry) → Replays m es n → IsStep n e.command e.reply k → Replays m (es ++ e ∷ []) k
Replays-push m n k [] e same step = (k, (subst (λ x. IsStep x e.command e.reply k) same step, refl))
Replays-push m n k (x ∷ es) e run step = (run.0, (run.1.0, Replays-push run.0 n k es e run.1.1 step))

pub held-push : (rs : List Told) (r : Told) → held (rs ++ r ∷ []) ≡ max (held rs) (r.number + 1)
held-push [] r = omega arith
held-push (x ∷ rs) r = omega (arith, held-push rs r)

-- the lists as the code passes through them: what was there, what room was made for, and what stands there now
pub replays_next : (m n k : Machine) (es mid now : List Entry) (e : Entry) (s : ℕ) (c' : Command) (r' : Reply) (c : Command) (r : Reply)
    → now ≡ mid ++ e ∷ [] → mid ≡ es → e ≡ record { seat = s; command = c'; reply = r' } → c' ≡ c → r' ≡ r → Replays m es n → IsStep n c r k → Replays m now k
replays_next m n k es mid now e s c' r' c r is same is_entry same_command same_reply run step =
    let there : e ≡ record { seat = s; command = c; reply = r } = is_entry ∙ ap (λ x. record { seat = s; command = x; reply = r' }) same_command ∙ ap (λ x. record { seat = s; command = c; reply = x }) same_reply in
    subst (λ x. Replays m x k) (sym (is ∙ ap (λ x. x ++ e ∷ []) same ∙ ap (λ x. es ++ x ∷ []) there)) (Replays-push m n k es (record { seat = s; command = c; reply = r }) run step)

pub held_next : (rs mid now : List Told) (r : Told) (u : ℕ) → now ≡ mid ++ r ∷ [] → mid ≡ rs → max u (held rs) ≤ r.number → max u (held now) ≡ r.number + 1
held_next rs mid now r u is same below = omega (arith, below, ap held is, ap held same, held-push mid r)

pub rising_next : (rs mid now : List Told) (r : Told) → now ≡ mid ++ r ∷ [] → mid ≡ rs → held rs ≤ r.number → IsRisingFrom 0 rs → IsRisingFrom 0 now
rising_next rs mid now r is same below rising =
    subst (λ x. IsRisingFrom 0 x) (sym (is ∙ ap (λ x. x ++ r ∷ []) same)) (rising_push 0 rs r rising (omega arith) below)

-- there are numbers for all entries
pub fits_next : (f : ℕ) (es mid now : List Entry) (e : Entry) → now ≡ mid ++ e ∷ [] → mid ≡ es → f + length es < 2 ^ 63 → f + length now ≤ 2 ^ 63
fits_next f es mid now e is same room =
    let one : length (e ∷ []) ≡ 1 = refl in
    omega (arith, ap length is, length-append mid (e ∷ []), one, ap length same, room)
