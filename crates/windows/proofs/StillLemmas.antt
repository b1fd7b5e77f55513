-- Windows that neither gain nor lose a row for some instants.
use Rattle.std.proofs.Common.{◌≡◌, ℕ, ◌-◌, ◌<◌, ◌≤◌, inl, inr, ⊎_elim, Bool, true, false, cond, max, nat_lt, None, List, [], ◌∷◌, length, map, take, refl, arith}
use Rattle.std.specs.List.{filter}
use Rattle.std.proofs.lemmas.Bool.{cases_lt}
use Rattle.std.proofs.lemmas.Bool.Decides.{nat_tests}
use Rattle.values.specs.Row.{Row}
use Rattle.windows.specs.Instants.{InstantState, Stays, is_past}
use Rattle.values.specs.Moving.{moves}

not_below : (i k r : ℕ) → nat_lt i r ≡ false → k ≤ r → nat_lt i k ≡ false
not_below i k r is le = grind (arith, nat_tests)

-- no row is before an instant, so none is before an earlier one
pub none_before : (held : List (ℕ × Row)) (k r : ℕ) → take 0 (map (λ h. h.1) held) ≡ map (λ h. h.1) (filter (λ h. nat_lt h.0 r) held) → k ≤ r → filter (λ h. nat_lt h.0 k) held ≡ []
none_before [] k r e le = refl
none_before (h ∷ held) k r e le = here (nat_lt h.0 r) refl e (λ d. none_before held k r d le)
  where
    here : (b : Bool) → nat_lt h.0 r ≡ b → [] ≡ map (λ h. h.1) (cond b (h ∷ filter (λ h. nat_lt h.0 r) held) (filter (λ h. nat_lt h.0 r) held))
        → ([] ≡ map (λ h. h.1) (filter (λ h. nat_lt h.0 r) held) → filter (λ h. nat_lt h.0 k) held ≡ []) → filter (λ h. nat_lt h.0 k) (h ∷ held) ≡ []
    here true is e rest = absurd (cc)
    here false is e rest = rw (not_below h.0 k r is le) (rest e)

pub none_at_zero : (held : List (ℕ × Row)) (k : ℕ) → k ≤ 0 → filter (λ h. nat_lt h.0 k) held ≡ []
none_at_zero [] k le = refl
none_at_zero (h ∷ held) k le =
    let no : nat_lt h.0 k ≡ false = grind (arith, nat_tests) in
    rw no (none_at_zero held k le)

-- A WINDOW stays as it is while it does not move
pub stays_unmoved : (s : InstantState) (start b next : ℕ) → ((t : ℕ) → start ≤ t → t < next → moves s.reach t ≡ false) → b ≤ next → Stays start b s
stays_unmoved s start b next still le = inl (λ t x y. still t x (omega (arith, y, le)))

-- and while none of its rows is past, if it shows them all
pub stays_shown : (s : InstantState) (start b next keeps : ℕ) → ((t : ℕ) → start ≤ t → t < next → moves s.reach t ≡ false) → ((t : ℕ) → t < keeps → filter (is_past s.reach t) s.held ≡ []) → length s.held ≤ s.shown → s.shown ≤ length s.held
    → start < b → b ≤ max next keeps → Stays start b s
stays_shown s start b next keeps still none all few lt le =
    ⊎_elim (λ m. inr (omega (arith, all, few), none (b - 1) (omega (arith, lt, le, m)))) (λ m. stays_unmoved s start b next still m) (cases_lt next b)
