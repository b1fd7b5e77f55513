-- A turn of another size that a lease may ask for is refused for the same reason.
use Rattle.std.proofs.Common.{◌≡◌, ℕ, ◌≤◌, Bool, true, not, ◌&&◌, nat_le, [], ◌∷◌, refl}
use Rattle.std.proofs.lemmas.Bool.{le-leb}
use Rattle.names.specs.Faults.{first_of}
use Rattle.reference.specs.declared.fault.Fault.TheVariants.{BadLimit, TooManyLeases}
use Rattle.reference.specs.declared.limits.TheConstants.{MAX_TURN}
use Rattle.laws_engine.specs.Engines.{PlainEngine}
use Rattle.leases.specs.Turns.{lease_fault}

both_true : (a b : Bool) → a ≡ true → b ≡ true → (a && b) ≡ true
both_true a b p q = rw (p, q) refl

in_range : (rows : ℕ) → 1 ≤ rows → rows ≤ MAX_TURN → (nat_le 1 rows && nat_le rows MAX_TURN) ≡ true
in_range rows low high = both_true _ _ (le-leb 1 rows low) (le-leb rows MAX_TURN high)

tested : (b : Bool) (allowed allowed' : Bool) → allowed ≡ true → allowed' ≡ true
    → first_of ((not allowed', BadLimit) ∷ (b, TooManyLeases) ∷ []) ≡ first_of ((not allowed, BadLimit) ∷ (b, TooManyLeases) ∷ [])
tested b allowed allowed' is is' = rw (is, is') refl

pub same_fault : (e : PlainEngine) (rows rows' : ℕ) → 1 ≤ rows → rows ≤ MAX_TURN → 1 ≤ rows' → rows' ≤ MAX_TURN → lease_fault e rows' ≡ lease_fault e rows
same_fault e rows rows' low high low' high' = tested _ _ _ (in_range rows low high) (in_range rows' low' high')
