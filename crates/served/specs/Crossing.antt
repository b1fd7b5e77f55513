-- What is asked of a runtime that starts threads: they may share it.
use base.Fml.{Fml, Lft}
use base.Shift.{Keyless}
use Rattle.std.specs.Prelude.{ℕ}

-- What a reference to a value holds belongs to no thread, so each may have one. `shared` is what
-- a reference holds, as `R.row.shr_at` of a type `R`; at a bound `Sync` it is so.
abbrev pub IsShared : {D : Type 0} → (D → ℕ → ℕ → Lft → Fml) → Type 0
IsShared {D = D} shared = (x : D) (b o : ℕ) (κ : Lft) → Keyless (shared x b o κ)
