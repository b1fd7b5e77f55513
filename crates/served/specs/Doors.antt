-- The door of a server.
use Rattle.std.specs.Prelude.{◌≡◌, ◌≢◌, ◌-◌, ℕ, Option, Some, None, Result, Ok, Err}
use Rattle.served.specs.declared.alarm.Failure.{Failure}
use Rattle.served.specs.declared.alarm.Failure.TheVariants as failed
use Rattle.served.specs.declared.door.Door.{Door}

-- one fewer are still to serve, where it is said how many are
abbrev pub fewer : Option ℕ → Option ℕ
fewer None = None
fewer (Some n) = Some (n - 1)

-- IT LET ONE IN, or nobody: shut, it stays as it is,
-- and else it is shut where none could be accepted
abbrev pub Admits : {C : Type 0} → Door → Result (Option C) Failure → Door → Type 0
Admits old (Ok (Some c)) new = (old.left ≢ Some 0) × (new ≡ record old { left = fewer old.left })
Admits old (Ok None) new = (old.left ≡ Some 0) × (new ≡ old)
Admits old (Err failure) new =
    (old.left ≢ Some 0) × (failure ≡ failed.Accept) × (new ≡ record old { left = Some 0 })
