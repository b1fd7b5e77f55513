-- TO BELIEVE: the theorem rests on these definitions, and no proof can check them.
-- What a server says.
use Rattle.std.specs.Prelude.{◌≡◌, ◌≤◌, ◌++◌, ℕ, List, Option, ◌⊎◌, codes}
use Rattle.std.specs.Fmt.{decimal}
use Rattle.std.specs.Io.KnownBytes.{Appends}
use Rattle.wire.specs.Devices.{AppendsFront, Rises}

-- A sink was given this text: it took all of it and did not fail, or it failed and took a front
-- of it. `taken` says what a sink shows that it took, and `failures` how often it failed.
abbrev pub IsTold : {E : Type 0} → (E → Option (List ℕ)) → (E → ℕ) → E → E → List ℕ → Type 0
IsTold taken failures old new text =
    (Appends (taken old) (taken new) text × (failures new ≡ failures old))
    ⊎ (AppendsFront (taken old) (taken new) text × Rises (failures old) (failures new))

-- where a server listens
abbrev pub listening_line : ℕ → List ℕ
listening_line port = codes "cqld: listening on 127.0.0.1:" ++ decimal port ++ codes "\n"

-- a sink was given where a server listens, or nothing
abbrev pub IsToldAddress : {E : Type 0} → (E → Option (List ℕ)) → (E → ℕ) → E → E → Type 0
IsToldAddress taken failures old new =
    (new ≡ old) ⊎ ((port : ℕ) × (port ≤ 65535)
    × IsTold taken failures old new (listening_line port))

abbrev pub memory_line : List ℕ
memory_line = codes "cqld: out of memory\n"

abbrev pub thread_line : List ℕ
thread_line = codes "cqld: thread failed\n"

abbrev pub accept_line : List ℕ
accept_line = codes "cqld: accept failed\n"

abbrev pub audit_line : List ℕ
audit_line = codes "cqld: audit failed\n"

abbrev pub close_line : List ℕ
close_line = codes "cqld: close failed\n"

abbrev pub bind_line : List ℕ
bind_line = codes "cqld: bind failed\n"

abbrev pub write_line : List ℕ
write_line = codes "cqld: write failed\n"
