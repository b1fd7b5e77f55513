-- What a take answers, and makes of an engine.
use Rattle.std.specs.Prelude.{ℕ, ℤ, ◌≡◌, None, Some, List, length, min, nat_abs, take}
use Rattle.std.specs.Prelude.{Result, Ok, Err}
use Rattle.values.specs.Row.{Row}
use Rattle.reference.specs.Commands.{Take, first_fault}
use Rattle.reference.specs.World.{handed}
use Rattle.reference.specs.declared.fault.Fault.{Fault}
use Rattle.reference.specs.declared.fault.Fault.TheVariants as fault
use Rattle.laws_engine.specs.Calls.{remains_after, taken}
use Rattle.laws_engine.specs.Engines.{IsExhausted, PlainEngine, PlainRemains, answers_in}
use Rattle.laws_engine.specs.Engines.{remains_at}

-- how many answers are handed out
abbrev pub count_of : PlainEngine → ℕ → ℤ → ℕ
count_of e n limit = min (nat_abs limit) (length (answers_in (remains_at e n)))

-- the first that wait, unless a test fails; of a broken query
-- of which nothing waits that is said, and never want of memory
abbrev pub Takes : {A : Type 0} → (A → List (ℤ × Row)) → PlainEngine → ℕ → ℤ → Result A Fault
    → PlainEngine → Type 0
Takes view old n limit (Ok rows) new =
    (first_fault old.machine (Take n limit) ≡ None)
    × (view rows ≡ handed (take (count_of old n limit) (answers_in (remains_at old n))))
    × (new ≡ taken old n limit (count_of old n limit)) × (IsExhausted (remains_at old n) → ⊥)
Takes view old n limit (Err fault.OutOfMemory) new =
    (first_fault old.machine (Take n limit) ≡ None) × (new ≡ old)
    × (IsExhausted (remains_at old n) → ⊥)
Takes view old n limit (Err fault.Broken) new =
    (first_fault old.machine (Take n limit) ≡ None) × IsExhausted (remains_at old n) × (new ≡ old)
Takes view old n limit (Err f) new = (first_fault old.machine (Take n limit) ≡ Some f) × (new ≡ old)

-- OF WHAT IS LEFT OF A QUERY
abbrev pub count_in : PlainRemains → ℕ → ℕ
count_in remains limit = min limit (length (answers_in remains))

abbrev pub HandsOut : {A : Type 0} → (A → List (ℤ × Row)) → PlainRemains → ℕ → Result A Fault
    → PlainRemains → Type 0
HandsOut view old limit (Ok rows) new =
    (view rows ≡ handed (take (count_in old limit) (answers_in old)))
    × (new ≡ remains_after (count_in old limit) old) × (IsExhausted old → ⊥)
HandsOut view old limit (Err fault.OutOfMemory) new = (new ≡ old) × (IsExhausted old → ⊥)
HandsOut view old limit (Err fault.Broken) new = IsExhausted old × (new ≡ old)
HandsOut view old limit (Err f) new = ⊥

-- A PEEK answers what a take would
abbrev pub after_take : {A : Type 0} → PlainEngine → ℕ → ℤ → Result A Fault → PlainEngine
after_take e n limit (Ok rows) = taken e n limit (count_of e n limit)
after_take e n limit (Err f) = e

abbrev pub Peeks : {A : Type 0} → (A → List (ℤ × Row)) → PlainEngine → ℕ → ℤ → Result A Fault
    → Type 0
Peeks view e n limit result = Takes view e n limit result (after_take e n limit result)

-- of what is left of a query
abbrev pub after_hand : {A : Type 0} → PlainRemains → ℕ → Result A Fault → PlainRemains
after_hand remains limit (Ok rows) = remains_after (count_in remains limit) remains
after_hand remains limit (Err f) = remains

abbrev pub ShowsFirst : {A : Type 0} → (A → List (ℤ × Row)) → PlainRemains → ℕ → Result A Fault
    → Type 0
ShowsFirst view remains limit result =
    HandsOut view remains limit result (after_hand remains limit result)
