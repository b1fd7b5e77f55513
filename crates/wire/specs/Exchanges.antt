-- TO BELIEVE: the theorem rests on these definitions, and no proof can check them.
-- Requests and their answers, one after the other, over a state that they change.
use Rattle.std.specs.Prelude.{◌≡◌, ℕ, Bool, false, ◌||◌, List, [], ◌∷◌, ◌++◌, Result}
use Rattle.wire.specs.Calls.{Call}
use Rattle.wire.specs.Printed.{Answer, line_of}
use Rattle.wire.specs.declared.request.WireFault.{WireFault}

-- THE REQUESTS were answered by this text, one line a request, and led from the state `first` to
-- the state `last`. `R` says what a request may be answered, `notes` which answers are noted, and
-- `noted` whether one of these was.
abbrev pub Runs : {T : Type 0} → (T → Result Call WireFault → Answer → T → Type 0)
    → (Result Call WireFault → Answer → Bool) → T → List (Result Call WireFault) → List ℕ → Bool
    → T → Type 0
Runs R notes first [] written noted last = (written ≡ []) × (noted ≡ false) × (last ≡ first)
Runs {T = T} R notes first (request ∷ more) written noted last =
    (answer : Answer) × (mid : T) × (rest : List ℕ) × (later : Bool)
    × (written ≡ line_of answer ++ rest)
    × (noted ≡ (notes request answer || later)) × R first request answer mid
    × Runs R notes mid more rest later last

-- The first of these requests were carried out: the
-- written text is a prefix of what they are answered.
abbrev pub Stands : {T : Type 0} → (T → Result Call WireFault → Answer → T → Type 0)
    → (Result Call WireFault → Answer → Bool) → T → List (Result Call WireFault) → List ℕ
    → T → Type 0
Stands R notes first requests written last =
    (carried : List (Result Call WireFault)) × (rest : List (Result Call WireFault))
    × (more : List ℕ) × (noted : Bool)
    × (requests ≡ carried ++ rest) × Runs R notes first carried (written ++ more) noted last
