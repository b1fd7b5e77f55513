-- A text on its way to a sink, of which a page holds the end.
use Rattle.std.specs.Prelude.{◌≡◌, ℕ, Bool, true, false, List, ◌++◌, Option, Result, MatchResult}
use Rattle.std.specs.Io.KnownBytes.{Appends}
use Rattle.wire.specs.Devices.{AppendsFront, Rises}
use Rattle.wire.specs.declared.page.Page.{Page}

-- Since the sink told `start` and had failed `before` times it was to get the text:
-- it took a front, and the rest is held; or a write failed, and it took some front.
abbrev pub Stands : Option (List ℕ) → ℕ → Option (List ℕ) → ℕ → Bool → List ℕ → List ℕ → Type 0
Stands start before now after true held text =
    (front : List ℕ) × (text ≡ front ++ held) × Appends start now front × (after ≡ before)
Stands start before now after false held text = AppendsFront start now text × Rises before after

abbrev pub Wrote : Option (List ℕ) → ℕ → Option (List ℕ) → ℕ → Page → List ℕ → Type 0
Wrote start before now after page text =
    Stands start before now after page.is_sound page.bytes.items text

-- along a call that was to write these bytes
pub record Writes (old : Option (List ℕ)) (fails : ℕ) (page : Page) (new : Option (List ℕ))
    (fails' : ℕ) (page' : Page) (bytes : List ℕ) : Type 0 where
  pub along : (start : Option (List ℕ)) (before : ℕ) (text : List ℕ)
      → Wrote start before old fails page text → Wrote start before new fails' page' (text ++ bytes)

-- `Ok`: the sink took these bytes and did not fail. `Err`: it failed, and took a front of them.
abbrev pub Puts : {T E : Type 0} → Option (List ℕ) → Option (List ℕ) → ℕ → ℕ → Result T E
    → List ℕ → Type 0
Puts old new before after result bytes =
    MatchResult result (λ _. Appends old new bytes × (after ≡ before))
    (λ _. AppendsFront old new bytes × Rises before after)
