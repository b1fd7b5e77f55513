-- That what is kept of an input is enough for a window.
use Rattle.std.specs.Prelude.{ℕ, ◌≡◌, ◌+◌, ◌≤◌, Bool, true, List, [], ◌∷◌, ◌++◌, filter}
use Rattle.values.specs.Window.{Element, Window, window_rows}
use Rattle.values.specs.Needs.{is_needed}

abbrev pub Each : {A : Type 0} → (A → Type 0) → List A → Type 0
Each P [] = Unit {0}
Each P (x ∷ xs) = P x × Each P xs

-- whatever else passes, what is needed passes
abbrev pub HasNeeded : ℕ → Window → ℕ → List Element → (Element → Bool) → Type 0
HasNeeded from w next es kept = Each (λ e. is_needed from w next es e ≡ true → kept e ≡ true) es

abbrev pub WindowsShowTheSame : ℕ → Window → ℕ → List Element → (Element → Bool) → Type 0
WindowsShowTheSame from w next input kept =
    HasNeeded from w next input kept → (t : ℕ) (later : List Element) → next ≤ t + 1
    → window_rows from w t (filter kept input ++ later) ≡ window_rows from w t (input ++ later)
