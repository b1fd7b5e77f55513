-- Bags of rows of any type as lists, and signed rows that turn one bag into another.
use Rattle.std.specs.Prelude.{ℕ, ◌+◌, ◌≤◌, ◌≡◌, Bool, cond, List, [], ◌∷◌, take}

-- the sum of a weight over the rows of a bag
unfoldable pub weigh : {X : Type 0} → (X → ℕ) → List X → ℕ
weigh w [] = 0
weigh w (x ∷ xs) = w x + weigh w xs

-- a signed row is a pair: true where the row enters, false where it leaves
abbrev pub gain : {X : Type 0} → (X → ℕ) → Bool × X → ℕ
gain w s = cond s.0 (w s.1) 0

abbrev pub loss : {X : Type 0} → (X → ℕ) → Bool × X → ℕ
loss w s = cond s.0 0 (w s.1)

-- the sums of a weight over the rows that enter, and over those that leave
abbrev pub up : {X : Type 0} → (X → ℕ) → List (Bool × X) → ℕ
up w xs = weigh (gain w) xs

abbrev pub down : {X : Type 0} → (X → ℕ) → List (Bool × X) → ℕ
down w xs = weigh (loss w) xs

-- the two lists are one bag: every sum over them is the same
pub record Same {X : Type 0} (xs ys : List X) : Type 0 where
  pub weighs : (w : X → ℕ) → weigh w xs ≡ weigh w ys

-- the bag b with the signed rows added is the bag c
pub record Adds {X : Type 0} (b : List X) (xs : List (Bool × X)) (c : List X) : Type 0 where
  pub weighs : (w : X → ℕ) → weigh w b + up w xs ≡ down w xs + weigh w c

-- wherever the signed rows are cut, none has left that was not there
pub record Legal {X : Type 0} (b : List X) (xs : List (Bool × X)) : Type 0 where
  pub fits : (w : X → ℕ) (k : ℕ) → down w (take k xs) ≤ up w (take k xs) + weigh w b

-- the signed rows turn b into c, and may be cut anywhere
pub record Turns {X : Type 0} (b : List X) (xs : List (Bool × X)) (c : List X) : Type 0 where
  pub adds : Adds b xs c
  pub legal : Legal b xs
