-- Lists that stand one behind the other in one list.
use Rattle.std.specs.Prelude.{◌≡◌, ◌≤◌, ◌+◌, ◌-◌, ℕ, zero, suc, List, [], ◌∷◌, ◌++◌, length, take}
use Rattle.std.specs.Prelude.{drop}
use Rattle.std.specs.List.{All}
use Rattle.values.specs.declared.TheConstants.{MAX_COLUMNS}

-- the lists that end at these places of one list, of which the first begins at n
abbrev pub cut : {X : Type 0} → ℕ → List ℕ → List X → List (List X)
cut n [] xs = []
cut n (e ∷ es) xs = take (e - n) (drop n xs) ∷ cut e es xs

-- where lists end that stand one behind the other from n on
abbrev pub ends_of : {X : Type 0} → ℕ → List (List X) → List ℕ
ends_of n [] = []
ends_of n (l ∷ ls) = (n + length l) ∷ ends_of (n + length l) ls

-- lists one behind the other
abbrev pub joined : {X : Type 0} → List (List X) → List X
joined [] = []
joined (l ∷ ls) = l ++ joined ls

-- where the list at a place begins, the first at n
abbrev pub begin : ℕ → List ℕ → ℕ → ℕ
begin n es zero = n
begin n [] (suc k) = n
begin n (e ∷ es) (suc k) = begin e es k

-- one list is these lists one behind the other, which
-- end at these places; each is as long as a row may be
pub record IsJoined {X : Type 0} (es : List ℕ) (xs : List X) (ls : List (List X)) : Type 0 where
  pub ends : es ≡ ends_of 0 ls
  pub all : xs ≡ joined ls
  pub narrow : All (λ l. length l ≤ MAX_COLUMNS) ls
