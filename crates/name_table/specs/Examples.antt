-- The definitions at worked examples.
use Rattle.std.specs.Prelude.{◌≡◌, ℕ, List, [], ◌∷◌, Option, Some, None, codes, position, refl}
use Rattle.name_table.specs.Names.{bears}

-- two names, of which the first was freed and given again
abbrev names : List (Option (List ℕ))
names = None ∷ Some (codes "T") ∷ Some (codes "S") ∷ []

the_name_that_was_given_again : position (bears (codes "S")) names ≡ Some 2
the_name_that_was_given_again = refl

another_case_of_letters : position (bears (codes "t")) names ≡ None
another_case_of_letters = refl
