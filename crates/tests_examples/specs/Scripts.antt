-- The scripts of a text.
use Rattle.std.specs.Prelude.{ℕ, List, ◌==◌}
use Rattle.std.specs.List.{slice_split}

-- what stands before, between and behind the record separators
unfoldable pub scripts_of : List ℕ → List (List ℕ)
scripts_of text = slice_split (λ byte. byte == 30) text
