-- The bounds of a plan at a worked example.
use Rattle.std.specs.Prelude.{◌≡◌, ◌^◌, List, [], ◌∷◌, refl}
use Rattle.values.specs.Answers.{Istream}
use Rattle.plan.specs.Nodes.{Node, Window, Join, Project, Group, Distinct, ToStream}
use Rattle.laws_queries.specs.Counts.{most_rows, tick_rows}

-- two windows, joined, grouped, each row once
abbrev nodes : List Node
nodes = Window 0 ∷ Window 1 ∷ Join 0 1 [] ∷ Group 2 [] [] ∷ Distinct 3 ∷ ToStream 4 Istream ∷ []

joined_at_ticks : tick_rows nodes 2 ≡ 2 ^ 60
joined_at_ticks = refl

joined_always : most_rows nodes 2 ≡ 2 ^ 60
joined_always = refl

-- old rows and new ones
grouped_always : most_rows nodes 3 ≡ 2 ^ 61
grouped_always = refl

-- of the groups' rows, as few at a tick as the joined ones
once_always : most_rows nodes 4 ≡ 2 ^ 61
once_always = refl

-- THREE AND FOUR SOURCES have as many combinations at most: fewer rows of each count
abbrev three : List Node
three = Window 0 ∷ Window 1 ∷ Window 2 ∷ Join 0 1 [] ∷ Join 3 2 [] ∷ Project 4 []
    ∷ ToStream 5 Istream ∷ []

each_of_three : tick_rows three 0 ≡ 2 ^ 20
each_of_three = refl

joined_of_three : tick_rows three 4 ≡ 2 ^ 60
joined_of_three = refl

abbrev four : List Node
four = Window 0 ∷ Window 1 ∷ Window 2 ∷ Window 3 ∷ Join 0 1 [] ∷ Join 4 2 [] ∷ Join 5 3 []
    ∷ Project 6 [] ∷ ToStream 7 Istream ∷ []

each_of_four : tick_rows four 1 ≡ 2 ^ 15
each_of_four = refl

joined_of_four : most_rows four 6 ≡ 2 ^ 60
joined_of_four = refl
