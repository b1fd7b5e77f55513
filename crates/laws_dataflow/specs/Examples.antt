-- The definitions at worked examples.
use Rattle.std.specs.Prelude.{◌≡◌, ℕ, true, Some, pos, List, [], ◌∷◌, map, cond, ◌==◌, refl}
use Rattle.values.specs.Row.{Row}
use Rattle.values.specs.Window.{Element}
use Rattle.values.specs.Answers.{Istream, Dstream, Rstream}
use Rattle.op_queue.specs.Entries.{Entry, RowAt, TickAt}
use Rattle.plan.specs.Nodes.{Window, Join, Project, ToStream}
use Rattle.plan.specs.Nodes as plan
use Rattle.plan.specs.Build.{at}
use Rattle.laws_dataflow.specs.Windows.{Brings, opened}
use Rattle.laws_dataflow.specs.Nets.{at_window, window}
use Rattle.laws_dataflow.specs.Worlds.{fed_cell}
use Rattle.laws_dataflow.specs.Queries.{before, given_from}
use Rattle.laws_dataflow.specs.Plans.{consumer_of, least_in, value_in}

-- a row of one number
abbrev row : ℕ → Row
row n = Some (pos n) ∷ []

abbrev element : ℕ → ℕ → ℕ → Element
element arrival instant n = record { arrival = arrival; instant = instant; row = row n }

-- QUEUES OF WINDOWS: from the instant 2 to below 4, with two rows at 2 and one at 3
abbrev queue : List (Entry Row)
queue = RowAt 2 (true, row 7) ∷ RowAt 2 (true, row 8) ∷ TickAt 2 ∷ RowAt 3 (true, row 9)
    ∷ TickAt 3 ∷ []

brings : Brings 2 queue (element 0 2 7 ∷ element 3 2 8 ∷ element 1 3 9 ∷ []) 4
brings = (refl, refl, refl, (refl, refl, refl, (refl, (refl, refl, refl, (refl, refl)))))

open_ones : opened 3 (element 0 2 7 ∷ element 1 3 9 ∷ element 2 5 4 ∷ [])
    ≡ element 1 3 9 ∷ element 2 5 4 ∷ []
open_ones = refl

-- A HEARTBEAT puts what it closes at the end of a window's queue
fed : fed_cell (λ s. element 4 4 5 ∷ []) (λ s. RowAt 4 (true, row 5) ∷ TickAt 4 ∷ []) (window 0)
    (at_window [] [] [] (TickAt 3 ∷ []) 3)
    ≡ at_window [] (element 4 4 5 ∷ []) [] (TickAt 3 ∷ RowAt 4 (true, row 5) ∷ TickAt 4 ∷ []) 3
fed = refl

-- ANSWERS BY VALUES: from the instant 3 on the relation is {5}, {5, 7}, {7}
abbrev values : ℕ → List Row
values t = cond (t == 3) (row 5 ∷ []) (cond (t == 4) (row 7 ∷ row 5 ∷ []) (row 7 ∷ []))

came : given_from Istream 3 values 3 6 ≡ (3, row 5) ∷ (4, row 7) ∷ []
came = refl

gone : given_from Dstream 3 values 3 6 ≡ (5, row 5) ∷ []
gone = refl

whole : given_from Rstream 3 values 3 6 ≡ (3, row 5) ∷ (4, row 5) ∷ (4, row 7) ∷ (5, row 7) ∷ []
whole = refl

-- below the first instant the relation is empty
nothing_before : before 3 values 3 ≡ []
nothing_before = refl

-- A PLAN of two windows joined on their first columns: its consumers,
-- and the least open instants where the sources are closed below 4 and 9
abbrev nodes : List plan.Node
nodes = Window 0 ∷ Window 1 ∷ Join 0 1 (record { left = 0; right = 0 } ∷ []) ∷ Project 2 (at 0 ∷ [])
    ∷ ToStream 3 Istream ∷ []

consumers : map (consumer_of nodes) (0 ∷ 1 ∷ 2 ∷ 3 ∷ []) ≡ 2 ∷ 2 ∷ 3 ∷ 4 ∷ []
consumers = refl

abbrev closed : ℕ → ℕ
closed s = cond (s == 0) 4 9

leasts : map (least_in nodes closed) (0 ∷ 1 ∷ 2 ∷ 3 ∷ []) ≡ 4 ∷ 9 ∷ 4 ∷ 4 ∷ []
leasts = refl

value : value_in nodes (λ t. (row 1 ∷ row 2 ∷ []) ∷ (row 2 ∷ row 3 ∷ row 2 ∷ []) ∷ []) 3 0
    ≡ row 2 ∷ row 2 ∷ []
value = refl
