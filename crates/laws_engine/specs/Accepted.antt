-- A text that the machine accepts, the plan of it that
-- the code has, and the query that is registered with it.
use Rattle.std.specs.Prelude.{ℕ, ℤ, ◌≡◌, Ok, Option, List, map}
use Rattle.plan.specs.declared.operators.Plan.{Plan}
use Rattle.reference.specs.Commands.{found, registered_as}
use Rattle.reference.specs.Finds.{Finds}
use Rattle.reference.specs.Machine.{Machine, Registered}
use Rattle.reference.specs.Standing.{found_of}
use Rattle.laws_queries.specs.Machines.{IsMachine, columns_of}
use Rattle.laws_queries.specs.Plain.{PlainQuery}
use Rattle.laws_queries.specs.Registrations.{HaveColumnNames, lengths_of}
use Rattle.laws_queries.specs.Rows.{HaveRows}
use Rattle.query_runtime.specs.Turns.{IsBeginning}

-- THE MACHINE'S STREAMS AND QUERIES are as they are at all times
pub record GoodMachine (m : Machine) : Type 0 where
  pub machine : IsMachine m
  pub rows : HaveRows m
  pub columns : HaveColumnNames m

-- THE PLAN of a text over the machine's streams: what the text
-- means, and for each source as many columns as its stream has
pub record IsPlanOfText (m : Machine) (text : List ℕ) (chart : Option (List (ℤ × ℤ)))
    (plan : Plan) : Type 0 where
  pub finds : Finds (found m text chart) (Ok plan)
  pub widths : plan.widths.items ≡ map (columns_of m.streams) plan.streams.items

-- the query that the machine registers for it
abbrev pub newest : Machine → List ℕ → Plan → Registered
newest m name plan = registered_as m name (found_of plan)

-- THE RUNNING QUERY as it is made of the plan, with the numbers of its
-- streams, over streams that were so long, from the query's first instant on
abbrev pub IsBegun : Plan → Registered → PlainQuery → Type 0
IsBegun plan q p = IsBeginning plan.meaning.windows.items plan.widths.items plan.streams.items
    (lengths_of q) q.first plan.nodes.items p
