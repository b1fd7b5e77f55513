-- The definitions at worked rows.
use Rattle.std.specs.Prelude.{◌≡◌, ℕ, ℤ, Bool, true, false, Option, None, Some, pos, List, [], ◌∷◌}
use Rattle.std.specs.Prelude.{refl}
use Rattle.values.specs.Row.{Row}
use Rattle.values.specs.declared.reach.Reach.TheVariants.{All, Last, Steps}
use Rattle.op_queue.specs.Entries.{RowAt, TickAt}
use Rattle.op_queue.specs.declared.item.Item.TheVariants.{Rows, Tick}
use Rattle.windows.specs.declared.runs.Run.{Run}
use Rattle.windows.specs.Held.{cut_rows, held_in}
use Rattle.windows.specs.Instants.{InstantExcerpt, InstantState, near, next, out}
use Rattle.windows.specs.Latest as latest

abbrev one : ℕ → Row
one n = Some (pos n) ∷ []

abbrev two : ℕ → ℕ → Row
two m n = Some (pos m) ∷ Some (pos n) ∷ []

abbrev enters : Row → Bool × Row
enters r = (true, r)

abbrev leaves : Row → Bool × Row
leaves r = (false, r)

-- Range 2 with rows of the instants 1, 2 and 4: at the tick of 4 the row of 1 leaves
abbrev window : InstantState
window = record {
  reach = Last 2;
  width = 1;
  held = (1, one 7) ∷ (2, one 8) ∷ (4, one 9) ∷ [];
  shown = 3;
}

older_leave : out (Tick 4) (near window (Tick 4)) ≡ RowAt 4 (leaves (one 7)) ∷ TickAt 4 ∷ []
older_leave = refl

newer_stay : next window (Tick 4)
    ≡ record { reach = Last 2; width = 1; held = (2, one 8) ∷ (4, one 9) ∷ []; shown = 2 }
newer_stay = refl

rows_are_shown : out (Rows 4 (enters (one 5) ∷ [])) (near window (Rows 4 (enters (one 5) ∷ [])))
    ≡ RowAt 4 (enters (one 5)) ∷ []
rows_are_shown = refl

rows_are_held : next window (Rows 4 (enters (one 5) ∷ []))
    ≡ record {
      reach = Last 2;
      width = 1;
      held = (1, one 7) ∷ (2, one 8) ∷ (4, one 9) ∷ (4, one 5) ∷ [];
      shown = 4;
    }
rows_are_held = refl

-- Range 1 at the multiples of 2, which shows the row of the instant 1 and holds those of 2
-- and 3: at the tick of 4 the first leaves, the second goes unshown, and the third is shown
abbrev sliding : InstantState
sliding = record {
  reach = Steps 1 2;
  width = 1;
  held = (1, one 7) ∷ (2, one 8) ∷ (3, one 9) ∷ [];
  shown = 1;
}

moves_at_multiples : out (Tick 4) (near sliding (Tick 4))
    ≡ RowAt 4 (leaves (one 7)) ∷ RowAt 4 (enters (one 9)) ∷ TickAt 4 ∷ []
moves_at_multiples = refl

shows_the_rest : next sliding (Tick 4)
    ≡ record { reach = Steps 1 2; width = 1; held = (3, one 9) ∷ []; shown = 1 }
shows_the_rest = refl

-- a turn at that tick needs the row that goes unshown, too
needs_all_but_what_stays : near sliding (Tick 4)
    ≡ record { at_once = false; leave = one 7 ∷ []; pass = one 8 ∷ []; enter = one 9 ∷ [] }
needs_all_but_what_stays = refl

waits_between : out (Tick 5) (near sliding (Tick 5)) ≡ TickAt 5 ∷ []
waits_between = refl

holds_unshown : next sliding (Rows 4 (enters (one 5) ∷ []))
    ≡ record {
      reach = Steps 1 2;
      width = 1;
      held = (1, one 7) ∷ (2, one 8) ∷ (3, one 9) ∷ (4, one 5) ∷ [];
      shown = 1;
    }
holds_unshown = refl

-- Now holds the rows of the instant alone
abbrev now : InstantState
now = record { reach = Last 0; width = 1; held = (1, one 7) ∷ (2, one 8) ∷ []; shown = 2 }

now_forgets : near now (Tick 2)
    ≡ record { at_once = true; leave = one 7 ∷ []; pass = []; enter = [] }
now_forgets = refl

-- without a span all rows stay
abbrev every : InstantState
every = record { reach = All; width = 1; held = (1, one 7) ∷ (2, one 8) ∷ []; shown = 2 }

all_stay : out (Tick 9) (near every (Tick 9)) ≡ TickAt 9 ∷ []
all_stay = refl

-- three rows of two columns as they are kept: one of the instant 1, and two of the instant 4
abbrev six : List (Option ℤ)
six = Some (pos 7) ∷ Some (pos 8) ∷ Some (pos 9) ∷ None ∷ None ∷ Some (pos 5) ∷ []

abbrev runs : List Run
runs = record { instant = 1; count = 1 } ∷ record { instant = 4; count = 2 } ∷ []

values_and_runs : held_in (record { width = 2; rows = cut_rows 2 3 six }) runs
    ≡ record {
      width = 2;
      held = (1, two 7 8) ∷ (4, Some (pos 9) ∷ None ∷ [])
          ∷ (4, None ∷ Some (pos 5) ∷ []) ∷ [];
    }
values_and_runs = refl

-- rows of no column have no values
no_columns : held_in (record { width = 0; rows = cut_rows 0 3 [] }) runs
    ≡ record { width = 0; held = (1, []) ∷ (4, []) ∷ (4, []) ∷ [] }
no_columns = refl

-- Rows 2, with no partition, from nothing: the third row
-- makes the first fall out, and the fourth the second
abbrev nothing : Row → List Row
nothing k = []

third_and_fourth : latest.interleaved
    (enters (one 1) ∷ enters (one 2) ∷ enters (one 3) ∷ enters (one 4) ∷ [])
    (latest.all_fallen [] 2 nothing
    (enters (one 1) ∷ enters (one 2) ∷ enters (one 3) ∷ enters (one 4) ∷ []))
    ≡ enters (one 1) ∷ enters (one 2) ∷ enters (one 3) ∷ leaves (one 1) ∷ enters (one 4)
    ∷ leaves (one 2) ∷ []
third_and_fourth = refl

last_two : latest.all_after [] 2 nothing (enters (one 1) ∷ enters (one 2) ∷ enters (one 3) ∷ []) []
    ≡ one 2 ∷ one 3 ∷ []
last_two = refl

-- Partition By the first column Rows 1: a row makes the one before
-- it fall out that has the same first value; nulls are one partition
partitioned : latest.all_fallen (0 ∷ []) 1 nothing
    (enters (two 1 10) ∷ enters (two 2 20) ∷ enters (two 1 11) ∷ enters (None ∷ Some (pos 1) ∷ [])
    ∷ enters (None ∷ Some (pos 2) ∷ []) ∷ [])
    ≡ None ∷ None ∷ Some (two 1 10) ∷ None ∷ Some (None ∷ Some (pos 1) ∷ []) ∷ []
partitioned = refl
