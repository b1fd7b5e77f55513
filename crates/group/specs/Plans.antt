-- A tick in two steps: first it is found out what each touched
-- group shows from then on, then the groups show it.
use Rattle.std.specs.Prelude.{◌≡◌, Bool, true, cond, Option, Some, None, List, [], ◌∷◌, map, fold}
use Rattle.std.specs.Prelude.{length}
use Rattle.std.specs.Option.{is_some}
use Rattle.std.specs.Map.{set_value, remove_entry}
use Rattle.std.specs.BTreeMap.{is_at}
use Rattle.group.specs.Groups.{GroupBy}
use Rattle.group.specs.Cells.{Held, held_cmp, CellState, showing}
use Rattle.group.specs.Turns.{TouchedState, near_at, row_now, same_shown, has_key, cell_of}
use Rattle.group.specs.Turns.{shown_after}
use Rattle.group.specs.Runs.{changes_at, row_at_tick}

-- what a group that showed a row shows in its place, if that is another: a row or none
abbrev pub plan_for : Option Held → Option Held → Option (Option Held)
plan_for old None = Some None
plan_for old (Some r) = cond (same_shown old (Some r)) None (Some (Some r))

abbrev pub plan_of : GroupBy → Held → CellState → Option (Option Held)
plan_of g k c = plan_for c.shown (row_at_tick g k c)

-- the same of all groups of these keys
abbrev pub plan_in : GroupBy → TouchedState → Option (Option Held)
plan_in g t = plan_for t.shown (row_now g t)

abbrev pub plans_at : GroupBy → List (Held × CellState) → List Held → List (Option (Option Held))
plans_at g es ks = map (plan_in g) (near_at g.items es ks)

-- the groups where the group k shows this row, or went
abbrev pub put_in : Held → Option Held → List (Held × CellState) → List (Held × CellState)
put_in k None es = remove_entry (is_at (held_cmp k)) es
put_in k (Some r) es = set_value (is_at (held_cmp k)) es (showing (cell_of 0 k es) (Some r))

abbrev pub put_one : Held → Option (Option Held) → List (Held × CellState)
    → List (Held × CellState)
put_one k None es = es
put_one k (Some r) es = put_in k r es

abbrev pub put_all : List Held → List (Option (Option Held)) → List (Held × CellState)
    → List (Held × CellState)
put_all [] ps es = es
put_all (k ∷ ks) [] es = es
put_all (k ∷ ks) (p ∷ ps) es = put_all ks ps (put_one k p es)

-- each group of these keys that has a row to show is there
abbrev pub AllThere : GroupBy → List (Held × CellState) → List Held → Type 0
AllThere g es [] = Unit {0}
AllThere g es (k ∷ ks) = (is_some (row_at_tick g k (cell_of (length g.items) k es)) ≡ true
    → has_key k es ≡ true) × AllThere g es ks

-- without the first of these groups, if there is any
abbrev pub without_first : List Held → List (Held × CellState) → List (Held × CellState)
without_first [] es = es
without_first (k ∷ ks) es = remove_entry (is_at (held_cmp k)) es

-- the groups es, with the one group without Group By if it was not
-- there: a tick of the groups of these keys does the same with them
pub record Begun (g : GroupBy) (ks : List Held) (es fs : List (Held × CellState))
    (made : Bool) : Type 0 where
  pub near : near_at g.items fs ks ≡ near_at g.items es ks
  pub cells : fold (shown_after (length g.items)) fs (changes_at g fs ks)
      ≡ fold (shown_after (length g.items)) es (changes_at g es ks)
  pub there : AllThere g fs ks
  pub back : cond made (without_first ks fs) fs ≡ es
