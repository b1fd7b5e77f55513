-- Elements without their numbers, and the window that shows all of them.
use Rattle.std.specs.Prelude.{ℕ, List, map}
use Rattle.values.specs.Row.{Row}
use Rattle.values.specs.declared.reach.Reach.TheVariants.{All}
use Rattle.values.specs.Window.{Element, Instants, Window}

-- the window of all rows so far
abbrev pub unbounded : Window
unbounded = Instants All

-- elements without their numbers
abbrev pub plain : List Element → List (ℕ × Row)
plain es = map (λ e. (e.instant, e.row)) es
