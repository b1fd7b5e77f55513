-- What it means that no command tells two machines apart but by the answers of some queries.
use Rattle.std.specs.Prelude.{ℕ, suc, ◌≡◌, Bool, true, false, Option, Some, is_some, List, [], ◌∷◌}
use Rattle.std.specs.Prelude.{get_or, length, map, slice_get}
use Rattle.values.specs.Row.{Row}
use Rattle.reference.specs.Machine.{Machine, Registered}
use Rattle.reference.specs.Commands.{Command, Append, Declare, Drop, Heartbeat, Register, Take}
use Rattle.reference.specs.Commands.{first_fault}
use Rattle.reference.specs.Replies.{Reply}
use Rattle.reference.specs.Steps.{IsStep}
use Rattle.reference.specs.World.{untaken}
use Rattle.reference.specs.Alike.{AlikeQuery, bare, bare_query}
use Rattle.laws_forgetting.specs.Answers.{GoesOn}
use Rattle.laws_forgetting.specs.Openings.{AreNumbered, IsMark}

-- TWO QUERIES that differ in their answers so far alone, and are alike where they pass
pub record AlikeIf (passes : Bool) (m n : Machine) (q r : Registered) : Type 0 where
  pub bare : bare_query q ≡ bare_query r
  pub alike : passes ≡ true → AlikeQuery m n q r

-- in pairs, each of which passes by its number
abbrev pub ArePartlyAlike : (ℕ → Bool) → Machine → Machine → List Registered
    → List Registered → Type 0
ArePartlyAlike passes m n [] [] = Unit {0}
ArePartlyAlike passes m n [] (r ∷ rs) = ⊥
ArePartlyAlike passes m n (q ∷ qs) [] = ⊥
ArePartlyAlike passes m n (q ∷ qs) (r ∷ rs) =
    AlikeIf (passes 0) m n q r × ArePartlyAlike (λ k. passes (suc k)) m n qs rs

-- PARTLY ALIKE MACHINES differ in what came to their streams and in their
-- queries' answers so far alone, and the queries whose numbers pass are alike
pub record PartlyAlike (passes : ℕ → Bool) (m n : Machine) : Type 0 where
  pub streams : map bare m.streams ≡ map bare n.streams
  pub queries : ArePartlyAlike passes m n m.queries n.queries

-- a command's reply is compared, unless it takes the answers of a query that does not pass
abbrev pub is_compared : (ℕ → Bool) → Command → Bool
is_compared passes (Declare name columns start) = true
is_compared passes (Register name source given) = true
is_compared passes (Append k rows) = true
is_compared passes (Heartbeat k at) = true
is_compared passes (Take k limit) = passes k
is_compared passes (Drop k) = true

-- ONE STEP
pub record StepPartlyAlike (passes : ℕ → Bool) (m n : Machine) (c : Command)
    (r : Reply) : Type 0 where
  -- both accept the command, or refuse it for the same fault
  pub faults : first_fault m c ≡ first_fault n c
  -- where the first machine takes it the second may, with the same reply if that is compared
  pub steps : (m2 : Machine) → IsStep m c r m2
      → (s : Reply) × ((n2 : Machine) × (IsStep n c s n2 × (is_compared passes c ≡ true → r ≡ s)))
  -- and however it does, they are partly alike behind it
  pub alike : (m2 n2 : Machine) (s : Reply) → IsStep m c r m2 → IsStep n c s n2
      → (is_compared passes c ≡ true → r ≡ s) → PartlyAlike passes m2 n2

-- COMMANDS IN TURN
-- the same ones, with the same replies where these are compared
abbrev pub AreAnsweredAlike : (ℕ → Bool) → List (Command × Reply) → List (Command × Reply) → Type 0
AreAnsweredAlike passes [] [] = Unit {0}
AreAnsweredAlike passes [] (t ∷ ts) = ⊥
AreAnsweredAlike passes (s ∷ ss) [] = ⊥
AreAnsweredAlike passes (s ∷ ss) (t ∷ ts) =
    ((s.0 ≡ t.0) × (is_compared passes s.0 ≡ true → s.1 ≡ t.1)) × AreAnsweredAlike passes ss ts

-- behind them both accept the same commands, and of each
-- query that passes the same closed answers are to be taken
pub record EndPartlyAlike (passes : ℕ → Bool) (last other : Machine) : Type 0 where
  pub alike : PartlyAlike passes last other
  pub faults : (c : Command) → first_fault last c ≡ first_fault other c
  pub many : length last.queries ≡ length other.queries
  pub answers : (k : ℕ) (q r : Registered) → slice_get last.queries k ≡ Some q
      → slice_get other.queries k ≡ Some r → passes k ≡ true → untaken last q ≡ untaken other r

-- the second machine goes on by them, too; and wherever it comes to, it is so
pub record GoOnPartlyAlike (passes : ℕ → Bool) (n : Machine) (steps : List (Command × Reply))
    (last : Machine) : Type 0 where
  pub others : List (Command × Reply)
  pub answered : AreAnsweredAlike passes steps others
  pub other : Machine
  pub goes_on : GoesOn n others other
  pub end : (ts : List (Command × Reply)) (z : Machine) → AreAnsweredAlike passes steps ts
      → GoesOn n ts z → EndPartlyAlike passes last z

-- OPENINGS
-- the query of the number has a mark, or is registered later
abbrev pub has_mark : List (Option ℕ) → ℕ → Bool
has_mark marks k = is_some (get_or marks k (Some 0))

-- a mark is one where the query was not dropped; elements are numbered as they come
pub record MayOpenMarked (m : Machine) (marks : List (Option ℕ))
    (waiting : List (List (ℕ × Row))) : Type 0 where
  pub marked : length marks ≡ length m.queries
  pub listed : length waiting ≡ length m.queries
  pub each : (n next : ℕ) (q : Registered) → slice_get m.queries n ≡ Some q → q.is_dropped ≡ false
      → slice_get marks n ≡ Some (Some next) → IsMark m q next (get_or waiting n [])
  pub numbered : AreNumbered m.streams
