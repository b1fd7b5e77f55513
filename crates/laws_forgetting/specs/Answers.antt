-- What it means that no call tells two worlds apart.
use Rattle.std.specs.Prelude.{ℕ, ℤ, ◌≡◌, Option, List, [], ◌∷◌, map}
use Rattle.reference.specs.Machine.{Machine}
use Rattle.reference.specs.Commands.{Command, first_fault}
use Rattle.reference.specs.Replies.{Reply}
use Rattle.reference.specs.Looks.{Look, look_at}
use Rattle.reference.specs.Status.{status_of}
use Rattle.reference.specs.Steps.{IsStep}
use Rattle.reference.specs.World.{World, Step, append_step, declare_step, drain_step, drop_step}
use Rattle.reference.specs.World.{heartbeat_step, peek_at, query_named, register_step, slopes_at}
use Rattle.reference.specs.World.{stream_named, take_step, untaken}
use Rattle.reference.specs.Alike.{Alike, AlikeMachines}

-- two steps answer the same, and lead to alike worlds
pub record SameStep {A : Type 0} (s t : Step A) : Type 0 where
  pub answer : s.0 ≡ t.0
  pub worlds : Alike s.1 t.1

-- EACH CALL answers the same of both, and leaves them alike
pub record AnswerAlike (w v : World) : Type 0 where
  pub declare : (name : List ℕ) (columns : List (List ℕ)) (start : ℤ)
      → SameStep (declare_step w name columns start) (declare_step v name columns start)
  pub register : (name text : List ℕ) (chart : Option (List (ℤ × ℤ)))
      → SameStep (register_step w name text chart) (register_step v name text chart)
  pub append : (stream : ℕ) (rows : List (ℤ × List (Option ℤ)))
      → SameStep (append_step w stream rows) (append_step v stream rows)
  pub heartbeat : (stream : ℕ) (at : ℤ)
      → SameStep (heartbeat_step w stream at) (heartbeat_step v stream at)
  pub drain : (rows : ℕ) → SameStep (drain_step w rows) (drain_step v rows)
  pub take : (query : ℕ) (limit : ℤ) → SameStep (take_step w query limit) (take_step v query limit)
  pub drop : (query : ℕ) → SameStep (drop_step w query) (drop_step v query)
  pub peek : (query : ℕ) (limit : ℤ) → peek_at w query limit ≡ peek_at v query limit
  pub status : status_of w ≡ status_of v
  pub slopes : (query : ℕ) → slopes_at w query ≡ slopes_at v query
  pub look : (look : Look) → look_at w look ≡ look_at v look
  pub streams : (name : List ℕ) → stream_named w name ≡ stream_named v name
  pub queries : (name : List ℕ) → query_named w name ≡ query_named v name

-- a step of the first machine is one of the second, with the same reply, to an alike machine
pub record StepAlike (m n : Machine) (c : Command) (r : Reply) : Type 0 where
  pub faults : first_fault m c ≡ first_fault n c
  pub steps : (m2 : Machine) → IsStep m c r m2
      → (n2 : Machine) × (IsStep n c r n2 × AlikeMachines m2 n2)

-- COMMANDS IN TURN, each accepted and with its reply
abbrev pub GoesOn : Machine → List (Command × Reply) → Machine → Type 0
GoesOn first [] last = last ≡ first
GoesOn first (s ∷ steps) last =
    (next : Machine) × (IsStep first s.0 s.1 next × GoesOn next steps last)

-- the second machine accepts them, too, with the same replies; then the
-- two are alike, and the same closed answers of each query are to be taken
pub record GoOnAlike (n : Machine) (steps : List (Command × Reply)) (last : Machine) : Type 0 where
  pub other : Machine
  pub goes_on : GoesOn n steps other
  pub alike : AlikeMachines last other
  pub answers : map (untaken last) last.queries ≡ map (untaken other) other.queries
