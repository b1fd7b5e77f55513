-- An operator passes instants at which it has nothing to do.
use Rattle.std.specs.Prelude.{ℕ, ◌≡◌, ◌-◌, false, []}
use Rattle.op_queue.specs.Cursors.{HasLeft, IsClear}
use Rattle.op_queue.specs.Logs.{Closed}
use Rattle.to_stream.specs.Turns as root
use Rattle.windows.specs.Windows.{Stays}
use Rattle.operators.specs.Ready.{PlainOperator, entries_in}
use Rattle.operators.specs.declared.inboxes.Inbox.{Inbox}
use Rattle.operators.specs.declared.inboxes.Inbox.TheVariants.{First, Between}
use Rattle.operators.specs.declared.states.State.{State}
use Rattle.operators.specs.declared.states.State.TheVariants.{Window, Nothing, Join, Groups, Root}

-- NOTHING IS TO BE DONE from the instant n to below b: no row leaves a window or enters it, no side
-- of a join has ticked, no group was touched, and nothing has come to a root that would answer
abbrev pub IsQuiet : ℕ → ℕ → State → Type 0
IsQuiet n b (Window s) = Stays n b s
IsQuiet n b Nothing = Unit {0}
IsQuiet n b (Join s) = (s.left.ticked ≡ false) × (s.right.ticked ≡ false)
IsQuiet n b (Groups s) = s.touched ≡ []
IsQuiet n b (Root s) = root.IsStill s

-- the state behind these instants: a root has ticked
abbrev pub state_passed : ℕ → State → State
state_passed b (Window s) = Window s
state_passed b Nothing = Nothing
state_passed b (Join s) = Join s
state_passed b (Groups s) = Groups s
state_passed b (Root s) = Root (root.ticked s (b - 1))

-- a stream's log has ticks alone of them, from the instant at the
-- front on; in a queue between operators nothing waits
abbrev pub MayLeave : ℕ → ℕ → Closed → Inbox → Type 0
MayLeave n b log (First c) = (c.at ≡ n) × IsClear b log c
MayLeave n b log (Between q) = q.entries ≡ []

-- the operator may pass the instants from n to below b
pub record MayPass (n b : ℕ) (log : Closed) (o : PlainOperator) : Type 0 where
  pub quiet : IsQuiet n b o.state
  pub left : MayLeave n b log o.left
  pub right : entries_in o.right log ≡ []

-- the ticks have left
abbrev pub AreGone : ℕ → Inbox → Inbox → Type 0
AreGone b (First c) (First d) = (log : Closed) → IsClear b log c → HasLeft b log c d
AreGone b (First c) (Between q) = ⊥
AreGone b (Between q) new = new ≡ Between q

-- IT HAS PASSED them
pub record IsPassed (b : ℕ) (o o2 : PlainOperator) : Type 0 where
  pub kind : o2.kind ≡ o.kind
  pub state : o2.state ≡ state_passed b o.state
  pub left : AreGone b o.left o2.left
  pub right : o2.right ≡ o.right
