-- Turns that states run in place are turns of the operators' kinds.
use Rattle.std.proofs.Common.{◌≡◌, ◌∙◌, ◌≤◌, ℕ, Bool, List, [], ◌++◌, IfErr, OnErr, ap, append-nil, arith, length, refl, subst, sym}
use Rattle.std.specs.Prelude.{⊤, Result, Ok, Err}
use Rattle.values.specs.Row.{Row}
use Rattle.column.specs.declared.batch.Side.{Side}
use Rattle.column.specs.declared.batch.Side.TheVariants.{Left, Right}
use Rattle.op_queue.specs.Items.{IsFrontPart, entries_of}
use Rattle.op_queue.specs.Logs.{Closed}
use Rattle.op_queue.specs.Queues.{Waiting}
use Rattle.op_queue.specs.declared.item.Item.{Item}
use Rattle.op_queue.specs.declared.item.Item.TheVariants.{Rows}
use Rattle.group.specs.Turns as groups
use Rattle.join.specs.Turns as join
use Rattle.to_stream.specs.Turns as root
use Rattle.windows.proofs.NextLemmas.{window_is_next, window_next}
use Rattle.turn.specs.Turns.{Answered, Outs, Put, change_at, outs_at}
use Rattle.turn.specs.declared.kinds.Kind.{Kind}
use Rattle.turn.specs.declared.kinds.Kind.TheVariants as kind
use Rattle.operators.specs.Fronts.{HasAnsweredFirst, HasRunFirst, HasTakenFirst, IsInFront, IsRunnable, MayAnswerFirst, MayComeFirst, MayTakeFirst}
use Rattle.operators.specs.InPlace.{HaveCome, IsAfterItem, MayAnswer, MayCome, MayComeAll, MayQueue, MayTake, TookRows, after_answers, answers_from, outs_from}
use Rattle.operators.specs.Inboxes.{IsDropped}
use Rattle.operators.specs.Operators.{Belongs, HasNamedColumns, IsFinished, other}
use Rattle.operators.specs.Ready.{PlainOperator, inbox_of, waiting}
use Rattle.operators.specs.Runs.{GivesFirst, HasGiven, HasPutTo, HasRunBelow, HasRunBelowLess, HasRunRoot, HasRunRootLess, IsAbove, IsElse, IsGiven, IsInHand, MayPut, MayPutFirst, MayRun, Stops, TakesItem, change_with, outs_with}
use Rattle.operators.specs.declared.runs.Refused.{Refused}
use Rattle.operators.specs.declared.runs.Refused.TheVariants.{Before, Within}
use Rattle.operators.specs.States.{FitsState, HasColumns, HasStood, IsNext, Takes, near_of}
use Rattle.operators.specs.declared.inboxes.Inbox.{Inbox}
use Rattle.operators.specs.declared.inboxes.Inbox.TheVariants.{Between}
use Rattle.operators.specs.declared.states.State.{State}
use Rattle.operators.specs.declared.states.State.TheVariants.{Window, Nothing, Join, Groups, Root}
use Rattle.operators.proofs.KindLemmas.{near_fits}

-- ---- a turn by the state
take_by : (k : Kind) (s : State) (side : Side) (i : Item) → Belongs k s → HasColumns s side i → HasNamedColumns k i → Takes s side i (change_at k i (near_of s side i)) → HasStood s side i → MayTake k s side i
take_by kind.Window s side i b c n t st =
    let r = subst (λ v. Takes v side i (change_at kind.Window i (near_of v side i))) b.1 t in
    subst (λ v. MayTake kind.Window v side i) (sym b.1) r
take_by (kind.Select steps) s side i b c n t st = subst (λ v. MayTake (kind.Select steps) v side i) (sym b) (record { row_node = tt; named = n })
take_by (kind.Project columns) s side i b c n t st = subst (λ v. MayTake (kind.Project columns) v side i) (sym b) (record { row_node = tt; named = n })
take_by kind.Join s side i b c n t st =
    let w = subst (λ v. HasColumns v side i) b.1 c in
    let r = subst (λ v. Takes v side i (change_at kind.Join i (near_of v side i))) b.1 t in
    let m = subst (λ v. HasStood v side i) b.1 st in
    subst (λ v. MayTake kind.Join v side i) (sym b.1) (record { wide = w; room = r; legal = m })
take_by (kind.Group g) s side i b c n t st =
    let r = subst (λ v. Takes v side i (change_at (kind.Group g) i (near_of v side i))) b.1 t in
    subst (λ v. MayTake (kind.Group g) v side i) (sym b.1) r
take_by kind.ToStream s side i b c n t st =
    let r = subst (λ v. Takes v side i (change_at kind.ToStream i (near_of v side i))) b.1 t in
    subst (λ v. MayTake kind.ToStream v side i) (sym b.1) r

pub may_take : (o : PlainOperator) (side : Side) (i : Item) → TakesItem o side i → MayTake o.kind o.state side i
may_take o side i t = take_by o.kind o.state side i t.belongs t.columns t.named t.takes t.stood

pub outs_same : (k : Kind) (s : State) (side : Side) (i : Item) → Belongs k s → outs_at k side i (near_of s side i) ≡ outs_from k s side i
outs_same kind.Window s side i b = subst (λ v. outs_at kind.Window side i (near_of v side i) ≡ outs_from kind.Window v side i) (sym b.1) refl
outs_same (kind.Select steps) s side i b = subst (λ v. outs_at (kind.Select steps) side i (near_of v side i) ≡ outs_from (kind.Select steps) v side i) (sym b) refl
outs_same (kind.Project columns) s side i b = subst (λ v. outs_at (kind.Project columns) side i (near_of v side i) ≡ outs_from (kind.Project columns) v side i) (sym b) refl
outs_same kind.Join s side i b = subst (λ v. outs_at kind.Join side i (near_of v side i) ≡ outs_from kind.Join v side i) (sym b.1) refl
outs_same (kind.Group g) s side i b =
    subst (λ v. outs_at (kind.Group g) side i (near_of v side i) ≡ outs_from (kind.Group g) v side i) (sym b.1)
    (ap (λ h. Put (groups.out h i (groups.near b.0 i))) (sym b.2))
outs_same kind.ToStream s side i b = subst (λ v. outs_at kind.ToStream side i (near_of v side i) ≡ outs_from kind.ToStream v side i) (sym b.1) refl

pub next_same : (k : Kind) (s : State) (side : Side) (i : Item) (new : State) → Belongs k s → IsAfterItem s side i new → IsNext s side i (change_at k i (near_of s side i)) new
next_same kind.Window s side i new b = subst (λ v. IsAfterItem v side i new → IsNext v side i (change_at kind.Window i (near_of v side i)) new) (sym b.1) (λ h. h)
next_same (kind.Select steps) s side i new b = subst (λ v. IsAfterItem v side i new → IsNext v side i (change_at (kind.Select steps) i (near_of v side i)) new) (sym b) (λ h. h)
next_same (kind.Project columns) s side i new b = subst (λ v. IsAfterItem v side i new → IsNext v side i (change_at (kind.Project columns) i (near_of v side i)) new) (sym b) (λ h. h)
next_same kind.Join s side i new b = subst (λ v. IsAfterItem v side i new → IsNext v side i (change_at kind.Join i (near_of v side i)) new) (sym b.1) (λ h. h)
next_same (kind.Group g) s side i new b =
    subst (λ v. IsAfterItem v side i new → IsNext v side i (change_at (kind.Group g) i (near_of v side i)) new) (sym b.1)
    (λ h. h ∙ ap (λ j. Groups (groups.next b.0 i (groups.change j i (groups.near b.0 i)))) b.2)
next_same kind.ToStream s side i new b = subst (λ v. IsAfterItem v side i new → IsNext v side i (change_at kind.ToStream i (near_of v side i)) new) (sym b.1) (λ h. h)

-- each state has a next one
abbrev next_state : State → Side → Item → State
next_state (Window s) side i = Window (window_next s i)
next_state Nothing side i = Nothing
next_state (Join s) side i = Join (join.next s side i)
next_state (Groups s) side i = Groups (groups.next s i (groups.change s.group i (groups.near s i)))
next_state (Root s) side i = Root (root.next s i)

is_next : (s : State) (side : Side) (i : Item) → IsAfterItem s side i (next_state s side i)
is_next (Window s) side i = window_is_next s i
is_next Nothing side i = refl
is_next (Join s) side i = refl
is_next (Groups s) side i = refl
is_next (Root s) side i = refl

-- ---- of what gives answers
record AnswersAt (k : Kind) (s : State) (side : Side) (i : Item) : Type 0 where
  may : MayAnswer s i
  outs : outs_at k side i (near_of s side i) ≡ Answered (answers_from s i)
  next : (new : State) → new ≡ after_answers s i → IsNext s side i (change_at k i (near_of s side i)) new
  fits : FitsState s i (near_of s side i)

answers_at : (k : Kind) (s : State) (side : Side) (i : Item) → Belongs k s → MayTake k s side i → IsGiven (outs_at k side i (near_of s side i)) → AnswersAt k s side i
answers_at kind.Window s side i b t g = elim (subst (λ v. IsGiven (outs_at kind.Window side i (near_of v side i))) b.1 g) [ ]
answers_at (kind.Select steps) s side i b t g = elim (subst (λ v. IsGiven (outs_at (kind.Select steps) side i (near_of v side i))) b g) [ ]
answers_at (kind.Project columns) s side i b t g = elim (subst (λ v. IsGiven (outs_at (kind.Project columns) side i (near_of v side i))) b g) [ ]
answers_at kind.Join s side i b t g = elim (subst (λ v. IsGiven (outs_at kind.Join side i (near_of v side i))) b.1 g) [ ]
answers_at (kind.Group j) s side i b t g = elim (subst (λ v. IsGiven (outs_at (kind.Group j) side i (near_of v side i))) b.1 g) [ ]
answers_at kind.ToStream s side i b t g =
    subst (λ v. MayTake kind.ToStream v side i → AnswersAt kind.ToStream v side i) (sym b.1) (λ r. record { may = r; outs = refl; next = λ new e. e; fits = tt }) t

-- ---- the queue of an inbox
pub may_queue : (os : Outs) (b : Inbox) (q : Waiting) → b ≡ Between q → MayComeAll os b → MayQueue os q
may_queue (Put es) b q is m = (subst (λ v. MayCome es v) is m).forward
may_queue (Answered given) b q is m = elim m [ ]

-- ---- the operator with another state and another inbox on one side
abbrev with_front : PlainOperator → Side → State → Inbox → PlainOperator
with_front o Left s b = record { kind = o.kind; state = s; left = b; right = o.right }
with_front o Right s b = record { kind = o.kind; state = s; left = o.left; right = b }

front_kind : (o : PlainOperator) (side : Side) (s : State) (b : Inbox) → (with_front o side s b).kind ≡ o.kind
front_kind o Left s b = refl
front_kind o Right s b = refl

front_state : (o : PlainOperator) (side : Side) (s : State) (b : Inbox) → (with_front o side s b).state ≡ s
front_state o Left s b = refl
front_state o Right s b = refl

front_inbox : (o : PlainOperator) (side : Side) (s : State) (b : Inbox) → inbox_of (with_front o side s b) side ≡ b
front_inbox o Left s b = refl
front_inbox o Right s b = refl

front_other : (o : PlainOperator) (side : Side) (s : State) (b : Inbox) → inbox_of (with_front o side s b) (other side) ≡ inbox_of o (other side)
front_other o Left s b = refl
front_other o Right s b = refl

may_come : (os : Outs) (to : PlainOperator) (side : Side) → MayPut os to side → MayComeAll os (inbox_of to side)
may_come (Put es) to side m = record { fed = m.fed; forward = m.forward }
may_come (Answered given) to side m = elim m [ ]

has_put : (os : Outs) (to new : PlainOperator) (side : Side) → IsAbove side to new → HaveCome os (inbox_of to side) (inbox_of new side) → HasPutTo os to side new
has_put (Put es) to new side a h = record {
  fed = record { kind = a.kind; state = a.state; queued = h.queued; fed = h.fed; other = a.other };
  items = h.items;
  stand = h.stand;
  batches = record { begins = h.begins };
}
has_put (Answered given) to new side a h = elim h [ ]

-- ---- RUNS of an operator, by those of its state and its inbox
module _ (o : PlainOperator) (log : Closed) (side : Side) (rows : ℕ) (m : MayRun o log side rows) where
  pub runnable : IsRunnable rows log (inbox_of o side)
  runnable = record { waits = m.waits; some = m.some; within = m.within }

  pub take_first : MayTakeFirst o.kind o.state side rows log (inbox_of o side)
  take_first i part = may_take o side i (m.takes i part)

  outs_are : (i : Item) → IsFrontPart rows (waiting o log side) i → outs_with o side i ≡ outs_from o.kind o.state side i
  outs_are i part = outs_same o.kind o.state side i (m.takes i part).belongs

  finished : (i : Item) (new : PlainOperator) → IsFrontPart rows (waiting o log side) i → IsElse side o new → IsDropped (length (entries_of i)) log (inbox_of o side) (inbox_of new side)
      → IsNext o.state side i (change_with o side i) new.state → IsFinished o log side i (change_with o side i) new
  finished i new part k d n = record { kind = k.kind; state = n; dropped = d; other = k.other }

  pub come_first : (to : PlainOperator) (to_side : Side) → MayPutFirst o log side rows to to_side → MayComeFirst o.kind o.state side rows log (inbox_of o side) (inbox_of to to_side)
  come_first to to_side puts i from2 part dropped =
      let s = next_state o.state side i in
      let new = with_front o side s from2 in
      let b = (m.takes i part).belongs in
      let after = subst (λ v. IsAfterItem o.state side i v) (sym (front_state o side s from2)) (is_next o.state side i) in
      let done = finished i new part (record { kind = front_kind o side s from2; other = front_other o side s from2 })
      (subst (λ v. IsDropped (length (entries_of i)) log (inbox_of o side) v) (sym (front_inbox o side s from2)) dropped)
      (next_same o.kind o.state side i new.state b after) in
      subst (λ os. MayComeAll os (inbox_of to to_side)) (outs_are i part) (may_come (outs_with o side i) to to_side (puts i part new done))

  in_hand : (i : Item) → IsInFront rows log (inbox_of o side) i → FitsState o.state i (near_of o.state side i) → IsInHand o log side rows i
  in_hand i f fits =
      let t = m.takes i f.part in
      record { part = f.part; cut = f.cut; fits = near_fits o.kind o.state side i (near_of o.state side i) t.belongs t.named fits }

  pub ran_below : (to new new_to : PlainOperator) (to_side : Side)
      → HasRunFirst o.kind side rows log o.state (inbox_of o side) (inbox_of to to_side) new.state (inbox_of new side) (inbox_of new_to to_side)
      → IsElse side o new → IsAbove to_side to new_to → HasRunBelow o log side rows to to_side new new_to
  ran_below to new new_to to_side h k a =
      let b = (m.takes h.item h.front.part).belongs in
      record {
        item = h.item;
        held = in_hand h.item h.front h.fits;
        finished = finished h.item new h.front.part k h.dropped (next_same o.kind o.state side h.item new.state b h.next);
        put = subst (λ os. HasPutTo os to to_side new_to) (sym (outs_are h.item h.front.part)) (has_put (outs_from o.kind o.state side h.item) to new_to to_side a h.come);
      }

  -- of a root
  answers : (i : Item) → IsFrontPart rows (waiting o log side) i → GivesFirst o log side rows → AnswersAt o.kind o.state side i
  answers i part gives = let t = m.takes i part in answers_at o.kind o.state side i t.belongs (may_take o side i t) (gives i part)

  pub answer_first : GivesFirst o log side rows → MayAnswerFirst o.state rows log (inbox_of o side)
  answer_first gives i part = (answers i part gives).may

  pub ran_root : (new : PlainOperator) (old_answers new_answers : List (ℕ × Row)) → GivesFirst o log side rows
      → HasAnsweredFirst rows log o.state (inbox_of o side) old_answers new.state (inbox_of new side) new_answers → IsElse side o new → HasRunRoot o log side rows old_answers new new_answers
  ran_root new old_answers new_answers gives h k =
      let a = answers h.item h.front.part gives in
      record {
        item = h.item;
        held = in_hand h.item h.front a.fits;
        finished = finished h.item new h.front.part k h.dropped (a.next new.state h.next);
        given = subst (λ os. HasGiven os old_answers new_answers) (sym a.outs) h.given;
      }

-- ---- OF A RUN THAT RAN OUT OF MEMORY among the rows, which put out nothing
abbrev IsSilent : Outs → Type 0
IsSilent (Put es) = es ≡ []
IsSilent (Answered given) = given ≡ []

record TookQuietly (k : Kind) (s : State) (side : Side) (i : Item) (s2 : State) : Type 0 where
  fits : FitsState s i (near_of s side i)
  next : IsAfterItem s side i s2
  silent : IsSilent (outs_from k s side i)

took_quietly : (k : Kind) (s : State) (side : Side) (t : ℕ) (b : List (Bool × Row)) (s2 : State) → TookRows s b s2 → TookQuietly k s side (Rows t b) s2
took_quietly k (Window s) side t b s2 h = elim h [ ]
took_quietly k Nothing side t b s2 h = elim h [ ]
took_quietly k (Join s) side t b s2 h = elim h [ ]
took_quietly k (Groups s) side t b s2 h = record { fits = tt; next = h; silent = refl }
took_quietly k (Root s) side t b s2 h = record { fits = tt; next = h; silent = refl }

put_none : (os : Outs) (to : PlainOperator) (side : Side) → IsSilent os → MayPut os to side → HasPutTo os to side to
put_none (Put es) to side silent may =
    subst (λ xs. HasPutTo (Put xs) to side to) (sym silent) (record {
      fed = record { kind = refl; state = refl; queued = sym (append-nil _); fed = refl; other = refl };
      items = [];
      stand = refl;
      batches = record { begins = sym (append-nil _) };
    })
put_none (Answered given) to side silent may = elim may [ ]

given_none : (os : Outs) (answers : List (ℕ × Row)) → IsSilent os → IsGiven os → HasGiven os answers answers
given_none (Put es) answers silent gives = elim gives [ ]
given_none (Answered given) answers silent gives = sym (ap (λ xs. answers ++ xs) silent ∙ append-nil answers)

more_part : (n rows : ℕ) (o : PlainOperator) (log : Closed) (side : Side) (i : Item) → n ≤ rows → IsFrontPart n (waiting o log side) i → IsFrontPart rows (waiting o log side) i
more_part n rows o log side i le part = record { some = part.some; few = omega (arith, le, part.few); first = part.first }

module _ (o : PlainOperator) (log : Closed) (side : Side) (rows : ℕ) (m : MayRun o log side rows) (new : PlainOperator) (k : IsElse side o new) (h : HasTakenFirst rows log o.state (inbox_of o side) new.state (inbox_of new side)) where
  abbrev few_item : Item
  few_item = Rows h.instant h.batch

  may_few : MayRun o log side h.count
  may_few = record {
    waits = m.waits;
    some = h.some;
    within = m.within;
    takes = λ i part. m.takes i (more_part h.count rows o log side i (omega (arith, h.fewer)) part);
  }

  few_part : IsFrontPart rows (waiting o log side) few_item
  few_part = more_part h.count rows o log side few_item (omega (arith, h.fewer)) h.front.part

  quietly : TookQuietly o.kind o.state side few_item new.state
  quietly = took_quietly o.kind o.state side h.instant h.batch new.state h.took

  few_held : IsInHand o log side h.count few_item
  few_held = in_hand o log side h.count may_few few_item h.front quietly.fits

  few_finished : IsFinished o log side few_item (change_with o side few_item) new
  few_finished = finished o log side h.count may_few few_item new h.front.part k h.dropped (next_same o.kind o.state side few_item new.state (m.takes few_item few_part).belongs quietly.next)

  few_silent : IsSilent (outs_with o side few_item)
  few_silent = subst IsSilent (sym (outs_are o log side h.count may_few few_item h.front.part)) quietly.silent

  pub ran_below_less : (to : PlainOperator) (to_side : Side) → MayPutFirst o log side rows to to_side → HasRunBelowLess o log side rows to to_side new to
  ran_below_less to to_side puts = record {
    count = h.count;
    some = h.some;
    fewer = h.fewer;
    run = record { item = few_item; held = few_held; finished = few_finished; put = put_none (outs_with o side few_item) to to_side few_silent (puts few_item few_part new few_finished) };
  }

  pub ran_root_less : (answers : List (ℕ × Row)) → GivesFirst o log side rows → HasRunRootLess o log side rows answers new answers
  ran_root_less answers gives = record {
    count = h.count;
    some = h.some;
    fewer = h.fewer;
    run = record { item = few_item; held = few_held; finished = few_finished; given = given_none (outs_with o side few_item) answers few_silent (gives few_item few_part) };
  }

pub stopped_below : (r : Result ⊤ Refused) (o : PlainOperator) (log : Closed) (side : Side) (rows : ℕ) (to : PlainOperator) (to_side : Side) (new new_to : PlainOperator) → MayRun o log side rows → MayPutFirst o log side rows to to_side → IsElse side o new → OnErr r (new_to ≡ to)
    → IfErr r (λ e. Stops e (new ≡ o) (HasTakenFirst rows log o.state (inbox_of o side) new.state (inbox_of new side))) → IfErr r (λ e. Stops e ((new ≡ o) × (new_to ≡ to)) (HasRunBelowLess o log side rows to to_side new new_to))
stopped_below (Ok u) o log side rows to to_side new new_to m puts k same h = tt
stopped_below (Err Before) o log side rows to to_side new new_to m puts k same h = (h, same)
stopped_below (Err Within) o log side rows to to_side new new_to m puts k same h = subst (λ x. HasRunBelowLess o log side rows to to_side new x) (sym same) (ran_below_less o log side rows m new k h to to_side puts)

pub stops_root : (r : Refused) (o : PlainOperator) (log : Closed) (side : Side) (rows : ℕ) (answers : List (ℕ × Row)) (new : PlainOperator) (new_answers : List (ℕ × Row)) → MayRun o log side rows → GivesFirst o log side rows → IsElse side o new → new_answers ≡ answers
    → Stops r (new ≡ o) (HasTakenFirst rows log o.state (inbox_of o side) new.state (inbox_of new side)) → Stops r (new ≡ o) (HasRunRootLess o log side rows answers new new_answers)
stops_root Before o log side rows answers new new_answers m gives k same h = h
stops_root Within o log side rows answers new new_answers m gives k same h = subst (λ x. HasRunRootLess o log side rows answers new x) (sym same) (ran_root_less o log side rows m new k h answers gives)
