-- What a turn puts out is of its item's instant, and so an operator that it feeds has next what it had, or something of that instant.
use Rattle.std.proofs.Common.{◌≡◌, ℕ, ◌<◌, Bool, true, false, cond, inl, inr, ◌⊎◌, ⊎_elim, Option, Some, None, List, [], ◌∷◌, ◌++◌, length, map, refl, sym, ap, ◌∙◌, subst, arith}
use Rattle.std.specs.Option.{option_map}
use Rattle.values.specs.Row.{Row}
use Rattle.column.specs.declared.batch.Side.{Side}
use Rattle.column.specs.declared.batch.Side.TheVariants.{Left, Right}
use Rattle.op_queue.specs.Entries.{Entry, RowAt, TickAt, front_of}
use Rattle.op_queue.specs.Items.{entries_of, first_instant, item_instant}
use Rattle.op_queue.specs.Logs.{Closed}
use Rattle.op_queue.specs.declared.item.Item.{Item}
use Rattle.op_queue.specs.declared.item.Item.TheVariants.{Rows, Tick}
use Rattle.windows.proofs.OutLemmas.{out_rows, out_tick}
use Rattle.operators.specs.Inboxes.{is_fed, queued}
use Rattle.operators.specs.Operators.{IsFed}
use Rattle.operators.specs.States.{near_of}
use Rattle.operators.specs.Ready.{PlainOperator, entries_in, first_ready, front_instant, inbox_of, ready, ready_at, usable, waiting}
use Rattle.operators.specs.declared.inboxes.Inbox.{Inbox}
use Rattle.operators.specs.declared.inboxes.Inbox.TheVariants.{First, Between}
use Rattle.operators.specs.declared.states.State.{State}
use Rattle.operators.specs.declared.states.State.TheVariants as state
use Rattle.turn.specs.Turns.{Answered, Outs, Put, outs_at, root_outs}
use Rattle.turn.specs.declared.excerpts.Excerpt.{Excerpt}
use Rattle.turn.specs.declared.excerpts.Excerpt.TheVariants as near
use Rattle.turn.specs.declared.kinds.Kind.{Kind}
use Rattle.turn.specs.declared.kinds.Kind.TheVariants as kind

-- NOTHING COMES, or what comes first is of the instant
abbrev pub StartsAt : ℕ → List (Entry Row) → Type 0
StartsAt t es = (first_instant es ≡ None) ⊎ (first_instant es ≡ Some t)

rows_start : (t : ℕ) (xs : List (Bool × Row)) → StartsAt t (map (RowAt t) xs)
rows_start t [] = inl refl
rows_start t (x ∷ xs) = inr refl

tick_starts : (t : ℕ) (xs : List (Bool × Row)) → StartsAt t (map (RowAt t) xs ++ TickAt t ∷ [])
tick_starts t [] = inr refl
tick_starts t (x ∷ xs) = inr refl

maybe_starts : (t : ℕ) (b : Bool) → StartsAt t (cond b (TickAt t ∷ []) [])
maybe_starts t true = inr refl
maybe_starts t false = inl refl

-- WHAT A TURN PUTS OUT, operator by operator; answers are put nowhere, and an operator with another's state puts out nothing
abbrev pub StartAt : ℕ → Outs → Type 0
StartAt t (Put es) = StartsAt t es
StartAt t (Answered rows) = Unit {0}

root_starts : (i : Item) (n : Excerpt) → StartAt (item_instant i) (root_outs i n)
root_starts i (near.Lists lists) = tt
root_starts i n = tt

pub outs_start : (k : Kind) (s : State) (side : Side) (i : Item) → StartAt (item_instant i) (outs_at k side i (near_of s side i))
outs_start kind.Window (state.Window held) side (Rows t b) = subst (StartsAt t) (sym (out_rows held t b)) (rows_start t _)
outs_start kind.Window (state.Window held) side (Tick t) = subst (StartsAt t) (sym (out_tick held t)) (tick_starts t _)
outs_start (kind.Select steps) state.Nothing side (Rows t b) = rows_start t _
outs_start (kind.Select steps) state.Nothing side (Tick t) = inr refl
outs_start (kind.Project columns) state.Nothing side (Rows t b) = rows_start t _
outs_start (kind.Project columns) state.Nothing side (Tick t) = inr refl
outs_start kind.Join (state.Join held) side (Rows t b) = rows_start t _
outs_start kind.Join (state.Join held) side (Tick t) = maybe_starts t _
outs_start (kind.Group g) (state.Groups held) side (Rows t b) = inl refl
outs_start (kind.Group g) (state.Groups held) side (Tick t) = tick_starts t _
outs_start kind.ToStream s side i = root_starts i (near_of s side i)
outs_start k s side i = inl refl

-- THE ITEM that stands first is of the instant at the front
abbrev instant_at : List (Entry Row) → Option ℕ
instant_at es = option_map front_instant (front_of es)

item_front : (i : Item) (rest : List (Entry Row)) → 0 < length (entries_of i) → instant_at (entries_of i ++ rest) ≡ Some (item_instant i)
item_front (Rows t []) rest some = absurd (omega (arith, some))
item_front (Rows t (x ∷ b)) rest some = refl
item_front (Tick t) rest some = refl

used : (b : Bool) (o : Option ℕ) (t : ℕ) → cond b o None ≡ Some t → o ≡ Some t
used true o t e = e
used false o t e = absurd (cc)

some_ready : (left right : Option ℕ) (side : Side) (t : ℕ) → first_ready left right ≡ Some (side, t) → ((side ≡ Left) × (left ≡ Some t)) ⊎ ((side ≡ Right) × (right ≡ Some t))
some_ready (Some u) right side t e = let same : ◌≡◌ {A = Side × ℕ} (Left, u) (side, t) = cc in inl (ap (λ z. z.0) (sym same), ap (λ z. Some z.1) same)
some_ready None (Some u) side t e = let same : ◌≡◌ {A = Side × ℕ} (Right, u) (side, t) = cc in inr (ap (λ z. z.0) (sym same), ap (λ z. Some z.1) same)
some_ready None None side t e = absurd (cc)

some_number : {a b : ℕ} → Some a ≡ Some b → a ≡ b
some_number e = cc

pub item_at : (o : PlainOperator) (log : Closed) (side : Side) (t : ℕ) (i : Item) (rest : List (Entry Row)) → ready o log ≡ Some (side, t) → 0 < length (entries_of i) → waiting o log side ≡ entries_of i ++ rest → item_instant i ≡ t
item_at o log side t i rest takes some is =
    let here : ready_at o log side ≡ Some t = ⊎_elim
    (λ l. ap (ready_at o log) l.0 ∙ l.1)
    (λ r. ap (ready_at o log) r.0 ∙ r.1)
    (some_ready (ready_at o log Left) (ready_at o log Right) side t takes) in
    let front : instant_at (waiting o log side) ≡ Some t = used (usable o.state side) (instant_at (waiting o log side)) t here in
    some_number (sym (item_front i rest some) ∙ ap instant_at (sym is) ∙ front)

-- AN OPERATOR THAT IS FED: one side alone has more
queue_is : (i : Inbox) (log : Closed) → is_fed i ≡ true → entries_in i log ≡ queued i
queue_is (First c) log h = absurd (cc)
queue_is (Between w) log h = refl

more_waits : (o o2 : PlainOperator) (side : Side) (es : List (Entry Row)) (log : Closed) → IsFed o side es o2 → is_fed (inbox_of o side) ≡ true → waiting o2 log side ≡ waiting o log side ++ es
more_waits o o2 side es log f h = queue_is (inbox_of o2 side) log (f.fed ∙ h) ∙ f.queued ∙ ap (λ z. z ++ es) (sym (queue_is (inbox_of o side) log h))

first_some : (es : List (Entry Row)) (t : ℕ) → first_instant es ≡ Some t → instant_at es ≡ Some t
first_some [] t e = absurd (cc)
first_some (RowAt u x ∷ es) t e = e
first_some (TickAt u ∷ es) t e = e

first_none : (es : List (Entry Row)) → first_instant es ≡ None → instant_at es ≡ None
first_none [] e = refl
first_none (x ∷ es) e = absurd (cc)

front_more : (es fs : List (Entry Row)) (t : ℕ) → StartsAt t fs → (instant_at (es ++ fs) ≡ instant_at es) ⊎ (instant_at (es ++ fs) ≡ Some t)
front_more [] fs t (inl e) = inl (first_none fs e)
front_more [] fs t (inr e) = inr (first_some fs t e)
front_more (RowAt u x ∷ es) fs t h = inl refl
front_more (TickAt u ∷ es) fs t h = inl refl

-- where there was nothing there may be something of the instant
abbrev MayGain : ℕ → Option ℕ → Option ℕ → Type 0
MayGain t old new = (new ≡ old) ⊎ (new ≡ Some t)

gained : (b : Bool) (old new : Option ℕ) (t : ℕ) → MayGain t old new → MayGain t (cond b old None) (cond b new None)
gained true old new t h = h
gained false old new t h = inl refl

-- so it has next what it had, or something of the instant
abbrev pub HasNextOrAt : ℕ → Option (Side × ℕ) → Option (Side × ℕ) → Type 0
HasNextOrAt t old new = (new ≡ old) ⊎ ((side : Side) × (new ≡ Some (side, t)))

left_gains : (t : ℕ) (left new right : Option ℕ) → MayGain t left new → HasNextOrAt t (first_ready left right) (first_ready new right)
left_gains t left new right (inl same) = inl (ap (λ z. first_ready z right) same)
left_gains t left new right (inr some) = inr (Left, ap (λ z. first_ready z right) some)

right_gains : (t : ℕ) (left right new : Option ℕ) → MayGain t right new → HasNextOrAt t (first_ready left right) (first_ready left new)
right_gains t left right new (inl same) = inl (ap (first_ready left) same)
right_gains t None right new (inr some) = inr (Right, ap (first_ready None) some)
right_gains t (Some u) right new (inr some) = inl refl

pub ready_fed : (o o2 : PlainOperator) (log : Closed) (side : Side) (es : List (Entry Row)) (t : ℕ) → IsFed o side es o2 → is_fed (inbox_of o side) ≡ true → StartsAt t es → HasNextOrAt t (ready o log) (ready o2 log)
ready_fed o o2 log side es t f h starts =
    let usual : (z : Side) → usable o2.state z ≡ usable o.state z = λ z. ap (λ s. usable s z) f.state in
    let fed : MayGain t (instant_at (waiting o log side)) (instant_at (waiting o2 log side)) =
    subst (λ ws. MayGain t (instant_at (waiting o log side)) (instant_at ws)) (sym (more_waits o o2 side es log f h)) (front_more (waiting o log side) es t starts) in
    by_side side f usual fed where
      by_side : (s : Side) → IsFed o s es o2 → ((z : Side) → usable o2.state z ≡ usable o.state z) → MayGain t (instant_at (waiting o log s)) (instant_at (waiting o2 log s)) → HasNextOrAt t (ready o log) (ready o2 log)
      by_side Left f usual fed =
          let right : ready_at o2 log Right ≡ ready_at o log Right = ap (λ b. cond b (instant_at (waiting o2 log Right)) None) (usual Right) ∙ ap (λ w. cond (usable o.state Right) (instant_at (entries_in w log)) None) f.other in
          let left : MayGain t (ready_at o log Left) (ready_at o2 log Left) =
          subst (λ b. MayGain t (ready_at o log Left) (cond b (instant_at (waiting o2 log Left)) None)) (sym (usual Left)) (gained (usable o.state Left) (instant_at (waiting o log Left)) (instant_at (waiting o2 log Left)) t fed) in
          subst (λ r. HasNextOrAt t (ready o log) (first_ready (ready_at o2 log Left) r)) (sym right)
          (left_gains t (ready_at o log Left) (ready_at o2 log Left) (ready_at o log Right) left)
      by_side Right f usual fed =
          let left : ready_at o2 log Left ≡ ready_at o log Left = ap (λ b. cond b (instant_at (waiting o2 log Left)) None) (usual Left) ∙ ap (λ w. cond (usable o.state Left) (instant_at (entries_in w log)) None) f.other in
          let right : MayGain t (ready_at o log Right) (ready_at o2 log Right) =
          subst (λ b. MayGain t (ready_at o log Right) (cond b (instant_at (waiting o2 log Right)) None)) (sym (usual Right)) (gained (usable o.state Right) (instant_at (waiting o log Right)) (instant_at (waiting o2 log Right)) t fed) in
          subst (λ l. HasNextOrAt t (ready o log) (first_ready l (ready_at o2 log Right))) (sym left)
          (right_gains t (ready_at o log Left) (ready_at o log Right) (ready_at o2 log Right) right)
