-- No call tells alike worlds apart, and no step alike machines.
use Rattle.std.proofs.Common.{◌≡◌, ℕ, ℤ, nat_abs, ◌++◌, Bool, true, false, cond, min, Option, Some, None, Result, Ok, List, [], ◌∷◌, map, take, drop, length, get_or, refl, sym, ap, ap₂, ◌∙◌, subst}
use Rattle.std.specs.Prelude.{slice_get, option_and_then}
use Rattle.std.specs.Option.{option_map}
use Rattle.values.specs.Row.{Row}
use Rattle.reference.specs.Machine.{Machine, Registered, Stream, ends_at, unless_dropped}
use Rattle.reference.specs.Commands.{Command, Declare, Register, Append, Heartbeat, Take, Drop, after, change, first_fault, found}
use Rattle.reference.specs.Replies.{Reply}
use Rattle.reference.specs.Steps.{IsStep}
use Rattle.reference.specs.Looks.{Look, Seen, answers, at_query, look_at, operators, peek_rows, seen_as, show_plan, show_status, status}
use Rattle.reference.specs.Status.{QueryStatus, Status, StreamStatus, last_before, queries_status, status_of, stream_status}
use Rattle.reference.specs.World.{World, append_step, begins_at, declare_step, drain_fault, drain_step, drop_step, handed, heartbeat_step, operators_of, peek_at, query_named, register_step, slopes_at, slopes_in, stream_named, take_step, unless, untaken, waiting_at}
use Rattle.reference.specs.declared.fault.Fault.{Fault}
use Rattle.reference.specs.Alike.{Alike, AlikeMachines, AreAlike, bare, bare_query}
use Rattle.laws_forgetting.specs.Answers.{AnswerAlike, GoOnAlike, GoesOn, SameStep, StepAlike}
use Rattle.laws_forgetting.specs.Partly.{PartlyAlike, StepPartlyAlike}
use Rattle.laws_forgetting.proofs.CommandLemmas.{begins_alike, commands_partly, ends_same, untaken_same}
use Rattle.laws_forgetting.proofs.PartlyLemmas.{all_compared, each_passes, part, steps_partly, whole}
use Rattle.laws_forgetting.proofs.FaultLemmas.{faults_same, queries_many, queries_same, query_named_same, same_get, stream_named_same, streams_many}

-- A STEP with the same first fault, and the same answer and alike worlds where there is none
same_step : {A : Type 0} (w v : World) → Alike w v → (first other : Option Fault) → first ≡ other → (a b : A) (w2 v2 : World) → (first ≡ None → (a ≡ b) × Alike w2 v2)
    → SameStep (unless first w a w2) (unless other v b v2)
same_step {A = A} w v h first other e a b w2 v2 f = subst (λ o. SameStep (unless first w a w2) (unless o v b v2)) e (here first f)
  where
    here : (o : Option Fault) → (o ≡ None → (a ≡ b) × Alike w2 v2) → SameStep (unless o w a w2) (unless o v b v2)
    here None g = let done = g refl in record { answer = ap (λ (x : A). Ok x) done.0; worlds = done.1 }
    here (Some fault) g = record { answer = refl; worlds = h }

-- THE MACHINES
module _ (m n : Machine) (h : AlikeMachines m n) where
  commands_alike : (c : Command) (count : ℕ) → first_fault m c ≡ None → AlikeMachines (after m c count) (after n c count)
  commands_alike c count e = whole (after m c count) (after n c count) (commands_partly each_passes m n (part m n h) c count count e (λ i. refl))

  pub steps_alike : (c : Command) (r : Reply) → StepAlike m n c r
  steps_alike c r =
      let all : StepPartlyAlike each_passes m n c r = steps_partly each_passes m n (part m n h) c r in
      record {
        faults = all.faults;
        steps = λ m2 s.
            let other = all.steps m2 s in
            (other.1.0, (subst (λ z. IsStep n c z other.1.0) (sym (other.1.1.1 (all_compared c))) other.1.1.0, whole m2 other.1.0 (all.alike m2 other.1.0 other.0 s other.1.1.0 other.1.1.1)));
      }

  drained : (qs rs : List Registered) → AreAlike m n qs rs → map (untaken m) qs ≡ map (untaken n) rs
  drained [] [] i = refl
  drained [] (r ∷ rs) i = absurd i
  drained (q ∷ qs) [] i = absurd i
  drained (q ∷ qs) (r ∷ rs) i = ap₂ (λ x xs. x ∷ xs) (untaken_same each_passes m n (part m n h) q r i.0) (drained qs rs i.1)

  -- A DRAIN finds the same answers
  drains_same : map (untaken m) m.queries ≡ map (untaken n) n.queries
  drains_same = drained m.queries n.queries h.queries

  ended : (qs rs : List Registered) → AreAlike m n qs rs → map (ends_at m) qs ≡ map (ends_at n) rs
  ended [] [] i = refl
  ended [] (r ∷ rs) i = absurd i
  ended (q ∷ qs) [] i = absurd i
  ended (q ∷ qs) (r ∷ rs) i = ap₂ (λ (x : ℕ) (xs : List ℕ). x ∷ xs) (ends_same each_passes m n (part m n h) q r i.0) (ended qs rs i.1)

  -- and leaves the queries complete up to the same instants
  ends_all : map (ends_at m) m.queries ≡ map (ends_at n) n.queries
  ends_all = ended m.queries n.queries h.queries

  -- A LOOK says the same of both
  stated : (qs rs : List Registered) → AreAlike m n qs rs → (ws : List (List (ℕ × Row))) (us : List ℕ) → queries_status qs ws us ≡ queries_status rs ws us
  stated [] [] i ws us = refl
  stated [] (r ∷ rs) i ws us = absurd i
  stated (q ∷ qs) [] i ws us = absurd i
  stated (q ∷ qs) (r ∷ rs) i [] us = refl
  stated (q ∷ qs) (r ∷ rs) i (w ∷ ws) [] = refl
  stated (q ∷ qs) (r ∷ rs) i (w ∷ ws) (u ∷ us) =
      let one : Registered → ℕ → List QueryStatus → List QueryStatus = λ z k rest. cond z.is_dropped rest (record { name = z.name; base = last_before z.first; taken = k; waiting = length w; upto = last_before u; is_broken = false } ∷ rest) in
      ap (λ (z : Registered). one z q.ever_taken (queries_status qs ws us)) i.0.bare
      ∙ ap₂ (λ (k : ℕ) (rest : List QueryStatus). one r k rest) i.0.counts (stated qs rs i.1 ws us)

  queries_stated : (ws : List (List (ℕ × Row))) (us : List ℕ) → queries_status m.queries ws us ≡ queries_status n.queries ws us
  queries_stated ws us = stated m.queries n.queries h.queries ws us

  bare_status : (ss : List Stream) → map stream_status ss ≡ map stream_status (map bare ss)
  bare_status [] = refl
  bare_status (s ∷ ss) = ap (λ (rest : List StreamStatus). stream_status s ∷ rest) (bare_status ss)

  streams_stated : map stream_status m.streams ≡ map stream_status n.streams
  streams_stated = bare_status m.streams ∙ ap (λ (ss : List Stream). map stream_status ss) h.streams ∙ sym (bare_status n.streams)

-- COMMANDS IN TURN
pub go_on_alike : (m n : Machine) → AlikeMachines m n → (steps : List (Command × Reply)) (last : Machine) → GoesOn m steps last → GoOnAlike n steps last
go_on_alike m n h [] last e =
    let a : AlikeMachines last n = subst (λ z. AlikeMachines z n) (sym e) h in
    record { other = n; goes_on = refl; alike = a; answers = drains_same last n a }
go_on_alike m n h (s ∷ steps) last e =
    let one = (steps_alike m n h s.0 s.1).steps e.0 e.1.0 in
    let more : GoOnAlike one.0 steps last = go_on_alike e.0 one.0 one.1.1 steps last e.1.1 in
    record { other = more.other; goes_on = (one.0, (one.1.0, more.goes_on)); alike = more.alike; answers = more.answers }

-- WHAT EACH OPERATOR of a query does, and its slope, go by the query without its answers
slopes_unless : (q : Registered) (b : Bool) → slopes_in (cond b None (Some q)) ≡ slopes_in (cond b None (Some (bare_query q)))
unfolding operators_of
slopes_unless q true = refl
slopes_unless q false = refl

bare_slopes : (o : Option Registered) → slopes_in (option_and_then unless_dropped o) ≡ slopes_in (option_and_then unless_dropped (option_map bare_query o))
bare_slopes None = refl
bare_slopes (Some q) = slopes_unless q q.is_dropped

slopes_option : (o p : Option Registered) → option_map bare_query o ≡ option_map bare_query p → slopes_in (option_and_then unless_dropped o) ≡ slopes_in (option_and_then unless_dropped p)
slopes_option o p e = bare_slopes o ∙ ap (λ z. slopes_in (option_and_then unless_dropped z)) e ∙ sym (bare_slopes p)

-- THE WORLDS
module _ (w v : World) (h : Alike w v) where
  partly : PartlyAlike each_passes w.machine v.machine
  partly = part w.machine v.machine h.machines

  -- of a command that leaves what waits, or adds to it
  alike_after : (c : Command) (count : ℕ) → first_fault w.machine c ≡ None → (xs ys : List (List (ℕ × Row))) → xs ≡ ys → (is js : List ℕ) → is ≡ js
      → Alike (record { machine = after w.machine c count; waiting = xs; upto = is }) (record { machine = after v.machine c count; waiting = ys; upto = js })
  alike_after c count e xs ys same is js also = record { machines = commands_alike w.machine v.machine h.machines c count e; waiting = same; upto = also }

  declares : (name : List ℕ) (columns : List (List ℕ)) (start : ℤ) → SameStep (declare_step w name columns start) (declare_step v name columns start)
  unfolding declare_step
  declares name columns start =
      let c : Command = Declare name columns start in
      same_step w v h (first_fault w.machine c) (first_fault v.machine c) (faults_same each_passes w.machine v.machine partly c) _ _ _ _
      (λ e. (streams_many each_passes w.machine v.machine partly, alike_after c 0 e w.waiting v.waiting h.waiting w.upto v.upto h.upto))

  registers : (name text : List ℕ) (chart : Option (List (ℤ × ℤ))) → SameStep (register_step w name text chart) (register_step v name text chart)
  unfolding register_step
  registers name text chart =
      let c : Command = Register name text chart in
      same_step w v h (first_fault w.machine c) (first_fault v.machine c) (faults_same each_passes w.machine v.machine partly c) _ _ _ _
      (λ e. (
        queries_many each_passes w.machine v.machine partly,
        alike_after c 0 e (w.waiting ++ [] ∷ []) (v.waiting ++ [] ∷ []) (ap (λ (ws : List (List (ℕ × Row))). ws ++ [] ∷ []) h.waiting)
            (w.upto ++ begins_at w.machine (found w.machine text chart) ∷ []) (v.upto ++ begins_at v.machine (found v.machine text chart) ∷ [])
            (ap₂ (λ (us : List ℕ) (u : ℕ). us ++ u ∷ []) h.upto (begins_alike each_passes w.machine v.machine partly text chart)),
      ))

  appends : (k : ℕ) (rows : List (ℤ × List (Option ℤ))) → SameStep (append_step w k rows) (append_step v k rows)
  unfolding append_step
  appends k rows =
      let c : Command = Append k rows in
      same_step w v h (first_fault w.machine c) (first_fault v.machine c) (faults_same each_passes w.machine v.machine partly c) _ _ _ _
      (λ e. (refl, alike_after c 0 e w.waiting v.waiting h.waiting w.upto v.upto h.upto))

  heartbeats : (k : ℕ) (at : ℤ) → SameStep (heartbeat_step w k at) (heartbeat_step v k at)
  unfolding heartbeat_step
  heartbeats k at =
      let c : Command = Heartbeat k at in
      same_step w v h (first_fault w.machine c) (first_fault v.machine c) (faults_same each_passes w.machine v.machine partly c) _ _ _ _
      (λ e. (refl, alike_after c 0 e w.waiting v.waiting h.waiting w.upto v.upto h.upto))

  drains : (rows : ℕ) → SameStep (drain_step w rows) (drain_step v rows)
  unfolding drain_step
  drains rows =
      same_step w v h (drain_fault rows) (drain_fault rows) refl _ _ _ _
      (λ e. (refl, record { machines = h.machines; waiting = drains_same w.machine v.machine h.machines; upto = ends_all w.machine v.machine h.machines }))

  count_same : (k : ℕ) (limit : ℤ) → min (nat_abs limit) (length (waiting_at w k)) ≡ min (nat_abs limit) (length (waiting_at v k))
  count_same k limit = ap (λ (ws : List (List (ℕ × Row))). min (nat_abs limit) (length (get_or ws k []))) h.waiting

  takes : (k : ℕ) (limit : ℤ) → SameStep (take_step w k limit) (take_step v k limit)
  unfolding take_step
  takes k limit =
      let c : Command = Take k limit in
      let count : ℕ = min (nat_abs limit) (length (waiting_at w k)) in
      let other : ℕ = min (nat_abs limit) (length (waiting_at v k)) in
      same_step w v h (first_fault w.machine c) (first_fault v.machine c) (faults_same each_passes w.machine v.machine partly c) _ _ _ _
      (λ e. (
        ap₂ (λ (n : ℕ) (ws : List (List (ℕ × Row))). handed (take n (get_or ws k []))) (count_same k limit) h.waiting,
        record {
          machines = subst (λ n. AlikeMachines (after w.machine (Take k limit) count) (after v.machine (Take k limit) n)) (count_same k limit) (commands_alike w.machine v.machine h.machines c count e);
          waiting = ap₂ (λ (n : ℕ) (ws : List (List (ℕ × Row))). change k (drop n) ws) (count_same k limit) h.waiting;
          upto = h.upto;
        },
      ))

  drops : (k : ℕ) → SameStep (drop_step w k) (drop_step v k)
  unfolding drop_step
  drops k =
      let c : Command = Drop k in
      same_step w v h (first_fault w.machine c) (first_fault v.machine c) (faults_same each_passes w.machine v.machine partly c) _ _ _ _
      (λ e. (
        refl,
        alike_after c 0 e (change k (λ rows. []) w.waiting) (change k (λ rows. []) v.waiting) (ap (change k (λ rows. [])) h.waiting)
            (change k (λ n. 0) w.upto) (change k (λ n. 0) v.upto) (ap (change k (λ (n : ℕ). 0)) h.upto),
      ))

  peeks : (k : ℕ) (limit : ℤ) → peek_at w k limit ≡ peek_at v k limit
  unfolding peek_at
  peeks k limit = (takes k limit).answer

  says : status_of w ≡ status_of v
  unfolding status_of
  says =
      ap₂ (λ (qs : List QueryStatus) (ss : List StreamStatus). record { queries = qs; streams = ss })
      (queries_stated w.machine v.machine h.machines w.waiting w.upto ∙ ap₂ (λ (ws : List (List (ℕ × Row))) (us : List ℕ). queries_status v.machine.queries ws us) h.waiting h.upto)
      (streams_stated w.machine v.machine h.machines)

  slopes : (k : ℕ) → slopes_at w k ≡ slopes_at v k
  unfolding slopes_at
  slopes k =
      slopes_option (slice_get w.machine.queries k) (slice_get v.machine.queries k)
      (same_get bare_query w.machine.queries v.machine.queries (queries_same each_passes w.machine v.machine partly) k)

  named_stream : (name : List ℕ) → stream_named w name ≡ stream_named v name
  unfolding stream_named
  named_stream name = stream_named_same each_passes w.machine v.machine partly name

  named_query : (name : List ℕ) → query_named w name ≡ query_named v name
  unfolding query_named
  named_query name = query_named_same each_passes w.machine v.machine partly name

  -- a look at the query of a name finds the same one
  seen_alike : (f g : ℕ → Result Seen Fault) → ((k : ℕ) → f k ≡ g k) → (o p : Option ℕ) → o ≡ p → at_query f o ≡ at_query g p
  seen_alike f g same None p e = ap (at_query g) e
  seen_alike f g same (Some k) p e = same k ∙ ap (at_query g) e

  looks : (look : Look) → look_at w look ≡ look_at v look
  looks (peek_rows name limit) =
      seen_alike (λ k. seen_as answers (peek_at w k limit)) (λ k. seen_as answers (peek_at v k limit)) (λ k. ap (seen_as answers) (peeks k limit))
      (query_named w name) (query_named v name) (named_query name)
  looks (show_plan name) =
      seen_alike (λ k. seen_as operators (slopes_at w k)) (λ k. seen_as operators (slopes_at v k)) (λ k. ap (seen_as operators) (slopes k))
      (query_named w name) (query_named v name) (named_query name)
  looks show_status = ap (λ (s : Status). Ok (status s)) says

  pub answer_alike : AnswerAlike w v
  answer_alike = record {
    declare = declares;
    register = registers;
    append = appends;
    heartbeat = heartbeats;
    drain = drains;
    take = takes;
    drop = drops;
    peek = peeks;
    status = says;
    slopes = slopes;
    look = looks;
    streams = named_stream;
    queries = named_query;
  }
