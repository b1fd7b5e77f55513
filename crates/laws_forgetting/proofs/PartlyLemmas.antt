-- Partly alike machines take the same steps, and go on alike.
use Rattle.std.proofs.Common.{◌≡◌, ℕ, ℤ, zero, suc, Bool, true, false, cond, Option, Some, None, unwrap_or, List, [], ◌∷◌, take, length, refl, sym, ap, ◌∙◌, subst, arith, true≢false}
use Rattle.std.specs.Prelude.{slice_get, option_and_then}
use Rattle.values.specs.Row.{Row}
use Rattle.reference.specs.Machine.{Machine, Registered, query_at, unless_dropped}
use Rattle.reference.specs.Commands.{Command, Declare, Register, Append, Heartbeat, Take, Drop, after}
use Rattle.reference.specs.Replies.{Reply, Number, Done, Rows, count_in}
use Rattle.reference.specs.Steps.{AreNext, Gives, IsStep}
use Rattle.reference.specs.World.{handed}
use Rattle.reference.specs.Alike.{AlikeMachines, AreAlike}
use Rattle.laws_forgetting.specs.Answers.{GoesOn}
use Rattle.laws_forgetting.specs.Partly.{AlikeIf, AreAnsweredAlike, ArePartlyAlike, EndPartlyAlike, GoOnPartlyAlike, PartlyAlike, StepPartlyAlike, is_compared}
use Rattle.laws_forgetting.proofs.CommandLemmas.{closed_same, commands_partly, untaken_same}
use Rattle.laws_forgetting.proofs.FaultLemmas.{faults_same, queries_many, streams_many}

-- A QUERY THAT IS FOUND, and the one that is found in its place
record Pair (m n : Machine) (passes : Bool) (q : Registered) (o : Option Registered) : Type 0 where
  other : Registered
  there : o ≡ Some other
  alike : AlikeIf passes m n q other
  undropped : q.is_dropped ≡ false

pair : (passes : ℕ → Bool) (m n : Machine) (qs rs : List Registered) → ArePartlyAlike passes m n qs rs → (k : ℕ) (q : Registered) → option_and_then unless_dropped (slice_get qs k) ≡ Some q
    → Pair m n (passes k) q (option_and_then unless_dropped (slice_get rs k))
pair passes m n [] rs h k q e = absurd (cc)
pair passes m n (p ∷ qs) [] h k q e = absurd h
pair passes m n (p ∷ qs) (r ∷ rs) h zero q e = here p.is_dropped refl e
  where
    here : (b : Bool) → p.is_dropped ≡ b → cond b None (Some p) ≡ Some q → Pair m n (passes 0) q (cond r.is_dropped None (Some r))
    here true i j = absurd (cc)
    here false i j =
        let same : p ≡ q = ap (λ o. unwrap_or o p) j in
        let lives : r.is_dropped ≡ false = sym (ap (λ (z : Registered). z.is_dropped) h.0.bare) ∙ i in
        record {
          other = r;
          there = ap (λ b. cond b None (Some r)) lives;
          alike = subst (λ z. AlikeIf (passes 0) m n z r) same h.0;
          undropped = sym (ap (λ (z : Registered). z.is_dropped) same) ∙ i;
        }
pair passes m n (p ∷ qs) (r ∷ rs) h (suc k) q e = pair (λ j. passes (suc j)) m n qs rs h.1 k q e

-- with their numbers
numbered : (passes : ℕ → Bool) (m n : Machine) (qs rs : List Registered) → ArePartlyAlike passes m n qs rs → (k : ℕ) (q r : Registered) → slice_get qs k ≡ Some q → slice_get rs k ≡ Some r → AlikeIf (passes k) m n q r
numbered passes m n [] rs h k q r i j = absurd (cc)
numbered passes m n (p ∷ qs) [] h k q r i j = absurd h
numbered passes m n (p ∷ qs) (s ∷ rs) h zero q r i j = subst (λ z. AlikeIf (passes 0) m n z r) (ap (λ o. unwrap_or o p) i) (subst (λ z. AlikeIf (passes 0) m n p z) (ap (λ o. unwrap_or o s) j) h.0)
numbered passes m n (p ∷ qs) (s ∷ rs) h (suc k) q r i j = numbered (λ l. passes (suc l)) m n qs rs h.1 k q r i j

-- where fewer pass
fewer_pass : (some passes : ℕ → Bool) (m n : Machine) → ((k : ℕ) → some k ≡ true → passes k ≡ true) → (qs rs : List Registered) → ArePartlyAlike passes m n qs rs → ArePartlyAlike some m n qs rs
fewer_pass some passes m n f [] [] h = tt
fewer_pass some passes m n f [] (r ∷ rs) h = absurd h
fewer_pass some passes m n f (q ∷ qs) [] h = absurd h
fewer_pass some passes m n f (q ∷ qs) (r ∷ rs) h =
    (record { bare = h.0.bare; alike = λ p. h.0.alike (f 0 p) }, fewer_pass (λ k. some (suc k)) (λ k. passes (suc k)) m n (λ k p. f (suc k) p) qs rs h.1)

pub alike_of_fewer : (some passes : ℕ → Bool) (m n : Machine) → ((k : ℕ) → some k ≡ true → passes k ≡ true) → PartlyAlike passes m n → PartlyAlike some m n
alike_of_fewer some passes m n f h = record { streams = h.streams; queries = fewer_pass some passes m n f m.queries n.queries h.queries }

-- THE STEPS
module _ (passes : ℕ → Bool) (m n : Machine) (h : PartlyAlike passes m n) where
  nexts_same : (k : ℕ) (limit : ℤ) (rows : List (ℤ × Row)) → passes k ≡ true → AreNext m k limit rows → AreNext n k limit rows
  nexts_same k limit rows i a =
      let p : Pair m n (passes k) a.query (query_at n k) = pair passes m n m.queries n.queries h.queries k a.query a.registered in
      record {
        query = p.other;
        registered = p.there;
        few = a.few;
        next = a.next ∙ ap (λ (l : List (ℕ × Row)). handed (take (length rows) l)) (closed_same passes m n h a.query p.other (p.alike.alike i) p.undropped);
      }

  -- a query that does not pass may give none
  nexts_none : (k : ℕ) (limit : ℤ) (rows : List (ℤ × Row)) → AreNext m k limit rows → AreNext n k limit []
  nexts_none k limit rows a =
      let p : Pair m n (passes k) a.query (query_at n k) = pair passes m n m.queries n.queries h.queries k a.query a.registered in
      record { query = p.other; registered = p.there; few = omega arith; next = refl }

  abbrev Replies : Command → Reply → Type 0
  Replies c r = (s : Reply) × (Gives n c s × (is_compared passes c ≡ true → r ≡ s))

  replies : (c : Command) (r : Reply) → Gives m c r → Replies c r
  replies (Declare name columns start) (Number k) g = (Number k, (g ∙ streams_many passes m n h, λ i. refl))
  replies (Declare name columns start) Done g = absurd g
  replies (Declare name columns start) (Rows rows) g = absurd g
  replies (Register name text chart) (Number k) g = (Number k, (g ∙ queries_many passes m n h, λ i. refl))
  replies (Register name text chart) Done g = absurd g
  replies (Register name text chart) (Rows rows) g = absurd g
  replies (Append k rows) (Number j) g = absurd g
  replies (Append k rows) Done g = (Done, (g, λ i. refl))
  replies (Append k rows) (Rows out) g = absurd g
  replies (Heartbeat k at) (Number j) g = absurd g
  replies (Heartbeat k at) Done g = (Done, (g, λ i. refl))
  replies (Heartbeat k at) (Rows rows) g = absurd g
  replies (Take k limit) (Number j) g = absurd g
  replies (Take k limit) Done g = absurd g
  replies (Take k limit) (Rows rows) g = here (passes k) refl
    where
      here : (b : Bool) → passes k ≡ b → Replies (Take k limit) (Rows rows)
      here true i = (Rows rows, (nexts_same k limit rows i g, λ j. refl))
      here false i = (Rows [], (nexts_none k limit rows g, λ j. absurd (true≢false (sym j ∙ i))))
  replies (Drop k) (Number j) g = absurd g
  replies (Drop k) Done g = (Done, (g, λ i. refl))
  replies (Drop k) (Rows rows) g = absurd g

  pub steps_partly : (c : Command) (r : Reply) → StepPartlyAlike passes m n c r
  steps_partly c r = record {
    faults = faults_same passes m n h c;
    steps = λ m2 t.
        let a : Replies c r = replies c r t.gives in
        (a.0, (after n c (count_in a.0), (record { accepted = sym (faults_same passes m n h c) ∙ t.accepted; gives = a.1.0; after = refl }, a.1.1)));
    alike = λ m2 n2 s t u i.
        subst (λ z. PartlyAlike passes z n2) (sym t.after)
        (subst (PartlyAlike passes (after m c (count_in r))) (sym u.after) (commands_partly passes m n h c (count_in r) (count_in s) t.accepted (λ j. ap count_in (i j))));
  }

  pub ends_partly : EndPartlyAlike passes m n
  ends_partly = record {
    alike = h;
    faults = faults_same passes m n h;
    many = queries_many passes m n h;
    answers = λ k q r i j p. untaken_same passes m n h q r ((numbered passes m n m.queries n.queries h.queries k q r i j).alike p);
  }

-- COMMANDS IN TURN
module _ (passes : ℕ → Bool) where
  -- the second machine goes on, too
  record Runs (n : Machine) (steps : List (Command × Reply)) : Type 0 where
    others : List (Command × Reply)
    answered : AreAnsweredAlike passes steps others
    other : Machine
    goes_on : GoesOn n others other

  runs : (m n : Machine) → PartlyAlike passes m n → (steps : List (Command × Reply)) (last : Machine) → GoesOn m steps last → Runs n steps
  runs m n h [] last e = record { others = []; answered = tt; other = n; goes_on = refl }
  runs m n h (s ∷ steps) last e =
      let all : StepPartlyAlike passes m n s.0 s.1 = steps_partly passes m n h s.0 s.1 in
      let one = all.steps e.0 e.1.0 in
      let more : Runs one.1.0 steps = runs e.0 one.1.0 (all.alike e.0 one.1.0 one.0 e.1.0 one.1.1.0 one.1.1.1) steps last e.1.1 in
      record { others = (s.0, one.0) ∷ more.others; answered = ((refl, one.1.1.1), more.answered); other = more.other; goes_on = (one.1.0, (one.1.1.0, more.goes_on)) }

  -- and wherever it comes to, it is partly alike
  ends : (m n : Machine) → PartlyAlike passes m n → (steps : List (Command × Reply)) (last : Machine) → GoesOn m steps last → (others : List (Command × Reply)) (z : Machine) → AreAnsweredAlike passes steps others → GoesOn n others z
      → PartlyAlike passes last z
  ends m n h [] last e [] z a f = subst (λ x. PartlyAlike passes x z) (sym e) (subst (PartlyAlike passes m) (sym f) h)
  ends m n h [] last e (t ∷ others) z a f = absurd a
  ends m n h (s ∷ steps) last e [] z a f = absurd a
  ends m n h (s ∷ steps) last e (t ∷ others) z a f =
      let step : IsStep n s.0 t.1 f.0 = subst (λ c. IsStep n c t.1 f.0) (sym a.0.0) f.1.0 in
      ends e.0 f.0 ((steps_partly passes m n h s.0 s.1).alike e.0 f.0 t.1 e.1.0 step a.0.1) steps last e.1.1 others z a.1 f.1.1

  pub go_on_partly : (m n : Machine) → PartlyAlike passes m n → (steps : List (Command × Reply)) (last : Machine) → GoesOn m steps last → GoOnPartlyAlike passes n steps last
  go_on_partly m n h steps last e =
      let run : Runs n steps = runs m n h steps last e in
      record {
        others = run.others;
        answered = run.answered;
        other = run.other;
        goes_on = run.goes_on;
        end = λ ts z a f. ends_partly passes last z (ends m n h steps last e ts z a f);
      }

-- ALIKE MACHINES are partly alike where all pass
abbrev pub each_passes : ℕ → Bool
each_passes k = true

parts : (m n : Machine) (qs rs : List Registered) → AreAlike m n qs rs → ArePartlyAlike each_passes m n qs rs
parts m n [] [] h = tt
parts m n [] (r ∷ rs) h = absurd h
parts m n (q ∷ qs) [] h = absurd h
parts m n (q ∷ qs) (r ∷ rs) h = (record { bare = h.0.bare; alike = λ p. h.0 }, parts m n qs rs h.1)

pub part : (m n : Machine) → AlikeMachines m n → PartlyAlike each_passes m n
part m n h = record { streams = h.streams; queries = parts m n m.queries n.queries h.queries }

wholes : (m n : Machine) (qs rs : List Registered) → ArePartlyAlike each_passes m n qs rs → AreAlike m n qs rs
wholes m n [] [] h = tt
wholes m n [] (r ∷ rs) h = absurd h
wholes m n (q ∷ qs) [] h = absurd h
wholes m n (q ∷ qs) (r ∷ rs) h = (h.0.alike refl, wholes m n qs rs h.1)

pub whole : (m n : Machine) → PartlyAlike each_passes m n → AlikeMachines m n
whole m n h = record { streams = h.streams; queries = wholes m n m.queries n.queries h.queries }

pub all_compared : (c : Command) → is_compared each_passes c ≡ true
all_compared (Declare name columns start) = refl
all_compared (Register name source given) = refl
all_compared (Append k rows) = refl
all_compared (Heartbeat k at) = refl
all_compared (Take k limit) = refl
all_compared (Drop k) = refl
