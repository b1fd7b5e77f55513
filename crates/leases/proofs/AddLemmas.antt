-- A query that is added to an engine: what was asked of it before, and what the engine knows of itself afterwards.
use Rattle.std.proofs.Common.{◌≡◌, ◌≢◌, ℕ, ◌+◌, ◌<◌, ◌++◌, inl, inr, Bool, false, ◌==◌, cond, Some, None, List, [], ◌∷◌, map, position, length, refl, sym, ap, ap₂, ◌∙◌, subst, arith}
use Rattle.std.proofs.lemmas.Bool.{ne_eqb}
use Rattle.std.proofs.lemmas.List.{map-append, length-map}
use Rattle.std.proofs.lemmas.Option.{slice_get_within}
use Rattle.envelope.specs.Fraction.{Fraction}
use Rattle.name_table.specs.Names.{bears}
use Rattle.names.specs.Faults.{first_of}
use Rattle.plan.specs.Paths.{plan_slopes}
use Rattle.reference.specs.Commands.{register_tests}
use Rattle.reference.specs.Machine.{Machine, Registered, Stream}
use Rattle.reference.specs.Named.{name_of_registered}
use Rattle.reference.proofs.NamedLemmas.{registered-place, registered_new}
use Rattle.laws_queries.specs.Plain.{PlainQuery, node_at}
use Rattle.laws_queries.specs.Registrations.{HaveColumnNames}
use Rattle.laws_engine.specs.Bounds.{HaveFewClosed}
use Rattle.laws_engine.proofs.InstantLemmas.{registered_closed}
use Rattle.run_queue.specs.Changes.{without_query}
use Rattle.run_queue.specs.declared.slots.Slot.{Slot}
use Rattle.laws_engine.specs.Calls.{registered, with_query}
use Rattle.laws_engine.specs.Engines.{Lease, PlainEngine, PlainRemains, Running, query_at}
use Rattle.laws_engine.specs.Engines.{remains_at}
use Rattle.laws_engine.specs.Good.{GoodEngine, IsIn}
use Rattle.laws_engine.proofs.AskLemmas.{may_ask}
use Rattle.laws_engine.proofs.PromiseLemmas.{is_slot}
use Rattle.laws_engine.proofs.RegisteredLemmas.{more_here, remains_before, remains_more}
use Rattle.leases.specs.Readers.{HasSource, readers_of, windows_from}
use Rattle.leases.proofs.ListedLemmas.{readers_added}
use Rattle.leases.specs.Registering.{IsNewQuery, with_first}
use Rattle.leases.specs.Shown.{engine_in}
use Rattle.leases.specs.Sound.{IsSound, is_gone}
use Rattle.leases.specs.Undropped.{UndroppedQueries, limits_in, undropped_of}
use Rattle.leases.proofs.LimitLemmas.{kept, limits_more}
use Rattle.leases.specs.Views.{HasKind, engine_of, lease_of, query_of, remains_of}
use Rattle.turn.specs.declared.turns.Turn.{Turn}
use Rattle.leases.specs.declared.remains.Remains.{Remains}
use Rattle.leases.specs.declared.remains.Remains.TheVariants as code
use Rattle.leases.specs.declared.registered.Registration.{Registration}
use Rattle.leases.specs.declared.state.EngineState.{EngineState}
use Rattle.leases.proofs.LookLemmas.{many_slopes}
use Rattle.leases.proofs.ReaderLemmas.{has_source}
use Rattle.leases.proofs.RegisterLemmas.{all_put, new_slot_is}

-- WHAT STANDS ALREADY is of other queries
in_map : {X Y : Type 0} (f : X → Y) (xs : List X) (x : X) → IsIn xs x → IsIn (map f xs) (f x)
in_map f [] x i = i
in_map f (y ∷ xs) x (inl e) = inl (ap f e)
in_map f (y ∷ xs) x (inr i) = inr (in_map f xs x i)

old_lease : (e : PlainEngine) → GoodEngine e → (l : Lease) → IsIn e.leases l → l.query < length e.machine.queries
old_lease e g l i = slice_get_within e.machine.queries l.query (g.leases l i).query (g.leases l i).registered

old_slot : (e : PlainEngine) → GoodEngine e → (s : Slot) → IsIn e.slots s → s.query < length e.machine.queries
old_slot e g s i = let is = is_slot e s.query s.operator s (g.slots.only s i) in slice_get_within e.machine.queries s.query is.query is.registered

all_stay : (n : ℕ) (slots : List Slot) → ((s : Slot) → IsIn slots s → s.query ≢ n) → without_query n slots ≡ slots
all_stay n [] others = refl
all_stay n (s ∷ slots) others =
    let other : (s.query == n) ≡ false = ne_eqb s.query n (others s (inl refl)) in
    rw other (ap (λ l. s ∷ l) (all_stay n slots (λ t i. others t (inr i))))

pub none_there : (e : PlainEngine) → GoodEngine e → without_query (length e.machine.queries) e.slots ≡ e.slots
none_there e g = all_stay (length e.machine.queries) e.slots (λ s i same. let l = old_slot e g s i in omega (arith, l, same))

-- THE OPERATORS of the new query are there, and have their slots
module _ (e : PlainEngine) (q : Registered) (p : PlainQuery) (slopes : List Fraction) (many : length e.queries ≡ length e.machine.queries) (good : GoodEngine (registered e q p)) (sloped : slopes ≡ plan_slopes q.nodes q.measures) where
  n : ℕ
  n = length e.machine.queries

  here : query_at (registered e q p) (length e.machine.queries) ≡ Some q
  here = more_here e.machine.queries q

  runs : remains_at (registered e q p) (length e.machine.queries) ≡ Running p
  runs = ap (remains_at (registered e q p)) (sym many) ∙ remains_more e.queries (Running p)

  all_sloped : length slopes ≡ length q.nodes
  all_sloped = ap (λ (ss : List Fraction). length ss) sloped ∙ many_slopes q.nodes q.measures

  pub new_operators : IsNewQuery e.machine.streams p slopes
  new_operators = record { operators = λ k l. (may_ask (registered e q p) good).operators (length e.machine.queries) k q p (record { registered = here; running = runs; within = omega (arith, l, all_sloped) }) }

  pub new_sources : (k : ℕ) → k < length q.nodes → HasSource q (node_at q k)
  new_sources k within = has_source (registered e q p) good (length e.machine.queries) k q p here runs within

  pub slots_are : (old : GoodEngine e) → with_first e.machine.streams p slopes (length e.machine.queries) (length slopes) e.slots ≡ (registered e q p).slots
  slots_are old =
      let put = all_put (with_query e q p) (length e.machine.queries) q p slopes 0 q.nodes e.slots
      (λ j l. new_slot_is (with_query e q p) (length e.machine.queries) q p slopes j sloped (λ a i same. let b = old_lease e old a i in omega (arith, b, same))
      ((may_ask (registered e q p) good).logs (length e.machine.queries) j q p (record { registered = here; running = runs; within = omega (arith, l) }))) in
      let none_before : length q.nodes ≡ 0 + length q.nodes = omega arith in
      ap (λ c. with_first e.machine.streams p slopes (length e.machine.queries) c e.slots) (all_sloped ∙ none_before) ∙ sym put

-- ITS NAME is free
pub free_name : (m : Machine) (name : List ℕ) → first_of (register_tests m name) ≡ None → position (bears name) (map name_of_registered m.queries) ≡ None
free_name m name h = registered-place name m.queries ∙ registered_new m name h

-- THE ENGINE AFTERWARDS
abbrev columns_in : PlainEngine → Type 0
columns_in e = HaveColumnNames e.machine

abbrev closed_in : PlainEngine → Type 0
closed_in e = HaveFewClosed e.machine

-- where nothing changed
pub sound_still : (s t : EngineState) → t.streams ≡ s.streams → t.undropped ≡ s.undropped → t.registered.items ≡ s.registered.items → t.remains.items ≡ s.remains.items → t.leases.items ≡ s.leases.items → t.next ≡ s.next → t.slots ≡ s.slots → t.readers ≡ s.readers → IsSound s → IsSound t
sound_still s t streams undropped queries remains leases next slots readers h =
    let same : engine_in t ≡ engine_in s = rw (streams, queries, remains, leases, next, slots) refl in
    record {
      good = subst GoodEngine (sym same) h.good;
      kinds = λ g i. subst (λ e. HasKind e g) (sym same) (h.kinds g (subst (λ l. IsIn l g) leases i));
      few = rw leases h.few;
      numbers = rw next h.numbers;
      named = undropped ∙ h.named ∙ ap (λ (e : PlainEngine). undropped_of e.machine.queries) (sym same);
      gone = subst (λ (e : PlainEngine). map (λ q. q.is_dropped) e.machine.queries ≡ map is_gone e.queries) (sym same) h.gone;
      columns = subst columns_in (sym same) h.columns;
      closed = subst closed_in (sym same) h.closed;
      readers = readers ∙ h.readers ∙ ap readers_of (sym same);
    }

-- where the query was added
pub sound_with : (s t : EngineState) (q : Registered) (p : PlainQuery) → IsSound s → GoodEngine (registered (engine_in s) q p) → q.is_dropped ≡ false → q.earlier ≡ [] → engine_in t ≡ registered (engine_in s) q p → t.leases.items ≡ s.leases.items → t.next ≡ s.next
    → t.undropped ≡ kept (s.undropped.names ++ Some q.name ∷ []) (s.undropped.limits ++ limits_in (length (engine_in s).machine.queries) q) → t.readers ≡ s.readers ++ windows_from q (length (engine_in s).machine.queries) 0 q.nodes → IsSound t
sound_with s t q p h good live none_earlier same leases next undropped readers =
    let e = engine_in s in
    record {
      good = subst GoodEngine (sym same) good;
      kinds = λ g i. let j : IsIn s.leases.items g = subst (λ l. IsIn l g) leases i in
          let b : g.node.query < length e.machine.queries = old_lease e h.good (lease_of g) (in_map lease_of s.leases.items g j) in
          let before : remains_at (registered e q p) g.node.query ≡ remains_at e g.node.query = remains_before e.queries (Running p ∷ []) g.node.query (omega (arith, b, h.good.many)) in
          subst (λ (f : PlainEngine). HasKind f g) (sym same) (λ r k. h.kinds g j r (sym before ∙ k));
      few = rw leases h.few;
      numbers = rw next h.numbers;
      named = undropped ∙ ap (λ (u : UndroppedQueries). kept (u.names ++ Some q.name ∷ []) (u.limits ++ limits_in (length e.machine.queries) q)) h.named
          ∙ ap₂ kept (named_more e.machine.queries) (limits_more 0 (length e.machine.queries) e.machine.queries q (omega arith)) ∙ ap (λ (f : PlainEngine). undropped_of f.machine.queries) (sym same);
      gone = subst (λ (f : PlainEngine). map (λ r. r.is_dropped) f.machine.queries ≡ map is_gone f.queries) (sym same) (gone_more e.machine.queries e.queries h.gone);
      columns = subst columns_in (sym same) h.columns;
      closed = subst closed_in (sym same) (registered_closed e.machine q none_earlier h.closed);
      readers = readers ∙ ap (λ rs. rs ++ windows_from q (length e.machine.queries) 0 q.nodes) h.readers
          ∙ sym (readers_added 0 (length e.machine.queries) e.machine.queries e.queries q p (omega arith) (omega (arith, h.good.many))) ∙ ap readers_of (sym same);
    }
  where
    named_more : (qs : List Registered) → map name_of_registered qs ++ Some q.name ∷ [] ≡ map name_of_registered (qs ++ q ∷ [])
    named_more qs = ap (λ (b : Bool). map name_of_registered qs ++ cond b None (Some q.name) ∷ []) (sym live) ∙ sym (map-append name_of_registered qs (q ∷ []))

    gone_more : (qs : List Registered) (ks : List PlainRemains) → map (λ r. r.is_dropped) qs ≡ map is_gone ks → map (λ (r : Registered). r.is_dropped) (qs ++ q ∷ []) ≡ map is_gone (ks ++ Running p ∷ [])
    gone_more qs ks g = map-append (λ (r : Registered). r.is_dropped) qs (q ∷ []) ∙ ap (λ l. l ++ q.is_dropped ∷ []) g ∙ ap (λ b. map is_gone ks ++ b ∷ []) live ∙ sym (map-append is_gone ks (Running p ∷ []))

pub engine_with : (streams : List Stream) (rs rs2 : List Registration) (ks ks2 : List Remains) (gs : List Turn) (next : ℕ) (slots slots2 : List Slot) (told : Registration) (p : PlainQuery) → rs2 ≡ rs ++ told ∷ [] → ks2 ≡ ks ++ code.Running p ∷ []
    → slots2 ≡ (registered (engine_of streams rs ks gs next slots) (query_of told) p).slots → engine_of streams rs2 ks2 gs next slots2 ≡ registered (engine_of streams rs ks gs next slots) (query_of told) p
engine_with streams rs rs2 ks ks2 gs next slots slots2 told p queries remains put =
    let q : map query_of rs2 ≡ map query_of rs ++ query_of told ∷ [] = ap (map query_of) queries ∙ map-append query_of rs (told ∷ []) in
    let k : map remains_of ks2 ≡ map remains_of ks ++ Running p ∷ [] = ap (map remains_of) remains ∙ map-append remains_of ks (code.Running p ∷ []) in
    rw (q, k, put) refl

pub many_told : (rs : List Registration) → length (map query_of rs) ≡ length rs
many_told rs = length-map rs query_of

pub engine_still : (streams : List Stream) (rs rs2 : List Registration) (ks ks2 : List Remains) (gs : List Turn) (next : ℕ) (slots slots2 : List Slot) → rs2 ≡ rs → ks2 ≡ ks → slots2 ≡ slots
    → engine_of streams rs2 ks2 gs next slots2 ≡ engine_of streams rs ks gs next slots
engine_still streams rs rs2 ks ks2 gs next slots slots2 queries remains same = rw (queries, remains, same) refl
