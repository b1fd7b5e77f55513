-- Queries that leave an engine: its code's lists, and those of the plain engine.
use Rattle.std.proofs.Common.{◌≡◌, ◌≢◌, ◌<◌, ℕ, zero, suc, ◌==◌, not, Bool, true, false, cond, Option, Some, None, List, [], ◌∷◌, filter, get_or, length, map, set, refl, sym, ap, ap₂, ◌∙◌, arith, eq-eqb}
use Rattle.std.specs.Prelude.{Ok, Err, slice_get}
use Rattle.std.specs.Option.{option_and_then}
use Rattle.std.proofs.lemmas.List.{length-map}
use Rattle.std.proofs.lemmas.Option.{slice_get_within}
use Rattle.values.specs.Row.{Row}
use Rattle.reference.specs.Commands as machine
use Rattle.reference.specs.Commands.{Drop, after, change, first_fault, of_query}
use Rattle.reference.specs.Machine.{Machine, Registered, Stream, unless_dropped}
use Rattle.reference.specs.Named.{name_of_registered}
use Rattle.reference.specs.World.{Step, World, drop_step, unless}
use Rattle.reference.specs.declared.fault.Fault.{Fault}
use Rattle.run_queue.specs.Changes.{without_query}
use Rattle.run_queue.specs.declared.slots.Slot.{Slot}
use Rattle.laws_engine.specs.Calls.{dropped, of_others}
use Rattle.laws_engine.specs.Engines.{Dropped, Lease, PlainEngine, PlainRemains, answers_in}
use Rattle.laws_engine.specs.Engines.{upto_by, world_of}
use Rattle.laws_engine.specs.Good.{GoodEngine, IsIn}
use Rattle.laws_engine.proofs.SlotLemmas.{in_filter}
use Rattle.laws_engine.proofs.UptoLemmas.{upto_dropped}
use Rattle.leases.specs.Sound.{is_gone}
use Rattle.leases.specs.Views.{engine_of, lease_of, query_of, remains_of}
use Rattle.turn.specs.declared.turns.Turn.{Turn}
use Rattle.leases.specs.declared.remains.Remains.{Remains}
use Rattle.leases.specs.declared.remains.Remains.TheVariants as code
use Rattle.leases.specs.declared.registered.Registration.{Registration}
use Rattle.leases.proofs.OutLemmas.{leases_left}

-- THE QUERY OF A NUMBER that was not dropped
pub record IsThere (qs : List Registered) (n : ℕ) : Type 0 where
  pub query : Registered
  pub registered : slice_get qs n ≡ Some query
  pub undropped : query.is_dropped ≡ false

there_by : (qs : List Registered) (n : ℕ) (o : Option Registered) → slice_get qs n ≡ o → of_query [] (option_and_then unless_dropped o) ≡ None → IsThere qs n
there_by qs n None e h = absurd (cc)
there_by qs n (Some q) e h = by_dropped q.is_dropped refl h where
  by_dropped : (b : Bool) → q.is_dropped ≡ b → of_query [] (cond b None (Some q)) ≡ None → IsThere qs n
  by_dropped true d h = absurd (cc)
  by_dropped false d h = record { query = q; registered = e; undropped = d }

pub there : (m : Machine) (n : ℕ) → first_fault m (Drop n) ≡ None → IsThere m.queries n
there m n h = there_by m.queries n (slice_get m.queries n) refl h

-- so the code has it
pub registered_within : (rs : List Registration) (n : ℕ) → IsThere (map query_of rs) n → n < length rs
registered_within rs n h = let many = length-map rs query_of in omega (arith, many, slice_get_within (map query_of rs) n h.query h.registered)

pub remains_within : (e : PlainEngine) (ks : List Remains) (n : ℕ) → GoodEngine e → e.queries ≡ map remains_of ks → IsThere e.machine.queries n → n < length ks
remains_within e ks n g same h =
    let many = length-map ks remains_of in
    let all : length e.queries ≡ length (map remains_of ks) = ap (λ z. length z) same in
    omega (arith, many, all, g.many, slice_get_within e.machine.queries n h.query h.registered)

-- ITS NAME is free
name_there : (b : Bool) (name : List ℕ) → b ≡ false → cond b None (Some name) ≡ Some name
name_there true name h = absurd (cc)
name_there false name h = refl

pub named_there : (rs : List Registration) (n : ℕ) (d : Registration) → IsThere (map query_of rs) n → slice_get (map name_of_registered (map query_of rs)) n ≡ Some (Some (query_of (get_or rs n d)).name)
named_there [] n d h = let e : None ≡ Some h.query = h.registered in absurd (cc)
named_there (r ∷ rs) zero d h =
    let e : Some (query_of r) ≡ Some h.query = h.registered in
    let same : query_of r ≡ h.query = cc in
    ap Some (name_there r.is_dropped (query_of r).name (ap (λ z. z.is_dropped) same ∙ h.undropped))
named_there (r ∷ rs) (suc n) d h = named_there rs n d (record { query = h.query; registered = h.registered; undropped = h.undropped })

pub names_dropped : (qs : List Registered) (n : ℕ) → set (map name_of_registered qs) n None ≡ map name_of_registered (change n machine.dropped qs)
names_dropped [] n = refl
names_dropped (q ∷ qs) zero = refl
names_dropped (q ∷ qs) (suc n) = ap (λ z. name_of_registered q ∷ z) (names_dropped qs n)

-- THE LISTS of the code
pub registered_dropped : (rs : List Registration) (n : ℕ) (r d : Registration) → query_of r ≡ machine.dropped (query_of (get_or rs n d)) → map query_of (set rs n r) ≡ change n machine.dropped (map query_of rs)
registered_dropped [] n r d h = refl
registered_dropped (x ∷ rs) zero r d h = ap (λ z. z ∷ map query_of rs) h
registered_dropped (x ∷ rs) (suc n) r d h = ap (λ z. query_of x ∷ z) (registered_dropped rs n r d h)

pub remains_dropped : (ks : List Remains) (n : ℕ) → map remains_of (set ks n code.Dropped) ≡ change n (λ remains. Dropped) (map remains_of ks)
remains_dropped [] n = refl
remains_dropped (k ∷ ks) zero = refl
remains_dropped (k ∷ ks) (suc n) = ap (λ z. remains_of k ∷ z) (remains_dropped ks n)

-- NOTHING IS LEFT of just the queries that were dropped
pub gone_at : (qs : List Registered) (ks : List PlainRemains) → map (λ q. q.is_dropped) qs ≡ map is_gone ks → (n : ℕ) (q : Registered) → slice_get qs n ≡ Some q → q.is_dropped ≡ is_gone (get_or ks n Dropped)
gone_at [] ks h n q at = absurd (cc)
gone_at (r ∷ qs) [] h n q at = absurd (cc)
gone_at (r ∷ qs) (k ∷ ks) h zero q at =
    let same : r ≡ q = cc in
    let first : r.is_dropped ≡ is_gone k = cc in
    ap (λ (z : Registered). z.is_dropped) (sym same) ∙ first
gone_at (r ∷ qs) (k ∷ ks) h (suc n) q at = let later : map (λ (z : Registered). z.is_dropped) qs ≡ map is_gone ks = cc in gone_at qs ks later n q at

-- so it stays where one more is
pub gone_dropped : (qs : List Registered) (ks : List PlainRemains) (n : ℕ) → map (λ q. q.is_dropped) qs ≡ map is_gone ks → map (λ q. q.is_dropped) (change n machine.dropped qs) ≡ map is_gone (change n (λ remains. Dropped) ks)
gone_dropped [] [] n h = refl
gone_dropped [] (k ∷ ks) n h = absurd (cc)
gone_dropped (q ∷ qs) [] n h = absurd (cc)
gone_dropped (q ∷ qs) (k ∷ ks) zero h = let later : map (λ z. z.is_dropped) qs ≡ map is_gone ks = cc in ap (λ z. true ∷ z) later
gone_dropped (q ∷ qs) (k ∷ ks) (suc n) h =
    let first : q.is_dropped ≡ is_gone k = cc in
    let later : map (λ z. z.is_dropped) qs ≡ map is_gone ks = cc in
    ap₂ (λ z zs. z ∷ zs) first (gone_dropped qs ks n later)

pub waiting_dropped : (ks : List PlainRemains) (n : ℕ) → map answers_in (change n (λ remains. Dropped) ks) ≡ change n (λ rows. []) (map answers_in ks)
waiting_dropped [] n = refl
waiting_dropped (k ∷ ks) zero = refl
waiting_dropped (k ∷ ks) (suc n) = ap (λ z. answers_in k ∷ z) (waiting_dropped ks n)

-- THE STEP of the machine
abbrev without : PlainEngine → ℕ → World
without e n = record {
  machine = after e.machine (Drop n) 0;
  waiting = change n (λ rows. []) (map answers_in e.queries);
  upto = change n (λ end. 0) (upto_by e.machine.queries e.queries);
}

pub drops : (e : PlainEngine) (n : ℕ) → first_fault e.machine (Drop n) ≡ None → drop_step (world_of e) n ≡ (Ok tt, world_of (dropped e n))
unfolding drop_step
drops e n h =
    let new : List (List (ℕ × Row)) → List ℕ → Step (Unit {0}) = λ z u. (Ok tt, record { machine = after e.machine (Drop n) 0; waiting = z; upto = u }) in
    ap (λ z. unless z (world_of e) tt (without e n)) h ∙ ap₂ new (sym (waiting_dropped e.queries n)) (sym (upto_dropped n e.machine.queries e.queries))

pub refused : (e : PlainEngine) (n : ℕ) (f : Fault) → first_fault e.machine (Drop n) ≡ Some f → drop_step (world_of e) n ≡ (Err f, world_of e)
unfolding drop_step
refused e n f h = ap (λ z. unless z (world_of e) tt (without e n)) h

-- THE ENGINE of the code's lists
module _ (streams : List Stream) (rs : List Registration) (ks : List Remains) (gs gs2 : List Turn) (next : ℕ) (slots slots2 : List Slot) (n : ℕ)
    (turns : gs2 ≡ filter (λ g. not (g.node.query == n)) gs) (told : slots2 ≡ without_query n slots) where
  turns_are : map lease_of gs2 ≡ of_others n (map lease_of gs)
  turns_are = ap (λ z. map lease_of z) turns ∙ leases_left (λ l. not (l.query == n)) gs

  pub is_dropped : (r d : Registration) → query_of r ≡ machine.dropped (query_of (get_or rs n d)) → engine_of streams (set rs n r) (set ks n code.Dropped) gs2 next slots2 ≡ dropped (engine_of streams rs ks gs next slots) n
  is_dropped r d h =
      let qs : List Registered = change n machine.dropped (map query_of rs) in
      let left : List PlainRemains = change n (λ remains. Dropped) (map remains_of ks) in
      let one : List Registered → PlainEngine = λ z. record { machine = record { streams = streams; queries = z }; queries = map remains_of (set ks n code.Dropped); leases = map lease_of gs2; next = next; slots = slots2 } in
      let two : List PlainRemains → PlainEngine = λ z. record { machine = record { streams = streams; queries = qs }; queries = z; leases = map lease_of gs2; next = next; slots = slots2 } in
      let three : List Lease → PlainEngine = λ z. record { machine = record { streams = streams; queries = qs }; queries = left; leases = z; next = next; slots = slots2 } in
      let four : List Slot → PlainEngine = λ z. record { machine = record { streams = streams; queries = qs }; queries = left; leases = of_others n (map lease_of gs); next = next; slots = z } in
      ap one (registered_dropped rs n r d h) ∙ ap two (remains_dropped ks n) ∙ ap three turns_are ∙ ap four told

-- THE TURNS of other queries that are out
pub another : (n : ℕ) (gs : List Turn) (g : Turn) → IsIn (filter (λ z. not (z.node.query == n)) gs) g → g.node.query ≢ n
another n gs g i e =
    let f = in_filter (λ (z : Turn). not (z.node.query == n)) gs g i in
    let t : (g.node.query == n) ≡ true = eq-eqb g.node.query n e in
    let bad : false ≡ true = ap not (sym t) ∙ f.1 in
    absurd (cc)
