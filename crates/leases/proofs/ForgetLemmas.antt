-- What an engine knows of itself when it has forgotten.
use Rattle.std.proofs.Common.{◌≡◌, ◌≤◌, ℕ, suc, ◌++◌, Bool, cond, Option, List, [], ◌∷◌, map, length, refl, sym, ap, ap₂, ◌∙◌, subst}
use Rattle.std.specs.List.{AllByRecursion}
use Rattle.std.specs.Option.{option_to_list}
use Rattle.values.specs.Row.{Row}
use Rattle.values.specs.Window.{Element}
use Rattle.plan.specs.Nodes as plan
use Rattle.plan.specs.Nodes.{Window, Select, Join, Project, Group, Distinct, ToStream}
use Rattle.reference.specs.Machine.{Registered, Stream}
use Rattle.reference.specs.Named.{name_of_registered}
use Rattle.reference.specs.Opening.{all_restarted, needs_by, restart, with_kept}
use Rattle.laws_queries.specs.Registrations.{HasColumnNames, HaveColumnNames}
use Rattle.laws_engine.specs.Bounds.{HaveFewClosed}
use Rattle.laws_engine.specs.Engines.{PlainEngine, answers_in}
use Rattle.laws_engine.specs.Good.{GoodEngine, IsIn}
use Rattle.laws_engine.specs.Openings.{forgotten, marks_by}
use Rattle.laws_engine.proofs.FewLemmas.{forgotten_few}
use Rattle.laws_engine.proofs.ForgottenLemmas.{forgotten_good}
use Rattle.leases.specs.Forgets.{earlier_in, needs_in, restarted_by}
use Rattle.leases.specs.Readers.{reader_in, readers_from, readers_of, runs, windows_from}
use Rattle.leases.specs.Shown.{engine_in}
use Rattle.leases.specs.Sound.{IsSound, is_gone}
use Rattle.leases.specs.Undropped.{limits_from, limits_in, undropped_of}
use Rattle.leases.specs.Views.{HasKind, engine_of, query_of}
use Rattle.leases.specs.declared.limits.TheConstants.{LEASE_NUMBERS, MAX_LEASES}
use Rattle.leases.specs.declared.registered.Registration.{Registration}
use Rattle.leases.specs.declared.state.EngineState.{EngineState}
use Rattle.leases.proofs.DropLemmas.{gone_at}
use Rattle.leases.proofs.LimitLemmas.{kept}

-- WHAT A RESTART LEAVES of a query: its name, whether it was dropped, its limits and its windows
windows_left : (q : Registered) (m : Option ℕ) (w : List (ℕ × Row)) (n k : ℕ) (nodes : List plan.Node) → windows_from (restart q m w) n k nodes ≡ windows_from q n k nodes
windows_left q m w n k [] = refl
windows_left q m w n k (node ∷ nodes) = ap₂ (λ r rs. option_to_list r ++ rs) (one node) (windows_left q m w n (suc k) nodes)
  where
    one : (x : plan.Node) → reader_in (restart q m w) n k x ≡ reader_in q n k x
    one (Window j) = refl
    one (Select i cs) = refl
    one (Join i j ks) = refl
    one (Project i columns) = refl
    one (Group i by items) = refl
    one (Distinct i) = refl
    one (ToStream i op) = refl

names_left : (qs : List Registered) (ms : List (Option ℕ)) (ws : List (List (ℕ × Row))) → map name_of_registered (all_restarted qs ms ws) ≡ map name_of_registered qs
names_left [] ms ws = refl
names_left (q ∷ qs) [] ws = refl
names_left (q ∷ qs) (m ∷ ms) [] = refl
names_left (q ∷ qs) (m ∷ ms) (w ∷ ws) = ap (λ l. name_of_registered q ∷ l) (names_left qs ms ws)

limits_left : (k : ℕ) (qs : List Registered) (ms : List (Option ℕ)) (ws : List (List (ℕ × Row))) → limits_from k (all_restarted qs ms ws) ≡ limits_from k qs
limits_left k [] ms ws = refl
limits_left k (q ∷ qs) [] ws = refl
limits_left k (q ∷ qs) (m ∷ ms) [] = refl
limits_left k (q ∷ qs) (m ∷ ms) (w ∷ ws) = ap (λ l. limits_in k q ++ l) (limits_left (suc k) qs ms ws)

gone_left : (qs : List Registered) (ms : List (Option ℕ)) (ws : List (List (ℕ × Row))) → map (λ (q : Registered). q.is_dropped) (all_restarted qs ms ws) ≡ map (λ (q : Registered). q.is_dropped) qs
gone_left [] ms ws = refl
gone_left (q ∷ qs) [] ws = refl
gone_left (q ∷ qs) (m ∷ ms) [] = refl
gone_left (q ∷ qs) (m ∷ ms) (w ∷ ws) = ap (λ l. q.is_dropped ∷ l) (gone_left qs ms ws)

readers_left : (n : ℕ) (qs : List Registered) (ms : List (Option ℕ)) (ws : List (List (ℕ × Row))) (bs : List Bool) → readers_from n (all_restarted qs ms ws) bs ≡ readers_from n qs bs
readers_left n [] ms ws bs = refl
readers_left n (q ∷ qs) [] ws bs = refl
readers_left n (q ∷ qs) (m ∷ ms) [] bs = refl
readers_left n (q ∷ qs) (m ∷ ms) (w ∷ ws) [] = refl
readers_left n (q ∷ qs) (m ∷ ms) (w ∷ ws) (b ∷ bs) = ap₂ (λ r rs. cond b r [] ++ rs) (windows_left q m w n 0 q.nodes) (readers_left (suc n) qs ms ws bs)

-- and of a stream its columns
columns_left : (keep : ℕ → Element → Bool) (n : ℕ) (ss : List Stream) → AllByRecursion HasColumnNames ss → AllByRecursion HasColumnNames (with_kept keep n ss)
columns_left keep n [] h = tt
columns_left keep n (s ∷ ss) h = (record { some = h.0.some; few = h.0.few }, columns_left keep (suc n) ss h.1)

-- IT IS SOUND, where few rows were answered before its queries' starts
pub forgotten_sound : (s t : EngineState) → IsSound s → HaveFewClosed (forgotten (engine_in s)).machine → engine_in t ≡ forgotten (engine_in s) → t.leases.items ≡ s.leases.items → t.next ≡ s.next → t.undropped ≡ s.undropped
    → t.readers ≡ s.readers → IsSound t
forgotten_sound s t h closed is leases next undropped readers =
    let e = engine_in s in
    let ms = marks_by e.machine.queries e.queries in
    let ws = map answers_in e.queries in
    record {
      good = subst GoodEngine (sym is) (forgotten_good e h.good);
      kinds = λ g i. subst (λ z. HasKind z g) (sym is) (h.kinds g (subst (λ ls. IsIn ls g) leases i));
      few = subst (λ ls. length ls ≤ MAX_LEASES) (sym leases) h.few;
      numbers = subst (λ k. k ≤ LEASE_NUMBERS) (sym next) h.numbers;
      named = undropped ∙ h.named ∙ sym (ap (λ (z : PlainEngine). undropped_of z.machine.queries) is ∙ ap₂ kept (names_left e.machine.queries ms ws) (limits_left 0 e.machine.queries ms ws));
      gone = ap (λ (z : PlainEngine). map (λ q. q.is_dropped) z.machine.queries) is ∙ gone_left e.machine.queries ms ws ∙ h.gone ∙ sym (ap (λ (z : PlainEngine). map is_gone z.queries) is);
      columns = subst (λ (z : PlainEngine). HaveColumnNames z.machine) (sym is) (columns_left (needs_by e.machine.streams e.machine.queries ms) 0 e.machine.streams h.columns);
      closed = subst (λ (z : PlainEngine). HaveFewClosed z.machine) (sym is) closed;
      readers = readers ∙ h.readers ∙ sym (ap readers_of is ∙ readers_left 0 e.machine.queries ms ws (map runs e.queries));
    }

-- few rows were answered before the starts of its queries, since a broken one was not dropped
pub forgotten_closed : (s : EngineState) → IsSound s → HaveFewClosed (forgotten (engine_in s)).machine
forgotten_closed s h = forgotten_few (engine_in s) h.good h.closed (λ n q answers upto here left. gone_at (engine_in s).machine.queries (engine_in s).queries h.gone n q here ∙ ap is_gone left)

-- WITH THE ROWS THAT STAY, and the queries as they go on, it is what is left of the engine
pub forgets : (s : EngineState) (streams : List Stream) (registered : List Registration) → streams ≡ with_kept (needs_in (engine_in s)) 0 s.streams → map query_of registered ≡ restarted_by s.registered.items s.remains.items (earlier_in s.remains.items)
    → engine_of streams registered s.remains.items s.leases.items s.next s.slots ≡ forgotten (engine_in s)
forgets s streams registered a b = ap₂ (λ (x : List Stream) (y : List Registered). record (engine_in s) { machine = record { streams = x; queries = y } }) a b
