-- A query that is registered: its slots, and what an engine knows of itself after it.
use Rattle.std.proofs.Common.{◌≡◌, ◌≢◌, inl, inr, ℕ, zero, suc, ◌+◌, ◌<◌, Bool, false, not, ◌==◌, cond, None, List, [], ◌∷◌, filter, get_or, length, refl, sym, ap, ◌∙◌, arith}
use Rattle.std.specs.List.{list_any}
use Rattle.std.specs.Ordering.{match_ordering}
use Rattle.std.specs.declared.cmp.Ordering.{Ordering}
use Rattle.std.specs.declared.cmp.Ordering.TheVariants.{Less, Equal, Greater}
use Rattle.std.proofs.lemmas.Bool.{eq-eqb, ne_eqb}
use Rattle.envelope.specs.Fraction.{Fraction, fraction}
use Rattle.operators.specs.Ready.{ready}
use Rattle.plan.specs.Nodes as plan
use Rattle.plan.specs.Paths.{plan_slopes}
use Rattle.reference.specs.Machine.{Registered, Stream}
use Rattle.laws_queries.specs.Plain.{PlainQuery, log_at, operator_at}
use Rattle.query_runtime.specs.Turns.{log_of}
use Rattle.run_queue.specs.Slots.{slot, slot_cmp}
use Rattle.run_queue.specs.Changes.{put, without_query}
use Rattle.run_queue.specs.declared.slots.Slot.{Slot}
use Rattle.laws_engine.specs.Calls.{with_slots}
use Rattle.laws_engine.specs.Engines.{Lease, PlainEngine, is_of, slot_at}
use Rattle.laws_engine.specs.Good.{IsIn}
use Rattle.leases.specs.Registering.{new_slot, with_first}

-- WITHOUT THE SLOTS of a query
by_order : (p : Slot → Bool) (s x : Slot) (slots : List Slot) (o : Ordering) → p s ≡ false → filter p (put slots s) ≡ filter p slots
    → filter p (match_ordering o (s ∷ x ∷ slots) (x ∷ slots) (x ∷ put slots s)) ≡ filter p (x ∷ slots)
by_order p s x slots Less without same = ap (λ b. cond b (s ∷ filter p (x ∷ slots)) (filter p (x ∷ slots))) without
by_order p s x slots Equal without same = refl
by_order p s x slots Greater without same = ap (λ l. cond (p x) (x ∷ l) l) same

filtered_put : (p : Slot → Bool) (slots : List Slot) (s : Slot) → p s ≡ false → filter p (put slots s) ≡ filter p slots
filtered_put p [] s without = ap (λ b. cond b (s ∷ []) []) without
filtered_put p (x ∷ slots) s without = by_order p s x slots (slot_cmp s x) without (filtered_put p slots s without)

own_slot : (n : ℕ) → not (n == n) ≡ false
own_slot n = ap not (eq-eqb n n refl)

-- the slots of the query alone came
pub without_first : (streams : List Stream) (p : PlainQuery) (slopes : List Fraction) (n count : ℕ) (slots : List Slot) → without_query n (with_first streams p slopes n count slots) ≡ without_query n slots
without_first streams p slopes n zero slots = refl
without_first streams p slopes n (suc count) slots =
    filtered_put (λ s. not (s.query == n)) (with_first streams p slopes n count slots) (new_slot streams p slopes n count) (own_slot n) ∙ without_first streams p slopes n count slots

pub left_again : (streams : List Stream) (p : PlainQuery) (slopes : List Fraction) (n count : ℕ) (slots now new : List Slot) → now ≡ with_first streams p slopes n count slots → without_query n slots ≡ slots
    → new ≡ without_query n now → new ≡ slots
left_again streams p slopes n count slots now new is none left = left ∙ ap (without_query n) is ∙ without_first streams p slopes n count slots ∙ none

-- THE SLOTS that were put are those of the query's operators
pub all_put : (e : PlainEngine) (n : ℕ) (q : Registered) (p : PlainQuery) (slopes : List Fraction) (k : ℕ) (nodes : List plan.Node) (slots : List Slot)
    → ((j : ℕ) → j < k + length nodes → slot_at e n q p j ≡ new_slot e.machine.streams p slopes n j)
    → with_slots e n q p k nodes (with_first e.machine.streams p slopes n k slots) ≡ with_first e.machine.streams p slopes n (k + length nodes) slots
all_put e n q p slopes k [] slots same = let is : k ≡ k + 0 = omega arith in ap (λ c. with_first e.machine.streams p slopes n c slots) is
all_put e n q p slopes k (node ∷ nodes) slots same =
    let is : suc k + length nodes ≡ k + suc (length nodes) = omega arith in
    ap (λ s. with_slots e n q p (suc k) nodes (put (with_first e.machine.streams p slopes n k slots) s)) (same k (omega arith))
    ∙ all_put e n q p slopes (suc k) nodes slots (λ j l. same j (omega (arith, l)))
    ∙ ap (λ c. with_first e.machine.streams p slopes n c slots) is

-- no turn is out of a query that is new
none_of : (n k : ℕ) (ls : List Lease) → ((l : Lease) → IsIn ls l → l.query ≢ n) → list_any (is_of n k) ls ≡ false
none_of n k [] others = refl
none_of n k (l ∷ ls) others =
    let other : (l.query == n) ≡ false = ne_eqb l.query n (others l (inl refl)) in
    rw other (none_of n k ls (λ m i. others m (inr i)))

pub new_slot_is : (e : PlainEngine) (n : ℕ) (q : Registered) (p : PlainQuery) (slopes : List Fraction) (k : ℕ) → slopes ≡ plan_slopes q.nodes q.measures → ((l : Lease) → IsIn e.leases l → l.query ≢ n)
    → log_of e.machine.streams p k ≡ log_at e.machine q k → slot_at e n q p k ≡ new_slot e.machine.streams p slopes n k
new_slot_is e n q p slopes k sloped others log =
    ap (λ b. slot (get_or (plan_slopes q.nodes q.measures) k (fraction 0 1)) (cond b None (ready (operator_at p.operators k) (log_at e.machine q k))) n k) (none_of n k e.leases others)
    ∙ ap (λ g. slot (get_or (plan_slopes q.nodes q.measures) k (fraction 0 1)) (ready (operator_at p.operators k) g) n k) (sym log)
    ∙ ap (λ ss. slot (get_or ss k (fraction 0 1)) (ready (operator_at p.operators k) (log_of e.machine.streams p k)) n k) (sym sloped)
