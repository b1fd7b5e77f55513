-- Runs of roots with what stands first in an inbox.
use Rattle.std.proofs.Common.{◌≡◌, ◌∙◌, ℕ, ◌≤◌, Bool, List, ◌++◌, length, map, take, drop, min, append-nil, ap, refl, sym, subst, arith}
use Rattle.std.proofs.lemmas.List.{length-map}
use Rattle.values.specs.Row.{Row}
use Rattle.op_queue.specs.Entries.{RowAt}
use Rattle.op_queue.specs.Items.{IsFrontPart, entries_of}
use Rattle.op_queue.specs.Logs.{Closed}
use Rattle.op_queue.specs.Queues.{HasDropped, IsFrontBatch, Waiting, at_once}
use Rattle.op_queue.specs.declared.item.Item.{Item}
use Rattle.op_queue.specs.declared.item.Item.TheVariants.{Rows}
use Rattle.op_queue.proofs.TakeLemmas.{front_part-few}
use Rattle.to_stream.specs.Turns as root
use Rattle.to_stream.specs.Turns.{State, taken}
use Rattle.operators.specs.Fronts.{RootHasRun}
use Rattle.operators.specs.InPlace.{MayAnswer}
use Rattle.operators.specs.Inboxes.{IsDropped}
use Rattle.operators.specs.declared.inboxes.Inbox.TheVariants.{Between}
use Rattle.operators.specs.declared.states.State as states
use Rattle.operators.specs.declared.states.State.TheVariants.{Window, Nothing, Join, Groups, Root}

-- a batch that stands first is no longer than what waits
pub batch_few : (rows n : ℕ) (w : Waiting) (t : ℕ) (b : List (Bool × Row)) → n ≡ length b → IsFrontBatch rows w t b → n ≤ length w.entries
batch_few rows n w t b many h = omega (arith, many, length-map b (RowAt t), front_part-few rows w.entries (Rows t b) h.part)

-- ---- ANSWERS: what was dropped of a queue has left an inbox
pub queue_dropped : (n m : ℕ) (log : Closed) (w w2 : Waiting) → n ≡ m → w2.entries ≡ drop n w.entries → w2.begins ≡ drop n w.begins → IsDropped m log (Between w) (Between w2)
queue_dropped n m log w w2 many entries begins = record {
  entries = entries ∙ ap (λ k. drop k w.entries) many;
  begins = begins ∙ ap (λ k. drop k w.begins) many;
  within = tt;
  same = refl;
  reads_on = tt;
}

pub batch_answered : (rows n : ℕ) (log : Closed) (s s2 : State) (w w2 : Waiting) (given : List (ℕ × Row)) (t : ℕ) (b : List (Bool × Row)) → IsFrontBatch rows w t b → n ≡ length b → HasDropped n w w2 → s2 ≡ taken s b
    → RootHasRun rows log s (Between w) given s2 (Between w2) given
batch_answered rows n log s s2 w w2 given t b h many d next = record {
  item = Rows t b;
  front = record { part = h.part; cut = h.value };
  dropped = queue_dropped n (length (map (RowAt t) b)) log w w2 (many ∙ sym (length-map b (RowAt t))) d.entries d.begins;
  next = next;
  given = sym (append-nil given);
}

pub item_answered : (rows n : ℕ) (log : Closed) (s s1 s2 : State) (w w1 w2 : Waiting) (given given2 : List (ℕ × Row)) (i : Item) → (s1 ≡ s) × (w1 ≡ w) → IsFrontPart rows w1.entries i → entries_of i ≡ take (min rows (at_once w1.begins)) w1.entries
    → n ≡ length (entries_of i) → HasDropped n w1 w2 → s2 ≡ root.next s1 i → given2 ≡ given ++ root.out i (root.near s1 i) → RootHasRun rows log s (Between w) given s2 (Between w2) given2
item_answered rows n log s s1 s2 w w1 w2 given given2 i e part value many d next out =
    let ran : RootHasRun rows log s1 (Between w1) given s2 (Between w2) given2 = record {
      item = i;
      front = record { part = part; cut = value };
      dropped = queue_dropped n (length (entries_of i)) log w1 w2 many d.entries d.begins;
      next = next;
      given = out;
    } in
    subst (λ x. RootHasRun rows log x (Between w) given s2 (Between w2) given2) e.0 (subst (λ x. RootHasRun rows log s1 (Between x) given s2 (Between w2) given2) e.1 ran)

-- only roots answer
pub root_answers : (s : states.State) (i : Item) → MayAnswer s i → ((x : _) → s ≡ Root x → ⊥) → ⊥
root_answers (Window s) i may no_root = may
root_answers Nothing i may no_root = may
root_answers (Join s) i may no_root = may
root_answers (Groups s) i may no_root = may
root_answers (Root s) i may no_root = no_root s refl
