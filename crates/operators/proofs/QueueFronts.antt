-- Runs with what stands first in a queue or in a stream's log.
use Rattle.std.proofs.Common.{◌≡◌, ◌∙◌, ◌≤◌, ℕ, zero, suc, true, true≢false, IfErr, OnErr, OnOk, [], ap, arith, drop, length, length-append, map, refl, subst, sym}
use Rattle.std.specs.Prelude.{⊤, Result, Ok, Err}
use Rattle.column.specs.declared.batch.Side.{Side}
use Rattle.op_queue.specs.Cursors.{GoesOn, IsWithin}
use Rattle.op_queue.specs.Items.{entries_of}
use Rattle.op_queue.specs.Logs.{Closed, cursor_entries}
use Rattle.op_queue.specs.Entries.{RowAt}
use Rattle.op_queue.specs.Queues.{HasGrown, HasLeft, IsCounted, IsCut, IsFirst, Waiting, pieces_of}
use Rattle.op_queue.proofs.KeepLemmas.{cut_behind, kept_before}
use Rattle.op_queue.specs.declared.cursor.Cursor.{Cursor}
use Rattle.op_queue.specs.declared.item.Item.{Item}
use Rattle.turn.specs.Turns.{Answered, Outs, Put}
use Rattle.turn.specs.declared.kinds.Kind.{Kind}
use Rattle.operators.specs.Fronts.{AllFirst, HasRunFirst, HasRunTo, MayComeFirst}
use Rattle.operators.specs.InPlace.{HasQueued, HaveCome, IsAfterItem, MayComeAll, outs_from}
use Rattle.operators.specs.Inboxes.{IsDropped, is_fed}
use Rattle.operators.specs.Runs.{Stops}
use Rattle.operators.specs.States.{FitsState, near_of}
use Rattle.operators.specs.declared.runs.Refused.{Refused}
use Rattle.operators.specs.declared.runs.Refused.TheVariants.{Before, Within}
use Rattle.operators.specs.declared.inboxes.Inbox.{Inbox}
use Rattle.operators.specs.declared.inboxes.Inbox.TheVariants.{Between, First}
use Rattle.operators.specs.declared.states.State.{State}
use Rattle.operators.proofs.RefusedLemmas.{grown_none}

drop_nil : {A : Type 0} (n : ℕ) → [] ≡ drop {A = A} n []
drop_nil zero = refl
drop_nil (suc n) = refl

-- what has left a stream's log
pub log_dropped : (n m : ℕ) (log : Closed) (c d : Cursor) → n ≡ m → cursor_entries d log ≡ drop n (cursor_entries c log) → IsWithin d log → GoesOn log c d → IsDropped m log (First c) (First d)
log_dropped n m log c d same entries within goes_on = record {
  entries = entries ∙ ap (λ k. drop k (cursor_entries c log)) same;
  begins = drop_nil m;
  within = within;
  same = refl;
  reads_on = goes_on;
}

-- what has left a queue
abbrev after_front : ℕ → Waiting → Waiting
after_front n w = record { entries = drop n w.entries; begins = drop n w.begins; pieces = pieces_of (drop n w.entries) (drop n w.begins) }

pub queue_dropped : (rows : ℕ) (log : Closed) (w w2 : Waiting) (i : Item) → HasLeft rows w w2 i → IsDropped (length (entries_of i)) log (Between w) (Between w2)
queue_dropped rows log w w2 i h = record { entries = h.entries; begins = h.begins; within = tt; same = refl; reads_on = tt }

-- what an item that stands first puts out may come to an inbox
pub between_may : (k : Kind) (s : State) (side : Side) (rows : ℕ) (log : Closed) (w : Waiting) (to : Inbox) → MayComeFirst k s side rows log (Between w) to → AllFirst rows w.entries (λ i. MayComeAll (outs_from k s side i) to)
between_may k s side rows log w to may i part =
    may i (Between (after_front (length (entries_of i)) w)) part (record { entries = refl; begins = refl; within = tt; same = refl; reads_on = tt })

-- a queue that is cut back is as it was
module _ (w : Waiting) (n : ℕ) (pieces : ℕ) (len : n ≡ length w.entries) (begins : length w.begins ≡ length w.entries) (same : pieces ≡ w.pieces) (counted : pieces ≡ pieces_of w.entries w.begins) where
  is_counted : IsCounted w
  is_counted = record { begins = begins; pieces = sym same ∙ counted }

  pub cut_at : (grown : Waiting) → HasGrown w grown → IsCut n grown
  cut_at grown h = subst (λ k. IsCut k grown) (sym len) (cut_behind w grown is_counted h)

  pub cut_within : (grown : Waiting) → HasGrown w grown → n ≤ length grown.entries
  cut_within grown (t, xs, h) = omega (arith, len, ap length h.entries, length-append w.entries (map (RowAt t) xs))

  pub cut_back : (grown kept : Waiting) → HasGrown w grown → IsFirst n grown kept → kept ≡ w
  cut_back grown kept h first = kept_before w grown kept is_counted h (subst (λ k. IsFirst k grown kept) len first)

-- a run over a queue
pub run_over : (k : Kind) (side : Side) (rows : ℕ) (log : Closed) (s : State) (w q : Waiting) (s2 : State) (w2 q2 : Waiting) (i : Item) → HasLeft rows w w2 i → FitsState s i (near_of s side i) → IsAfterItem s side i s2 → HasQueued (outs_from k s side i) q q2
    → HasRunTo k side rows log s (Between w) q s2 (Between w2) q2
run_over k side rows log s w q s2 w2 q2 i h fits next put = record {
  item = i;
  front = record { part = h.part; cut = h.value };
  fits = fits;
  dropped = queue_dropped rows log w w2 i h;
  next = next;
  put = put;
}

-- Select or Project that stopped
pub node_grown : (r : Result ⊤ Refused) (w w2 q q2 : Waiting) → IfErr r (λ x. Stops x ((w2 ≡ w) × (q2 ≡ q)) ⊥) → OnErr r (HasGrown q q2)
node_grown (Ok u) w w2 q q2 h = tt
node_grown (Err Before) w w2 q q2 h = grown_none q q2 h.1
node_grown (Err Within) w w2 q q2 h = elim h [ ]

-- nothing comes to what reads a stream
pub none_come : (os : Outs) (b : Inbox) (c : Cursor) → b ≡ First c → MayComeAll os b → ⊥
none_come (Put es) b c is m = true≢false (sym (subst (λ v. is_fed v ≡ true) is m.fed))
none_come (Answered given) b c is m = m

-- what has come to a queue has come to its inbox
pub has_come : (os : Outs) (q q2 : Waiting) → HasQueued os q q2 → HaveCome os (Between q) (Between q2)
has_come (Put es) q q2 h = record { queued = h.entries; fed = refl; items = h.items; stand = h.stand; begins = h.begins }
has_come (Answered given) q q2 h = h

pub has_run_first : (r : Result ⊤ Refused) (k : Kind) (side : Side) (rows : ℕ) (s s2 : State) (w w2 q q2 : Waiting) (to : Inbox) → to ≡ Between q → OnOk r ((log : Closed) → HasRunTo k side rows log s (Between w) q s2 (Between w2) q2)
    → OnOk r ((log : Closed) → HasRunFirst k side rows log s (Between w) to s2 (Between w2) (Between q2))
has_run_first (Ok u) k side rows s s2 w w2 q q2 to is h =
    λ log. subst (λ b. HasRunFirst k side rows log s (Between w) b s2 (Between w2) (Between q2)) (sym is)
    (record { item = (h log).item; front = (h log).front; fits = (h log).fits; dropped = (h log).dropped; next = (h log).next; come = has_come (outs_from k s side (h log).item) q q2 (h log).put })
has_run_first (Err e) k side rows s s2 w w2 q q2 to is h = tt
