-- How wide rows are in bags and queues, after the front of a queue was taken.
use Rattle.std.proofs.Common.{ℕ, Bool, true, false, List, [], ◌∷◌, ◌++◌, arith}
use Rattle.std.specs.List.{All}
use Rattle.std.proofs.lemmas.List.Elements.{All-nil, All-cons, All-head, All-tail}
use Rattle.std.proofs.lemmas.List.Sorted.{All-permutation}
use Rattle.values.specs.Row.{Row}
use Rattle.values.proofs.Perms.{perm-permutation}
use Rattle.op_queue.specs.Entries.{Entry}
use Rattle.op_queue.specs.Signed.{weigh, Same, Adds, Legal}
use Rattle.op_queue.proofs.SignedLemmas.{Adds-rest, Legal-front, Legal-rest, Same-from_none}
use Rattle.group.proofs.BagLemmas.{after_row}
use Rattle.laws_dataflow.specs.Nets.{batch}
use Rattle.laws_dataflow.proofs.BagLemmas.{same_perm}
use Rattle.laws_queries.specs.Widths.{AreEntries, AreRows, IsRow}

-- BAGS, of whatever rows
pub all_same : (P : Row → Type 0) (b c : List Row) → Same b c → All P b → All P c
all_same P b c h a = All-permutation P b c (perm-permutation b c (same_perm b c h)) a

entered : {b z : List Row} (r : Row) → Adds b ((true, r) ∷ []) z → Same (r ∷ b) z
unfolding weigh
entered r a = record { weighs = λ w. omega (arith, a.weighs w) }

gone : {b z : List Row} (r : Row) → Adds b ((false, r) ∷ []) z → Same b (r ∷ z)
unfolding weigh
gone r a = record { weighs = λ w. omega (arith, a.weighs w) }

pub all_after : (P : Row → Type 0) (xs : List (Bool × Row)) (b c : List Row) → Legal b xs → Adds b xs c → All P b → All (λ s. P s.1) xs → All P c
all_after P [] b c l a h k = all_same P b c (Same-from_none a) h
all_after P ((true, r) ∷ xs) b c l a h k =
    let e : (z : List Row) × Adds b ((true, r) ∷ []) z = after_row b (true, r) (Legal-front ((true, r) ∷ []) xs l) in
    all_after P xs e.0 c (Legal-rest e.1 l) (Adds-rest e.1 a)
    (all_same P (r ∷ b) e.0 (entered r e.1) (All-cons P r b (All-head (λ (s : Bool × Row). P s.1) (true, r) xs k) h))
    (All-tail (λ (s : Bool × Row). P s.1) (true, r) xs k)
all_after P ((false, r) ∷ xs) b c l a h k =
    let e : (z : List Row) × Adds b ((false, r) ∷ []) z = after_row b (false, r) (Legal-front ((false, r) ∷ []) xs l) in
    all_after P xs e.0 c (Legal-rest e.1 l) (Adds-rest e.1 a) (All-tail P r e.0 (all_same P b (r ∷ e.0) (gone r e.1) h))
    (All-tail (λ (s : Bool × Row). P s.1) (false, r) xs k)

-- QUEUES
abbrev pub AreSigned : ℕ → List (Bool × Row) → Type 0
AreSigned w xs = All (λ s. IsRow w s.1) xs

pub entries_front : (w t : ℕ) (xs : List (Bool × Row)) (q : List (Entry Row)) → AreEntries w (batch t xs ++ q) → AreSigned w xs
entries_front w t [] q h = All-nil (λ (s : Bool × Row). IsRow w s.1)
entries_front w t (s ∷ xs) q h = All-cons (λ (s : Bool × Row). IsRow w s.1) s xs h.0 (entries_front w t xs q h.1)

pub entries_back : (w t : ℕ) (xs : List (Bool × Row)) (q : List (Entry Row)) → AreEntries w (batch t xs ++ q) → AreEntries w q
entries_back w t [] q h = h
entries_back w t (s ∷ xs) q h = entries_back w t xs q h.1

pub entries_batch : (w t : ℕ) (xs : List (Bool × Row)) (q : List (Entry Row)) → AreSigned w xs → AreEntries w q → AreEntries w (batch t xs ++ q)
entries_batch w t [] q h k = k
entries_batch w t (s ∷ xs) q h k =
    (All-head (λ (s : Bool × Row). IsRow w s.1) s xs h, entries_batch w t xs q (All-tail (λ (s : Bool × Row). IsRow w s.1) s xs h) k)

pub entries_alone : (w t : ℕ) (xs : List (Bool × Row)) → AreSigned w xs → AreEntries w (batch t xs)
entries_alone w t [] h = tt
entries_alone w t (s ∷ xs) h = (All-head (λ (s : Bool × Row). IsRow w s.1) s xs h, entries_alone w t xs (All-tail (λ (s : Bool × Row). IsRow w s.1) s xs h))

-- rows of a side after a batch
pub rows_after : (w t : ℕ) (xs : List (Bool × Row)) (q : List (Entry Row)) (b c : List Row) → Legal b xs → Adds b xs c → AreRows w b
    → AreEntries w (batch t xs ++ q) → AreRows w c
rows_after w t xs q b c l a h k = all_after (IsRow w) xs b c l a h (entries_front w t xs q k)
