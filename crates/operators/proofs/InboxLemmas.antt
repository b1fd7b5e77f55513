-- Queues that items are pushed into.
use Rattle.std.proofs.Common.{◌≡◌, ◌∙◌, ℕ, List, [], ◌∷◌, ◌++◌, ap, sym, subst, arith, length-append, true, true≢false, max, refl, append-nil}
use Rattle.std.proofs.lemmas.List.{get_or_append_left}
use Rattle.std.proofs.lemmas.List.{append_assoc}
use Rattle.values.specs.Row.{Row}
use Rattle.std.specs.Option.{option_map}
use Rattle.op_queue.specs.Entries.{Entry, RowAt, TickAt, front_of}
use Rattle.op_queue.specs.Forward.{IsForward}
use Rattle.op_queue.specs.Items.{entries_of, first_instant}
use Rattle.op_queue.specs.declared.item.Item.{Item}
use Rattle.values.specs.Window.{Element}
use Rattle.op_queue.specs.Cursors.{GainsClosed}
use Rattle.op_queue.specs.Logs.{Closed, span_entries}
use Rattle.operators.specs.Inboxes.{IsInboxWithin, all_entries, is_fed, queued}
use Rattle.operators.specs.Ready.{entries_in, front_instant}
use Rattle.operators.specs.declared.inboxes.Inbox.{Inbox}
use Rattle.operators.specs.declared.inboxes.Inbox.TheVariants.{First, Between}

pub forward_front : (es fs : List (Entry Row)) → IsForward (es ++ fs) → IsForward es
forward_front es fs h i j d le lt =
    let n = length-append es fs in
    rw (sym (get_or_append_left es fs d i (omega arith)), sym (get_or_append_left es fs d j lt)) (h i j d le (omega arith))

-- the first of the items that come
pub forward_push : (es : List (Entry Row)) (i : Item) (items rest : List Item) (whole : List (Entry Row)) → es ++ all_entries items ≡ whole → items ≡ i ∷ rest → IsForward whole → IsForward (es ++ entries_of i)
forward_push es i items rest whole is front h =
    let all : es ++ all_entries (i ∷ rest) ≡ whole = ap (λ xs. es ++ all_entries xs) (sym front) ∙ is in
    forward_front (es ++ entries_of i) (all_entries rest) (subst IsForward (sym all ∙ sym (append_assoc es (entries_of i) (all_entries rest))) h)

-- the instant of what stands first is that of the first row or tick
pub instant_in_front : (es : List (Entry Row)) → option_map front_instant (front_of es) ≡ first_instant es
instant_in_front [] = refl
instant_in_front (RowAt t s ∷ es) = refl
instant_in_front (TickAt t ∷ es) = refl

-- ---- what a query's operators see of their inboxes
-- a queue between operators is the same over every log
pub entries_fed : (i : Inbox) (log : Closed) → is_fed i ≡ true → entries_in i log ≡ queued i
entries_fed (First c) log h = absurd (true≢false (sym h))
entries_fed (Between q) log h = refl

-- what a heartbeat adds: at a first queue the rows and ticks of the instants that it closed, else nothing
abbrev pub gained : Inbox → Closed → List Element → ℕ → List (Entry Row)
gained (First c) old es until = span_entries c.place es (max c.at old.until) until
gained (Between q) old es until = []

pub entries_gained : (i : Inbox) (old new : Closed) (es : List Element) (until : ℕ) → GainsClosed old es until new → IsInboxWithin i old → entries_in i new ≡ entries_in i old ++ gained i old es until
entries_gained (First c) old new es until h k = h.gains c k
entries_gained (Between q) old new es until h k = sym (append-nil q.entries)

pub within_gained : (i : Inbox) (old new : Closed) (es : List Element) (until : ℕ) → GainsClosed old es until new → IsInboxWithin i old → IsInboxWithin i new
within_gained (First c) old new es until h k = h.within c k
within_gained (Between q) old new es until h k = k
