-- Streams are compacted one after the other, and queries restarted.
use Rattle.std.proofs.Common.{◌≡◌, ℕ, zero, suc, ◌<◌, ◌&&◌, ◌||◌, nat_le, Bool, Option, Some, None, List, [], ◌∷◌, ◌++◌, flat_map, map, length, get_or, refl, sym, ap, ap₂, ◌∙◌, subst, arith}
use Rattle.std.specs.Prelude.{slice_get}
use Rattle.std.specs.List.{list_any}
use Rattle.values.specs.Row.{Row}
use Rattle.values.specs.Window.{Element}
use Rattle.reference.specs.Commands.{change}
use Rattle.reference.specs.Machine.{Registered, Stream}
use Rattle.reference.specs.Opening.{all_restarted, needs_by, restart}
use Rattle.stream_store.specs.Closing.{closed_of}
use Rattle.leases.specs.Keeping.{AllSay, going_over, restarted_first, sources_of, start_of}
use Rattle.stream_store.specs.Kept.{SaysKept, SaysKeptOf, kept_stream}
use Rattle.needed_rows.specs.Needed.{PlainReader, is_in_input, is_needed_by_some}
use Rattle.needed_rows.specs.Queries.{ReadersSay, readers_of, readers_over}
use Rattle.stream_store.specs.declared.starts.Start.{Start}
use Rattle.stream_store.specs.Starts.{has_reader}
use Rattle.stream_store.proofs.KeptLemmas.{kept_first, kept_later, kept_next}

-- STREAM BY STREAM: the next one is as it was
pub here_kept : (keep : ℕ → Element → Bool) (ss now : List Stream) (i : ℕ) → now ≡ kept_first keep i 0 ss → slice_get now i ≡ slice_get ss i
here_kept keep ss now i is = ap (λ z. slice_get z i) is ∙ kept_later keep i 0 i ss (omega arith)

-- and then it is kept
pub keep_next : (keep : ℕ → Element → Bool) (ss now new : List Stream) (kept : List (List Bool × List Start)) (i : ℕ) (d : List Bool × List Start) → AllSay keep kept ss → i < length kept → now ≡ kept_first keep i 0 ss
    → ((p : Element → Bool) → SaysKeptOf (get_or kept i d).0 (get_or kept i d).1 p (slice_get now i) → new ≡ change i (kept_stream p) now) → new ≡ kept_first keep (suc i) 0 ss
keep_next keep ss now new kept i d say l is h =
    h (keep i) (subst (SaysKeptOf (get_or kept i d).0 (get_or kept i d).1 (keep i)) (sym (here_kept keep ss now i is)) (say i d l))
    ∙ ap (change i (kept_stream (keep i))) is ∙ kept_next keep i ss

-- THE READERS of a stream
pub readers_are : (n : ℕ) (qs : List Registered) (marks : List (Option ℕ)) → flat_map (sources_of n) (going_over qs marks) ≡ readers_over n qs marks
readers_are n [] marks = refl
readers_are n (q ∷ qs) [] = refl
readers_are n (q ∷ qs) (None ∷ marks) = readers_are n qs marks
readers_are n (q ∷ qs) (Some next ∷ marks) = ap (λ l. readers_of n q next q.meaning.windows q.places ++ l) (readers_are n qs marks)

-- their starts say which open elements are in an input
starts_say : (rs : List PlainReader) (e : Element) → has_reader (map start_of rs) e ≡ list_any (λ r. is_in_input r e) rs
starts_say [] e = refl
starts_say (r ∷ rs) e = ap (λ b. (nat_le r.place e.arrival && nat_le r.first e.instant) || b) (starts_say rs e)

-- WHAT THE MARKS AND STARTS SAY is what the queries need
pub says_kept : (streams : List Stream) (qs : List Registered) (ms : List (Option ℕ)) (n : ℕ) (s : Stream) (marks : List Bool) (starts : List Start) → ReadersSay streams qs ms n s
    → marks ≡ map (is_needed_by_some (closed_of s).elements (readers_over n qs ms)) (closed_of s).elements → starts ≡ map start_of (readers_over n qs ms) → SaysKept marks starts (needs_by streams qs ms n) s
says_kept streams qs ms n s marks starts say m t = record {
  closed = m ∙ sym say.closed;
  opened = λ e open_there. say.opened e open_there ∙ sym (ap (λ ss. has_reader ss e) t ∙ starts_say (readers_over n qs ms) e);
}

-- QUERY BY QUERY
pub restarted_none : (qs : List Registered) (ms : List (Option ℕ)) (ws : List (List (ℕ × Row))) → restarted_first qs ms ws 0 ≡ qs
restarted_none [] ms ws = refl
restarted_none (q ∷ qs) ms ws = refl

pub restarted_next : (qs : List Registered) (ms : List (Option ℕ)) (ws : List (List (ℕ × Row))) (i : ℕ) (m : Option ℕ) (w : List (ℕ × Row)) → slice_get ms i ≡ Some m → slice_get ws i ≡ Some w
    → change i (λ q. restart q m w) (restarted_first qs ms ws i) ≡ restarted_first qs ms ws (suc i)
restarted_next [] ms ws i m w h k = refl
restarted_next (q ∷ qs) [] ws i m w h k = absurd (cc)
restarted_next (q ∷ qs) (n ∷ ms) [] i m w h k = absurd (cc)
restarted_next (q ∷ qs) (n ∷ ms) (v ∷ ws) zero m w h k =
    let a : n ≡ m = cc in
    let b : v ≡ w = cc in
    ap₂ (λ x y. restart q x y ∷ qs) (sym a) (sym b) ∙ ap (λ l. restart q n v ∷ l) (sym (restarted_none qs ms ws))
restarted_next (q ∷ qs) (n ∷ ms) (v ∷ ws) (suc i) m w h k = ap (λ l. restart q n v ∷ l) (restarted_next qs ms ws i m w h k)

pub restarted_all : (qs : List Registered) (ms : List (Option ℕ)) (ws : List (List (ℕ × Row))) → restarted_first qs ms ws (length qs) ≡ all_restarted qs ms ws
restarted_all [] ms ws = refl
restarted_all (q ∷ qs) [] ws = refl
restarted_all (q ∷ qs) (m ∷ ms) [] = refl
restarted_all (q ∷ qs) (m ∷ ms) (w ∷ ws) = ap (λ l. restart q m w ∷ l) (restarted_all qs ms ws)
