-- What is said of the streams of a state: their readers are the sources of the running queries, and their marks say what these need.
use Rattle.std.proofs.Common.{◌≡◌, ℕ, zero, suc, ◌+◌, ◌<◌, ◌≤◌, Bool, ⊎_elim, Option, Some, None, List, [], ◌∷◌, ◌++◌, flat_map, length, map, get_or, refl, sym, ap, ◌∙◌, subst, arith}
use Rattle.std.specs.Prelude.{slice_get}
use Rattle.std.specs.List.{AllByRecursion}
use Rattle.std.proofs.lemmas.Bool.{cases_lt}
use Rattle.std.proofs.lemmas.List.{get_or-append-add, get_or_append_left, length-append, length-map, map-append}
use Rattle.values.specs.Window.{Element}
use Rattle.reference.specs.Machine.{Stream}
use Rattle.stream_store.specs.Closing.{closed_of}
use Rattle.stream_store.specs.Kept.{SaysKeptOf}
use Rattle.stream_store.specs.declared.starts.Start.{Start}
use Rattle.needed_rows.specs.Columns.{IsRegular}
use Rattle.needed_rows.specs.Needed.{is_needed_by_some}
use Rattle.needed_rows.specs.Queries.{ReadersSay, readers_over}
use Rattle.needed_rows.proofs.OpenLemmas.{readers_say}
use Rattle.laws_queries.specs.Machines.{IsStream}
use Rattle.laws_queries.specs.Rows.{HasRows}
use Rattle.laws_engine.specs.Openings.{marks_by}
use Rattle.laws_engine.proofs.CaughtLemmas.{caught_up}
use Rattle.leases.specs.Forgets.{AreMarkable, AreReadIn, Says, going_in, going_of, needs_in, said_in}
use Rattle.leases.specs.Going.{all_sources}
use Rattle.leases.specs.Keeping.{AllSay, sources_of, start_of}
use Rattle.leases.specs.Shown.{engine_in}
use Rattle.leases.specs.Sound.{IsSound}
use Rattle.leases.specs.Views.{query_of, remains_of}
use Rattle.leases.specs.declared.registered.Registration.{Registration}
use Rattle.leases.specs.declared.remains.Remains.{Remains}
use Rattle.leases.specs.declared.state.EngineState.{EngineState}
use Rattle.leases.specs.declared.state.forget.Going.{Going}
use Rattle.leases.specs.declared.state.forget.KeptRows.{KeptRows}
use Rattle.leases.proofs.KeepingLemmas.{readers_are, says_kept}

-- ITS ROWS STAND as they came
is_regular : (s : Stream) → HasRows s → IsStream s → IsRegular s
is_regular s h k = record { arrival = h.arrival; wide = k.wide }

all_read : (ss : List Stream) (n : ℕ) → AllByRecursion HasRows ss → AllByRecursion IsStream ss → AreReadIn ss n
all_read [] n h k = tt
all_read (s ∷ ss) zero h k = is_regular s h.0 k.0
all_read (s ∷ ss) (suc n) h k = all_read ss n h.1 k.1

pub read_in : (s : EngineState) → IsSound s → (n : ℕ) → AreReadIn s.streams n
read_in s sound n = all_read s.streams n sound.good.rows sound.good.machine.streams

-- THE READERS of a stream
sources_are : (n : ℕ) (gs : List Going) → all_sources n gs ≡ flat_map (sources_of n) (map going_of gs)
sources_are n [] = refl
sources_are n (g ∷ gs) = ap (λ l. sources_of n (going_of g) ++ l) (sources_are n gs)

pub sources_over : (s : EngineState) (n : ℕ) (gs : List Going) → going_in gs s.registered.items s.remains.items → all_sources n gs ≡ readers_over n (engine_in s).machine.queries (marks_by (engine_in s).machine.queries (engine_in s).queries)
sources_over s n gs is = sources_are n gs ∙ ap (flat_map (sources_of n)) is ∙ readers_are n (map query_of s.registered.items) (marks_by (map query_of s.registered.items) (map remains_of s.remains.items))

-- the same queries, seen through a slice
pub going_through : (s : EngineState) (gs gs2 : List Going) (rs : List Registration) (ks : List Remains) → gs2 ≡ gs → rs ≡ s.registered.items → ks ≡ s.remains.items → going_in gs rs ks → going_in gs2 s.registered.items s.remains.items
going_through s gs gs2 rs ks a b c is = subst (λ z. going_in z s.registered.items s.remains.items) (sym a) (subst (λ z. going_in gs z s.remains.items) b (subst (λ z. going_in gs rs z) c is))

pub markable_through : (s : EngineState) (rs : List Registration) (ks : List Remains) → rs ≡ s.registered.items → ks ≡ s.remains.items → AreMarkable s.registered.items s.remains.items → AreMarkable rs ks
markable_through s rs ks b c is = subst (λ z. AreMarkable z ks) (sym b) (subst (λ z. AreMarkable s.registered.items z) (sym c) is)

-- WHAT IS SAID of one stream
module _ (s : EngineState) (sound : IsSound s) (n : ℕ) (gs : List Going) (going : going_in gs s.registered.items s.remains.items) (k : KeptRows)
    (marks : (t : Stream) → slice_get s.streams n ≡ Some t → k.marks.items ≡ map (is_needed_by_some (closed_of t).elements (all_sources n gs)) (closed_of t).elements) (starts : k.starts.items ≡ map start_of (all_sources n gs)) where
  said_of : (o : Option Stream) → slice_get s.streams n ≡ o → SaysKeptOf k.marks.items k.starts.items (needs_in (engine_in s) n) o
  said_of None at = tt
  said_of (Some t) at =
      let e = engine_in s in
      let ms : List (Option ℕ) = marks_by e.machine.queries e.queries in
      let same : all_sources n gs ≡ readers_over n e.machine.queries ms = sources_over s n gs going in
      let say : ReadersSay s.streams e.machine.queries ms n t = readers_say s.streams n t at e.machine.queries ms (caught_up e sound.good n t at) in
      says_kept s.streams e.machine.queries ms n t k.marks.items k.starts.items say
      (marks t at ∙ ap (λ rs. map (is_needed_by_some (closed_of t).elements rs) (closed_of t).elements) same)
      (starts ∙ ap (map start_of) same)

  said_here : SaysKeptOf k.marks.items k.starts.items (needs_in (engine_in s) n) (slice_get s.streams n)
  said_here = said_of (slice_get s.streams n) refl

-- of the first streams, one more
all_more : (keep : ℕ → Element → Bool) (ks : List (List Bool × List Start)) (x : List Bool × List Start) (ss : List Stream) → AllSay keep ks ss → SaysKeptOf x.0 x.1 (keep (length ks)) (slice_get ss (length ks)) → AllSay keep (ks ++ x ∷ []) ss
all_more keep ks x ss all one = λ i d lt.
    ⊎_elim
    (λ (l : i < length ks). subst (λ (y : List Bool × List Start). SaysKeptOf y.0 y.1 (keep i) (slice_get ss i)) (sym (get_or_append_left ks (x ∷ []) d i l)) (all i d l))
    (λ (g : length ks ≤ i).
    let i_is : length ks + 0 ≡ i = omega (arith, g, lt, length-append ks (x ∷ [])) in
    let k_is : length ks ≡ i = omega (arith, i_is) in
    let here : get_or (ks ++ x ∷ []) i d ≡ x = ap (λ j. get_or (ks ++ x ∷ []) j d) (sym i_is) ∙ get_or-append-add ks (x ∷ []) 0 d in
    subst (λ (y : List Bool × List Start). SaysKeptOf y.0 y.1 (keep i) (slice_get ss i)) (sym here) (subst (λ j. SaysKeptOf x.0 x.1 (keep j) (slice_get ss j)) k_is one))
    (cases_lt i (length ks))

-- it is said of the first n streams what is to be kept
pub record SaysFirst (s : EngineState) (kept : List KeptRows) (n : ℕ) : Type 0 where
  pub many : length kept ≡ n
  pub all : AllSay (needs_in (engine_in s)) (map said_in kept) s.streams

none_said : (s : EngineState) → SaysFirst s [] 0
none_said s = record { many = refl; all = λ i d l. absurd (omega (arith, l)) }

pub says_none : (s : EngineState) (kept : List KeptRows) → kept ≡ [] → SaysFirst s kept 0
says_none s kept is = subst (λ z. SaysFirst s z 0) (sym is) (none_said s)

pub says_next : (s : EngineState) → IsSound s → (n : ℕ) (gs : List Going) (k : KeptRows) (kept kept2 : List KeptRows) → going_in gs s.registered.items s.remains.items
    → ((t : Stream) → slice_get s.streams n ≡ Some t → k.marks.items ≡ map (is_needed_by_some (closed_of t).elements (all_sources n gs)) (closed_of t).elements) → k.starts.items ≡ map start_of (all_sources n gs)
    → kept2 ≡ kept ++ k ∷ [] → SaysFirst s kept n → SaysFirst s kept2 (n + 1)
says_next s sound n gs k kept kept2 going marks starts made first =
    let size : length (map said_in kept) ≡ n = length-map kept said_in ∙ first.many in
    let one : SaysKeptOf k.marks.items k.starts.items (needs_in (engine_in s) (length (map said_in kept))) (slice_get s.streams (length (map said_in kept))) =
    subst (λ j. SaysKeptOf k.marks.items k.starts.items (needs_in (engine_in s) j) (slice_get s.streams j)) (sym size) (said_here s sound n gs going k marks starts) in
    record {
      many = ap length made ∙ length-append kept (k ∷ []) ∙ ap (λ m. m + 1) first.many;
      all = subst (λ z. AllSay (needs_in (engine_in s)) z s.streams) (sym (ap (map said_in) made ∙ map-append said_in kept (k ∷ []))) (all_more (needs_in (engine_in s)) (map said_in kept) (said_in k) s.streams first.all one);
    }

pub says_all : (s : EngineState) (kept : List KeptRows) (n : ℕ) → n ≡ length s.streams → SaysFirst s kept n → Says (needs_in (engine_in s)) kept (engine_in s).machine.streams
says_all s kept n is first = record { many = first.many ∙ is; all = first.all }
