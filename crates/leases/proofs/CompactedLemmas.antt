-- Streams are compacted one after the other, as it is said of each.
use Rattle.std.proofs.Common.{◌≡◌, ℕ, zero, suc, ◌+◌, ◌<◌, Bool, Option, Some, List, [], ◌∷◌, length, map, get_or, refl, sym, ap, ◌∙◌, subst, arith}
use Rattle.std.specs.Prelude.{slice_get}
use Rattle.std.specs.Option.{option_map}
use Rattle.std.proofs.lemmas.List.{get_or-map, length-map}
use Rattle.values.specs.Window.{Element}
use Rattle.reference.specs.Commands.{change}
use Rattle.reference.specs.Machine.{Stream}
use Rattle.reference.specs.Opening.{with_kept}
use Rattle.stream_store.specs.Closing.{closed_of}
use Rattle.stream_store.specs.Kept.{SaysKept, SaysKeptOf, count_closed, kept_stream}
use Rattle.stream_store.specs.declared.starts.Start.{Start}
use Rattle.stream_store.proofs.KeptLemmas.{kept_all, kept_first}
use Rattle.leases.specs.Forgets.{IsSaid, Says, said_in}
use Rattle.leases.specs.declared.state.forget.KeptRows.{KeptRows}
use Rattle.leases.proofs.KeepingLemmas.{here_kept, keep_next}

-- those before the place i are compacted
abbrev pub IsKeptTo : List KeptRows → List Stream → List Stream → ℕ → Type 0
IsKeptTo kept ss now i = (keep : ℕ → Element → Bool) → Says keep kept ss → now ≡ kept_first keep i 0 ss

pub some_at : (ss : List Stream) (i : ℕ) → i < length ss → (s : Stream) × (slice_get ss i ≡ Some s)
some_at [] i l = absurd (omega (arith, l))
some_at (s ∷ ss) zero l = (s, refl)
some_at (s ∷ ss) (suc i) l = some_at ss i (omega (arith, l))

-- what is said of the next one
pub said_at : (kept : List KeptRows) (i : ℕ) (r : KeptRows) (d : List Bool × List Start) → i < length kept → r ≡ get_or kept i r → get_or (map said_in kept) i d ≡ said_in r
said_at kept i r d l is = get_or-map said_in kept i r d l ∙ ap said_in (sym is)

pub keep_allowed : (kept : List KeptRows) (ss now : List Stream) (i : ℕ) (r : KeptRows) → IsSaid kept ss → IsKeptTo kept ss now i → i < length kept → r ≡ get_or kept i r → option_map count_closed (slice_get now i) ≡ Some (length r.marks.items)
keep_allowed kept ss now i r said to l is =
    let keep : ℕ → Element → Bool = said.0 in
    let says : Says keep kept ss = said.1 in
    let here : slice_get now i ≡ slice_get ss i = here_kept keep ss now i (to keep says) in
    let there = some_at ss i (omega (arith, l, says.many)) in
    let inside : i < length (map said_in kept) = omega (arith, l, length-map kept said_in) in
    let d : List Bool × List Start = said_in r in
    let one : SaysKeptOf (said_in r).0 (said_in r).1 (keep i) (slice_get ss i) = subst (λ (y : List Bool × List Start). SaysKeptOf y.0 y.1 (keep i) (slice_get ss i)) (said_at kept i r d l is) (says.all i d inside) in
    let of_it : SaysKept r.marks.items r.starts.items (keep i) there.0 = subst (SaysKeptOf r.marks.items r.starts.items (keep i)) there.1 one in
    ap (option_map count_closed) (here ∙ there.1) ∙ ap Some (sym (ap length of_it.closed ∙ length-map (closed_of there.0).elements (keep i)))

pub keep_one : (kept : List KeptRows) (ss now new : List Stream) (i : ℕ) (r : KeptRows) → IsKeptTo kept ss now i → i < length kept → r ≡ get_or kept i r
    → ((p : Element → Bool) → SaysKeptOf r.marks.items r.starts.items p (slice_get now i) → new ≡ change i (kept_stream p) now) → IsKeptTo kept ss new (i + 1)
keep_one kept ss now new i r to l is h = λ keep says.
    let d : List Bool × List Start = said_in r in
    let inside : i < length (map said_in kept) = omega (arith, l, length-map kept said_in) in
    let next : new ≡ kept_first keep (suc i) 0 ss = keep_next keep ss now new (map said_in kept) i d says.all inside (to keep says)
    (λ p say. h p (subst (λ (y : List Bool × List Start). SaysKeptOf y.0 y.1 p (slice_get now i)) (said_at kept i r d l is) say)) in
    next ∙ ap (λ j. kept_first keep j 0 ss) (let one : suc i ≡ i + 1 = omega arith in one)

pub keep_whole : (kept : List KeptRows) (ss now : List Stream) (i : ℕ) → i ≡ length kept → IsKeptTo kept ss now i → (keep : ℕ → Element → Bool) → Says keep kept ss → now ≡ with_kept keep 0 ss
keep_whole kept ss now i last to = λ keep says. to keep says ∙ kept_all keep i 0 ss (omega (arith, last, says.many))

-- the same marks and starts say the same
pub says_through : (m marks : List Bool) (t starts : List Start) (p : Element → Bool) (o : Option Stream) → m ≡ marks → t ≡ starts → SaysKeptOf marks starts p o → SaysKeptOf m t p o
says_through m marks t starts p o a b say = subst (λ z. SaysKeptOf z t p o) (sym a) (subst (λ z. SaysKeptOf marks z p o) (sym b) say)
