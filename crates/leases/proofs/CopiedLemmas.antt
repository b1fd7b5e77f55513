-- Streams are copied one after the other, each as it is kept.
use Rattle.std.proofs.Common.{◌≡◌, ℕ, zero, suc, ◌+◌, ◌<◌, Bool, Some, List, [], ◌∷◌, ◌++◌, take, length, map, get_or, refl, sym, ap, ◌∙◌, subst, arith}
use Rattle.std.specs.Prelude.{slice_get}
use Rattle.std.specs.Option.{option_map}
use Rattle.std.proofs.lemmas.List.{length-map, take_all}
use Rattle.values.specs.Window.{Element}
use Rattle.reference.specs.Machine.{Stream}
use Rattle.reference.specs.Opening.{with_kept}
use Rattle.stream_store.specs.Closing.{closed_of}
use Rattle.stream_store.specs.Kept.{SaysKept, SaysKeptOf, count_closed, kept_stream}
use Rattle.stream_store.specs.declared.starts.Start.{Start}
use Rattle.leases.specs.Forgets.{IsSaid, Says, said_in}
use Rattle.leases.specs.declared.state.forget.KeptRows.{KeptRows}
use Rattle.leases.proofs.CompactedLemmas.{said_at, some_at}

-- THE STREAMS before the place i are copied
abbrev pub IsCopiedTo : List KeptRows → List Stream → List Stream → ℕ → Type 0
IsCopiedTo kept ss copies i = (keep : ℕ → Element → Bool) → Says keep kept ss → copies ≡ take i (with_kept keep 0 ss)

-- what is said of the next one
said_of : (keep : ℕ → Element → Bool) (kept : List KeptRows) (ss : List Stream) (i : ℕ) (r : KeptRows) (s : Stream) → Says keep kept ss → i < length kept → r ≡ get_or kept i r → slice_get ss i ≡ Some s → SaysKept r.marks.items r.starts.items (keep i) s
said_of keep kept ss i r s says l is at =
    let inside : i < length (map said_in kept) = omega (arith, l, length-map kept said_in) in
    let d : List Bool × List Start = said_in r in
    subst (SaysKeptOf r.marks.items r.starts.items (keep i)) at
    (subst (λ (y : List Bool × List Start). SaysKeptOf y.0 y.1 (keep i) (slice_get ss i)) (said_at kept i r d l is) (says.all i d inside))

pub copy_allowed : (kept : List KeptRows) (ss : List Stream) (i : ℕ) (r : KeptRows) → IsSaid kept ss → i < length kept → r ≡ get_or kept i r → option_map count_closed (slice_get ss i) ≡ Some (length r.marks.items)
copy_allowed kept ss i r said l is =
    let says : Says said.0 kept ss = said.1 in
    let there = some_at ss i (omega (arith, l, says.many)) in
    let of_it : SaysKept r.marks.items r.starts.items (said.0 i) there.0 = said_of said.0 kept ss i r there.0 says l is there.1 in
    ap (option_map count_closed) there.1 ∙ ap Some (sym (ap length of_it.closed ∙ length-map (closed_of there.0).elements (said.0 i)))

pub none_copied : (kept : List KeptRows) (ss : List Stream) → IsCopiedTo kept ss [] 0
none_copied kept ss keep says = none (with_kept keep 0 ss)
  where
    none : (zs : List Stream) → [] ≡ take 0 zs
    none [] = refl
    none (z ∷ zs) = refl

one_more : (keep : ℕ → Element → Bool) (n : ℕ) (ss : List Stream) (i : ℕ) (s : Stream) → slice_get ss i ≡ Some s → take i (with_kept keep n ss) ++ kept_stream (keep (n + i)) s ∷ [] ≡ take (suc i) (with_kept keep n ss)
one_more keep n [] i s at = absurd (cc)
one_more keep n (t ∷ ss) zero s at =
    let same : t ≡ s = cc in
    let e : n + 0 ≡ n = omega arith in
    ap (λ k. kept_stream (keep k) s ∷ []) e ∙ ap (λ z. kept_stream (keep n) z ∷ []) (sym same) ∙ ap (λ l. kept_stream (keep n) t ∷ l) (nothing (with_kept keep (suc n) ss))
  where
    nothing : (zs : List Stream) → [] ≡ take 0 zs
    nothing [] = refl
    nothing (z ∷ zs) = refl
one_more keep n (t ∷ ss) (suc i) s at =
    let e : n + suc i ≡ suc n + i = omega arith in
    ap (λ k. kept_stream (keep n) t ∷ (take i (with_kept keep (suc n) ss) ++ kept_stream (keep k) s ∷ [])) e
    ∙ ap (λ l. kept_stream (keep n) t ∷ l) (one_more keep (suc n) ss i s at)

pub copy_one : (kept : List KeptRows) (ss copies new : List Stream) (copy : Stream) (i : ℕ) (r : KeptRows) → IsCopiedTo kept ss copies i → i < length kept → r ≡ get_or kept i r
    → ((p : Element → Bool) (s : Stream) → slice_get ss i ≡ Some s → SaysKept r.marks.items r.starts.items p s → copy ≡ kept_stream p s) → new ≡ copies ++ copy ∷ [] → IsCopiedTo kept ss new (i + 1)
copy_one kept ss copies new copy i r to l is h made = λ keep says.
    let there = some_at ss i (omega (arith, l, says.many)) in
    let one : copy ≡ kept_stream (keep i) there.0 = h (keep i) there.0 there.1 (said_of keep kept ss i r there.0 says l is there.1) in
    let e : 0 + i ≡ i = omega arith in
    made ∙ ap (λ z. z ++ copy ∷ []) (to keep says) ∙ ap (λ c. take i (with_kept keep 0 ss) ++ c ∷ []) (one ∙ ap (λ k. kept_stream (keep k) there.0) (sym e))
    ∙ one_more keep 0 ss i there.0 there.1 ∙ ap (λ j. take j (with_kept keep 0 ss)) (let f : suc i ≡ i + 1 = omega arith in f)

length-kept : (keep : ℕ → Element → Bool) (n : ℕ) (ss : List Stream) → length (with_kept keep n ss) ≡ length ss
length-kept keep n [] = refl
length-kept keep n (s ∷ ss) = ap suc (length-kept keep (suc n) ss)

pub copy_whole : (kept : List KeptRows) (ss copies : List Stream) (i : ℕ) → i ≡ length kept → IsCopiedTo kept ss copies i → (keep : ℕ → Element → Bool) → Says keep kept ss → copies ≡ with_kept keep 0 ss
copy_whole kept ss copies i last to = λ keep says. to keep says ∙ take_all i (with_kept keep 0 ss) (omega (arith, last, says.many, length-kept keep 0 ss))
