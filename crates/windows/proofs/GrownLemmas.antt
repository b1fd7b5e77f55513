-- What a queue has gained by a turn that was refused.
use Rattle.std.proofs.Common.{◌≡◌, ℕ, Bool, List, [], ◌∷◌, ◌++◌, length, map, take, subst, ap, sym, ◌∙◌, append-nil, append_assoc}
use Rattle.std.proofs.Math.Seq.{take-append_seam}
use Rattle.std.specs.List.{flat_map}
use Rattle.std.proofs.lemmas.List.Concat.{flat_map-append}
use Rattle.std.proofs.lemmas.List.{map-append, take-map}
use Rattle.values.specs.Row.{Row}
use Rattle.op_queue.specs.Entries.{Entry, RowAt}
use Rattle.op_queue.specs.Forward.{IsForward}
use Rattle.op_queue.specs.Items.{entries_of}
use Rattle.op_queue.specs.declared.item.Item.{Item}
use Rattle.op_queue.specs.Queues.{HasGained, Waiting, first_begins}
use Rattle.op_queue.proofs.GainLemmas.{gained-item, gained-more, gained-same}
use Rattle.windows.specs.Grown.{HasGrownAt}
use Rattle.windows.proofs.LeavingLemmas.{forward_first}

pub grown_by : (t : ℕ) (xs : List (Bool × Row)) (a b : Waiting) → HasGained (map (RowAt t) xs) a b → HasGrownAt t a b
grown_by t xs a b h = (xs, h)

-- rows that were pushed after others
pub grown_more : (t : ℕ) (a b c : Waiting) → HasGrownAt t a b → HasGrownAt t b c → HasGrownAt t a c
grown_more t a b c g h =
    let at : Bool × Row → Entry Row = RowAt t in
    (g.0 ++ h.0, gained-same (sym (map-append at g.0 h.0)) (gained-more (map at g.0) (map at h.0) a b c g.1 h.1))

-- nothing was pushed after them
pub grown_same : (t : ℕ) (a b c : Waiting) → HasGrownAt t a b → c ≡ b → HasGrownAt t a c
grown_same t a b c g e = subst (HasGrownAt t a) (sym e) g

-- ---- items one behind the other
pub record HasPut (all rest : List Item) (old new : Waiting) : Type 0 where
  pub done : List Item
  pub split : done ++ rest ≡ all
  pub gained : HasGained (flat_map entries_of done) old new

put_split : (all rest : List Item) (old new : Waiting) (h : HasPut all rest old new) → flat_map entries_of h.done ++ flat_map entries_of rest ≡ flat_map entries_of all
put_split all rest old new h = sym (flat_map-append entries_of h.done rest) ∙ ap (flat_map entries_of) h.split

pub put_forward : (all rest others : List Item) (i : Item) (old new : Waiting) → HasPut all rest old new → rest ≡ i ∷ others → IsForward (old.entries ++ flat_map entries_of all) → IsForward (new.entries ++ entries_of i)
put_forward all rest others i old new h front forward =
    let whole : new.entries ++ flat_map entries_of rest ≡ old.entries ++ flat_map entries_of all =
    ap (λ es. es ++ flat_map entries_of rest) h.gained.entries
    ∙ append_assoc old.entries (flat_map entries_of h.done) (flat_map entries_of rest)
    ∙ ap (λ es. old.entries ++ es) (put_split all rest old new h) in
    forward_first new.entries i rest others (old.entries ++ flat_map entries_of all) whole front forward

pub put_more : (all rest others : List Item) (i : Item) (old new after : Waiting) → HasPut all rest old new → rest ≡ i ∷ others → after.entries ≡ new.entries ++ entries_of i → after.begins ≡ new.begins ++ first_begins (entries_of i) → HasPut all others old after
put_more all rest others i old new after h front entries begins =
    let before : List (Entry Row) = flat_map entries_of h.done in
    record {
      done = h.done ++ i ∷ [];
      split = append_assoc h.done (i ∷ []) others ∙ ap (λ (is : List Item). h.done ++ is) (sym front) ∙ h.split;
      gained =
          gained-same (sym (flat_map-append entries_of h.done (i ∷ []) ∙ ap (λ es. before ++ es) (append-nil (entries_of i))))
          (gained-more before (entries_of i) old new after h.gained (gained-item i new after entries begins));
    }

pub put_all : (all rest : List Item) (old new : Waiting) → HasPut all rest old new → rest ≡ [] → HasGained (flat_map entries_of all) old new
put_all all rest old new h none =
    gained-same (sym (append-nil (flat_map entries_of h.done)) ∙ ap (λ (is : List Item). flat_map entries_of h.done ++ flat_map entries_of is) (sym none) ∙ put_split all rest old new h) h.gained

pub put_some : (all rest : List Item) (old new : Waiting) (t : ℕ) (xs : List (Bool × Row)) → HasPut all rest old new → flat_map entries_of all ≡ map (RowAt t) xs → HasGrownAt t old new
put_some all rest old new t xs h rows =
    let before : List (Entry Row) = flat_map entries_of h.done in
    let n : ℕ = length before in
    let first : before ≡ map (RowAt t) (take n xs) =
    sym (take-append_seam before (flat_map entries_of rest)) ∙ ap (take n) (put_split all rest old new h ∙ rows) ∙ take-map (RowAt t) n xs in
    (take n xs, gained-same first h.gained)
