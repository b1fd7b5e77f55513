-- The windows over each stream, as windows come and queries leave.
use Rattle.std.proofs.Common.{◌≡◌, ◌<◌, ◌≤◌, ◌+◌, ◌==◌, ℕ, zero, suc, Bool, true, false, ⊎_elim, List, [], ◌∷◌, ◌++◌, get_or, length, set, refl, sym, ap, ◌∙◌, arith}
use Rattle.std.specs.Global.{Vec}
use Rattle.std.proofs.lemmas.Bool.{cases_lt}
use Rattle.std.proofs.lemmas.List.{get_or-map, get_or-set_other, get_or-set_same, length-map, length-set, map-set}
use Rattle.leases.specs.ByStream.{AreByStream, but_query, gained, lists, over_stream}
use Rattle.leases.specs.declared.reader.WindowReader.{WindowReader}

-- THE LIST at a place
pub list_found : (vs : List (Vec WindowReader)) (k : ℕ) (v : Vec WindowReader) → k < length vs → v ≡ get_or vs k v → get_or (lists vs) k [] ≡ v.items
list_found vs k v lt at = let f : Vec WindowReader → List WindowReader = λ c. c.items in get_or-map f vs k v [] lt ∙ ap f (sym at)

pub many_lists : (vs : List (Vec WindowReader)) → length (lists vs) ≡ length vs
many_lists vs = let f : Vec WindowReader → List WindowReader = λ c. c.items in length-map vs f

-- there is none beyond the last
pub none_beyond : (ls : List (List WindowReader)) (s : ℕ) → length ls ≤ s → get_or ls s [] ≡ []
none_beyond [] s le = refl
none_beyond (l ∷ ls) zero le = absurd (omega (arith, le))
none_beyond (l ∷ ls) (suc s) le = none_beyond ls s (omega (arith, le))

-- A LIST GAINS one
pub gains : (vs : List (Vec WindowReader)) (s : ℕ) (r : WindowReader) (was is : Vec WindowReader) → s < length (lists vs) → was ≡ get_or vs s was → is.items ≡ was.items ++ r ∷ [] → lists (set vs s is) ≡ gained s r (lists vs)
gains vs s r was is lt at more =
    let f : Vec WindowReader → List WindowReader = λ c. c.items in
    map-set f vs s is
    ∙ ap (set (lists vs) s) (more ∙ ap (λ l. l ++ r ∷ []) (sym (list_found vs s was (omega (arith, lt, many_lists vs)) at)))

set_same : (vs : List (Vec WindowReader)) (s : ℕ) (was is : Vec WindowReader) → s < length vs → was ≡ get_or vs s was → is.items ≡ was.items → lists (set vs s is) ≡ lists vs
set_same [] s was is lt at same = refl
set_same (v ∷ vs) zero was is lt at same = ap (λ l. l ∷ lists vs) (same ∙ ap (λ (z : Vec WindowReader). z.items) at)
set_same (v ∷ vs) (suc s) was is lt at same = ap (λ ls. v.items ∷ ls) (set_same vs s was is (omega (arith, lt)) at same)

pub stays : (vs : List (Vec WindowReader)) (s : ℕ) (was is : Vec WindowReader) → s < length (lists vs) → was ≡ get_or vs s was → is.items ≡ was.items → lists (set vs s is) ≡ lists vs
stays vs s was is lt at same = set_same vs s was is (omega (arith, lt, many_lists vs)) at same

-- A QUERY LEAVES each list
pub record AreForgotten (q k : ℕ) (old new : List (List WindowReader)) : Type 0 where
  pub width : length new ≡ length old
  pub front : (s : ℕ) → s < k → get_or new s [] ≡ but_query q (get_or old s [])
  pub back : (s : ℕ) → k ≤ s → get_or new s [] ≡ get_or old s []

pub one_forgotten : (q k : ℕ) (old : List (List WindowReader)) (vs : List (Vec WindowReader)) (was is : Vec WindowReader) → k < length vs → was ≡ get_or vs k was → is.items ≡ but_query q was.items → AreForgotten q k old (lists vs) → AreForgotten q (k + 1) old (lists (set vs k is))
one_forgotten q k old vs was is lt at left h =
    let f : Vec WindowReader → List WindowReader = λ c. c.items in
    let here : lists (set vs k is) ≡ set (lists vs) k is.items = map-set f vs k is in
    let within : k < length (lists vs) = omega (arith, lt, many_lists vs) in
    record {
      width = ap (λ (z : List (List WindowReader)). length z) here ∙ length-set (lists vs) k is.items ∙ h.width;
      front = λ s le. ap (λ z. get_or z s []) here ∙ ⊎_elim
          (λ l. get_or-set_other (lists vs) k s is.items [] (λ e. omega (arith, l, e)) ∙ h.front s l)
          (λ g. let e : s ≡ k = omega (arith, g, le) in
          ap (λ z. get_or (set (lists vs) k is.items) z []) e
          ∙ get_or-set_same (lists vs) k is.items [] within
          ∙ left
          ∙ ap (but_query q) (sym (list_found vs k was lt at) ∙ h.back k (omega arith))
          ∙ ap (λ z. but_query q (get_or old z [])) (sym e))
          (cases_lt s k);
      back = λ s le. ap (λ z. get_or z s []) here ∙ get_or-set_other (lists vs) k s is.items [] (λ e. omega (arith, le, e)) ∙ h.back s (omega (arith, le));
    }

pub all_forgotten : (q k : ℕ) (old : List (List WindowReader)) (vs : List (Vec WindowReader)) → length vs ≤ k → AreForgotten q k old (lists vs) → (s : ℕ) → get_or (lists vs) s [] ≡ but_query q (get_or old s [])
all_forgotten q k old vs le h s = ⊎_elim
    (λ l. h.front s l)
    (λ g. let none : get_or old s [] ≡ [] = none_beyond old s (omega (arith, g, le, h.width, many_lists vs)) in
    h.back s g ∙ none ∙ ap (but_query q) (sym none))
    (cases_lt s k)

-- what is left of the list of all, and of those over a stream
commute : (q s : ℕ) (rs : List WindowReader) → but_query q (over_stream s rs) ≡ over_stream s (but_query q rs)
commute q s [] = refl
commute q s (r ∷ rs) = one (commute q s rs) (r.stream == s) (r.query == q) refl refl where
  one : but_query q (over_stream s rs) ≡ over_stream s (but_query q rs) → (a b : Bool) → (r.stream == s) ≡ a → (r.query == q) ≡ b → but_query q (over_stream s (r ∷ rs)) ≡ over_stream s (but_query q (r ∷ rs))
  one rest true true x y = rw (x, y) rest
  one rest true false x y = rw (x, y) (rw x (ap (λ l. r ∷ l) rest))
  one rest false true x y = rw (x, y) rest
  one rest false false x y = rw (x, y) (rw x rest)

pub forgotten_by_stream : (q : ℕ) (ls ls2 : List (List WindowReader)) (rs rs2 : List WindowReader) → AreByStream ls rs → ((s : ℕ) → get_or ls2 s [] ≡ but_query q (get_or ls s [])) → rs2 ≡ but_query q rs → AreByStream ls2 rs2
forgotten_by_stream q ls ls2 rs rs2 by left all s = left s ∙ ap (but_query q) (by s) ∙ commute q s rs ∙ ap (over_stream s) (sym all)
