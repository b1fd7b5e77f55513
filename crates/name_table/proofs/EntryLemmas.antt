-- The entries of a table: which number a name has, and which name a number has.
use Rattle.std.proofs.Common.{◌≡◌, ◌<◌, ◌+◌, ◌==◌, ℕ, Bool, true, false, cond, Option, Some, None, List, [], ◌∷◌, refl, sym, ap, subst, ◌∙◌, arith, String, string_bytes}
use Rattle.std.specs.declared.alloc.Global.{Global}
use Rattle.std.specs.declared.cmp.Ordering.{Ordering}
use Rattle.std.specs.declared.cmp.Ordering.TheVariants.{Less, Equal, Greater}
use Rattle.std.specs.Ordering.{is_eq, nat_cmp, match_ordering}
use Rattle.std.specs.Cmp.Lexicographic.{slice_cmp}
use Rattle.std.specs.String.{string_cmp}
use Rattle.std.specs.Map.{lookup, remove_entry, keys_of}
use Rattle.std.specs.BTreeMap.{is_at, insert_entry}
use Rattle.std.specs.List.{AllByRecursion}
use Rattle.std.specs.List.Sorted.{IsStrictlySortedBy}
use Rattle.std.proofs.lemmas.Map.Keys.{sorted_head, sorted_tail}
use Rattle.std.proofs.lemmas.Map.Text.{is_eq-slice_cmp}
use Rattle.std.proofs.lemmas.Slice.Eq.{bytes_eq-Decides}
use Rattle.std.proofs.lemmas.Bool.{eqb-true, eq-eqb}
use Rattle.name_table.specs.Entries.{name_at, IsOnce}

abbrev pub Key : Type 0
Key = String Global

-- whether the key has these bytes
abbrev pub at : List ℕ → Key → Bool
at cs = is_at (λ k. slice_cmp nat_cmp cs (string_bytes k))

-- the number of a name
abbrev pub found : List ℕ → List (Key × ℕ) → Option ℕ
found cs es = lookup (at cs) es

pub same_bytes : (cs : List ℕ) (k : Key) → at cs k ≡ true → cs ≡ string_bytes k
same_bytes cs k h = (bytes_eq-Decides cs (string_bytes k)).0 (sym (is_eq-slice_cmp cs (string_bytes k)) ∙ h)

pub at_itself : (k : Key) → at (string_bytes k) k ≡ true
at_itself k = is_eq-slice_cmp (string_bytes k) (string_bytes k) ∙ (bytes_eq-Decides (string_bytes k) (string_bytes k)).1 refl

same_some : {X : Type 0} (x y : X) → Some x ≡ Some y → x ≡ y
same_some x y h = cc

-- a key that comes before all others is none of them
absent : (k : Key) (es : List (Key × ℕ)) → AllByRecursion (λ y. string_cmp k y ≡ Less) (keys_of es) → found (string_bytes k) es ≡ None
absent k [] h = refl
absent k (e ∷ es) h = rw (h.0) (absent k es h.1)

-- the name has the number that has the name
pub named : (cs : List ℕ) (n : ℕ) (es : List (Key × ℕ)) → IsOnce es → found cs es ≡ Some n → name_at es n ≡ Some cs
named cs n [] once h = cc
named cs n (e ∷ es) once h = here (named cs n es once.1) (at cs e.0) refl
  where
    later : (b : Bool) → (e.1 == n) ≡ b → name_at es n ≡ Some cs → cond b (Some (string_bytes e.0)) (name_at es n) ≡ Some cs
    later false i g = g
    later true i g = let j : e.1 ≡ n = eqb-true e.1 n i in let k : name_at es n ≡ None = subst (λ z. name_at es z ≡ None) j once.0 in cc

    here : (found cs es ≡ Some n → name_at es n ≡ Some cs) → (b : Bool) → at cs e.0 ≡ b → cond (e.1 == n) (Some (string_bytes e.0)) (name_at es n) ≡ Some cs
    here ih true i = let j : e.1 ≡ n = same_some e.1 n (sym (ap (λ b. cond b (Some e.1) (found cs es)) i) ∙ h) in
        rw (eq-eqb e.1 n j) (ap (λ z. Some z) (sym (same_bytes cs e.0 i)))
    here ih false i = later (e.1 == n) refl (ih (sym (ap (λ b. cond b (Some e.1) (found cs es)) i) ∙ h))

-- the number has the name that has the number
pub numbered : (cs : List ℕ) (n : ℕ) (es : List (Key × ℕ)) → IsStrictlySortedBy string_cmp (keys_of es) → name_at es n ≡ Some cs → found cs es ≡ Some n
numbered cs n [] sorted h = cc
numbered cs n (e ∷ es) sorted h = here (numbered cs n es (sorted_tail string_cmp e.0 (keys_of es) sorted)) (e.1 == n) refl
  where
    later : (b : Bool) → at cs e.0 ≡ b → found cs es ≡ Some n → cond b (Some e.1) (found cs es) ≡ Some n
    later false i g = g
    later true i g =
        let none : found cs es ≡ None = subst (λ (z : List ℕ). found z es ≡ None) (sym (same_bytes cs e.0 i)) (absent e.0 es (sorted_head string_cmp e.0 (keys_of es) sorted)) in cc

    here : (name_at es n ≡ Some cs → found cs es ≡ Some n) → (b : Bool) → (e.1 == n) ≡ b → cond (at cs e.0) (Some e.1) (found cs es) ≡ Some n
    here ih true i =
        let j : string_bytes e.0 ≡ cs = same_some (string_bytes e.0) cs (sym (ap (λ b. cond b (Some (string_bytes e.0)) (name_at es n)) i) ∙ h) in
        let k : at cs e.0 ≡ true = subst (λ (z : List ℕ). at z e.0 ≡ true) j (at_itself e.0) in
        rw k (ap (λ z. Some z) (eqb-true e.1 n i))
    here ih false i = later (at cs e.0) refl (ih (sym (ap (λ b. cond b (Some (string_bytes e.0)) (name_at es n)) i) ∙ h))

-- a name's number was given
pub given_below : (cs : List ℕ) (n count : ℕ) (es : List (Key × ℕ)) → AllByRecursion (λ e. e.1 < count) es → found cs es ≡ Some n → n < count
given_below cs n count [] given h = cc
given_below cs n count (e ∷ es) given h = here (given_below cs n count es given.1) (at cs e.0) refl
  where
    here : (found cs es ≡ Some n → n < count) → (b : Bool) → at cs e.0 ≡ b → n < count
    here ih true i = subst (λ z. z < count) (same_some e.1 n (sym (ap (λ b. cond b (Some e.1) (found cs es)) i) ∙ h)) given.0
    here ih false i = ih (sym (ap (λ b. cond b (Some e.1) (found cs es)) i) ∙ h)

-- a number that was not given has no name
pub not_given : (n : ℕ) (es : List (Key × ℕ)) → AllByRecursion (λ e. e.1 < n) es → name_at es n ≡ None
not_given n [] given = refl
not_given n (e ∷ es) given = here (not_given n es given.1) (e.1 == n) refl
  where
    here : name_at es n ≡ None → (b : Bool) → (e.1 == n) ≡ b → cond b (Some (string_bytes e.0)) (name_at es n) ≡ None
    here ih false i = ih
    here ih true i = let j : e.1 ≡ n = eqb-true e.1 n i in absurd (omega (arith, j, given.0))

-- ---- one more name
swapped : {X : Type 0} (a b : Bool) (x y z : X) → (a ≡ true → b ≡ true → ⊥) → cond a x (cond b y z) ≡ cond b y (cond a x z)
swapped false b x y z apart = refl
swapped true false x y z apart = refl
swapped true true x y z apart = absurd (apart refl refl)

module _ (k : Key) (v : ℕ) where
  named_after : (e : Key × ℕ) (es : List (Key × ℕ)) (n : ℕ) → at (string_bytes k) e.0 ≡ false → e.1 < v
      → name_at (insert_entry string_cmp es k v) n ≡ cond (v == n) (Some (string_bytes k)) (name_at es n)
      → (o : Ordering) → string_cmp k e.0 ≡ o
      → name_at (match_ordering o ((k, v) ∷ e ∷ es) ((e.0, v) ∷ es) (e ∷ insert_entry string_cmp es k v)) n
      ≡ cond (v == n) (Some (string_bytes k)) (cond (e.1 == n) (Some (string_bytes e.0)) (name_at es n))
  named_after e es n other lt ih Less h = refl
  named_after e es n other lt ih Equal h = let g : true ≡ false = sym (ap is_eq h) ∙ other in cc
  named_after e es n other lt ih Greater h =
      ap (λ (r : Option (List ℕ)). cond (e.1 == n) (Some (string_bytes e.0)) r) ih
      ∙ swapped (e.1 == n) (v == n) (Some (string_bytes e.0)) (Some (string_bytes k)) (name_at es n)
      (λ i j. let a : e.1 ≡ n = eqb-true e.1 n i in let b : v ≡ n = eqb-true v n j in omega (arith, a, b, lt))

  first_other : (e : Key × ℕ) (es : List (Key × ℕ)) → found (string_bytes k) (e ∷ es) ≡ None → (at (string_bytes k) e.0 ≡ false) × (found (string_bytes k) es ≡ None)
  first_other e es h = here (at (string_bytes k) e.0) refl
    where
      here : (b : Bool) → at (string_bytes k) e.0 ≡ b → (at (string_bytes k) e.0 ≡ false) × (found (string_bytes k) es ≡ None)
      here false i = (i, sym (ap (λ b. cond b (Some e.1) (found (string_bytes k) es)) i) ∙ h)
      here true i = let g : Some e.1 ≡ None = sym (ap (λ b. cond b (Some e.1) (found (string_bytes k) es)) i) ∙ h in cc

  pub named-insert_entry : (n : ℕ) (es : List (Key × ℕ)) → found (string_bytes k) es ≡ None → AllByRecursion (λ e. e.1 < v) es
      → name_at (insert_entry string_cmp es k v) n ≡ cond (v == n) (Some (string_bytes k)) (name_at es n)
  named-insert_entry n [] h given = refl
  named-insert_entry n (e ∷ es) h given =
      named_after e es n (first_other e es h).0 given.0 (named-insert_entry n es (first_other e es h).1 given.1) (string_cmp k e.0) refl

  given_after : (e : Key × ℕ) (es : List (Key × ℕ)) → at (string_bytes k) e.0 ≡ false → e.1 < v → AllByRecursion (λ e. e.1 < v) es
      → AllByRecursion (λ e. e.1 < v + 1) es → AllByRecursion (λ e. e.1 < v + 1) (insert_entry string_cmp es k v)
      → (o : Ordering) → string_cmp k e.0 ≡ o
      → AllByRecursion (λ e. e.1 < v + 1) (match_ordering o ((k, v) ∷ e ∷ es) ((e.0, v) ∷ es) (e ∷ insert_entry string_cmp es k v))
  given_after e es other lt given wide ih Less h = (omega arith, (omega (arith, lt), wide))
  given_after e es other lt given wide ih Equal h = let g : true ≡ false = sym (ap is_eq h) ∙ other in cc
  given_after e es other lt given wide ih Greater h = (omega (arith, lt), ih)

  wider : (es : List (Key × ℕ)) → AllByRecursion (λ e. e.1 < v) es → AllByRecursion (λ e. e.1 < v + 1) es
  wider [] given = tt
  wider (e ∷ es) given = (omega (arith, given.0), wider es given.1)

  pub given-insert_entry : (es : List (Key × ℕ)) → found (string_bytes k) es ≡ None → AllByRecursion (λ e. e.1 < v) es → AllByRecursion (λ e. e.1 < v + 1) (insert_entry string_cmp es k v)
  given-insert_entry [] h given = (omega arith, tt)
  given-insert_entry (e ∷ es) h given =
      given_after e es (first_other e es h).0 given.0 given.1 (wider es given.1) (given-insert_entry es (first_other e es h).1 given.1) (string_cmp k e.0) refl

  once_after : (e : Key × ℕ) (es : List (Key × ℕ)) → at (string_bytes k) e.0 ≡ false → found (string_bytes k) es ≡ None → e.1 < v → AllByRecursion (λ e. e.1 < v) es
      → name_at es e.1 ≡ None → IsOnce es → IsOnce (insert_entry string_cmp es k v)
      → (o : Ordering) → string_cmp k e.0 ≡ o
      → IsOnce (match_ordering o ((k, v) ∷ e ∷ es) ((e.0, v) ∷ es) (e ∷ insert_entry string_cmp es k v))
  once_after e es other none lt given alone once ih Less h = (not_given v (e ∷ es) (lt, given), (alone, once))
  once_after e es other none lt given alone once ih Equal h = let g : true ≡ false = sym (ap is_eq h) ∙ other in cc
  once_after e es other none lt given alone once ih Greater h = (named-insert_entry e.1 es none given ∙ here (v == e.1) refl, ih)
    where
      here : (b : Bool) → (v == e.1) ≡ b → cond b (Some (string_bytes k)) (name_at es e.1) ≡ None
      here false i = alone
      here true i = let j : v ≡ e.1 = eqb-true v e.1 i in absurd (omega (arith, j, lt))

  pub once-insert_entry : (es : List (Key × ℕ)) → found (string_bytes k) es ≡ None → AllByRecursion (λ e. e.1 < v) es → IsOnce es → IsOnce (insert_entry string_cmp es k v)
  once-insert_entry [] h given once = (refl, tt)
  once-insert_entry (e ∷ es) h given once =
      once_after e es (first_other e es h).0 (first_other e es h).1 given.0 given.1 once.0 once.1 (once-insert_entry es (first_other e es h).1 given.1 once.1) (string_cmp k e.0) refl

-- ---- a name less
module _ (cs : List ℕ) where
  pub named-remove_entry : (m n : ℕ) (es : List (Key × ℕ)) → IsOnce es → found cs es ≡ Some m → name_at (remove_entry (at cs) es) n ≡ cond (m == n) None (name_at es n)
  named-remove_entry m n [] once h = cc
  named-remove_entry m n (e ∷ es) once h = here (named-remove_entry m n es once.1) (at cs e.0) refl
    where
      gone : (b : Bool) → (e.1 == n) ≡ b → name_at es n ≡ cond b None (cond b (Some (string_bytes e.0)) (name_at es n))
      gone false i = refl
      gone true i = subst (λ z. name_at es z ≡ None) (eqb-true e.1 n i) once.0

      here : (found cs es ≡ Some m → name_at (remove_entry (at cs) es) n ≡ cond (m == n) None (name_at es n)) → (b : Bool) → at cs e.0 ≡ b
          → name_at (cond b es (e ∷ remove_entry (at cs) es)) n ≡ cond (m == n) None (cond (e.1 == n) (Some (string_bytes e.0)) (name_at es n))
      here ih true i =
          let j : e.1 ≡ m = same_some e.1 m (sym (ap (λ b. cond b (Some e.1) (found cs es)) i) ∙ h) in
          subst (λ z. name_at es n ≡ cond (z == n) None (cond (e.1 == n) (Some (string_bytes e.0)) (name_at es n))) j (gone (e.1 == n) refl)
      here ih false i =
          let g : found cs es ≡ Some m = sym (ap (λ b. cond b (Some e.1) (found cs es)) i) ∙ h in
          ap (λ (r : Option (List ℕ)). cond (e.1 == n) (Some (string_bytes e.0)) r) (ih g)
          ∙ swapped (e.1 == n) (m == n) (Some (string_bytes e.0)) None (name_at es n)
          (λ a b. let x : e.1 ≡ m = eqb-true e.1 n a ∙ sym (eqb-true m n b) in let y : name_at es m ≡ None = subst (λ z. name_at es z ≡ None) x once.0 in let z : name_at es m ≡ Some cs = named cs m es once.1 g in cc)

  pub given-remove_entry : (count : ℕ) (es : List (Key × ℕ)) → AllByRecursion (λ e. e.1 < count) es → AllByRecursion (λ e. e.1 < count) (remove_entry (at cs) es)
  given-remove_entry count [] given = tt
  given-remove_entry count (e ∷ es) given = here (given-remove_entry count es given.1) (at cs e.0)
    where
      here : AllByRecursion (λ e. e.1 < count) (remove_entry (at cs) es) → (b : Bool) → AllByRecursion (λ e. e.1 < count) (cond b es (e ∷ remove_entry (at cs) es))
      here ih true = given.1
      here ih false = (given.0, ih)

  fewer : (n : ℕ) (es : List (Key × ℕ)) → name_at es n ≡ None → name_at (remove_entry (at cs) es) n ≡ None
  fewer n [] h = refl
  fewer n (e ∷ es) h = here (fewer n es) (at cs e.0) (e.1 == n) refl
    where
      here : (name_at es n ≡ None → name_at (remove_entry (at cs) es) n ≡ None) → (b c : Bool) → (e.1 == n) ≡ c → name_at (cond b es (e ∷ remove_entry (at cs) es)) n ≡ None
      here ih b true i = let g : Some (string_bytes e.0) ≡ None = sym (ap (λ c. cond c (Some (string_bytes e.0)) (name_at es n)) i) ∙ h in cc
      here ih true false i = sym (ap (λ c. cond c (Some (string_bytes e.0)) (name_at es n)) i) ∙ h
      here ih false false i = rw i (ih (sym (ap (λ c. cond c (Some (string_bytes e.0)) (name_at es n)) i) ∙ h))

  pub once-remove_entry : (es : List (Key × ℕ)) → IsOnce es → IsOnce (remove_entry (at cs) es)
  once-remove_entry [] once = tt
  once-remove_entry (e ∷ es) once = here (once-remove_entry es once.1) (at cs e.0)
    where
      here : IsOnce (remove_entry (at cs) es) → (b : Bool) → IsOnce (cond b es (e ∷ remove_entry (at cs) es))
      here ih true = once.1
      here ih false = (fewer e.1 es once.0, ih)
