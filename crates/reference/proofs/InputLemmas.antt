-- Inputs copied out of a stream, row by row, and answers over them.
use Rattle.std.proofs.Common.{nat_lt, pos, drop, append_assoc, Result, Ok, Err, IfOk, ◌⊎◌, inl, inr, Vec, ◌≡◌, ◌≤◌, ◌<◌, ◌+◌, ◌-◌, ℕ, zero, suc, ℤ, Bool, true, false, ◌&&◌, nat_le, Option, Some, None, List, [], ◌∷◌, ◌++◌, length, map, take, get_or, min, max, unwrap_or, fold, refl, sym, ap, ◌∙◌, arith}
use Rattle.std.specs.List.{AllByRecursion, reduce, range_with_len, flat_map}
use Rattle.std.proofs.lemmas.List.{map-append, drop_all, length-map}
use Rattle.std.proofs.lemmas.List.Folds.{list_all-append}
use Rattle.std.proofs.lemmas.Bool.{lt-ltb, ltb-true}
use Rattle.std.proofs.lemmas.Grind.{take_at_read}
use Rattle.std.specs.declared.alloc.Global.{Global}
use Rattle.reference.specs.CallViews.{handed_of}
use Rattle.reference.specs.World.{handed}
use Rattle.arrayvec.specs.ArrayVec.{ArrayVec}
use Rattle.values.specs.Row.{Row}
use Rattle.values.specs.Perm.{same}
use Rattle.values.specs.Window.{Element, Window, numbered, input_of, window_rows}
use Rattle.values.specs.Plain.{plain}
use Rattle.values.specs.Answers.{Resolved, shown_at, answers, answers_at}
use Rattle.values.proofs.Renumber.{increasing-numbered, increasing-filter, window_rows-plain}
use Rattle.values.specs.Tables.{SameTables}
use Rattle.values.proofs.Worlds.{same-answers}
use Rattle.reference.specs.Inputs.{ShowsSame, EachShowsSame, are_signed}
use Rattle.reference.specs.Views.{pairs_of, elements_of, inputs_of}

abbrev Pairs : Type 0
Pairs = List (ℕ × ArrayVec (Option ℤ))

abbrev counts : ℕ → ℕ → Element → Bool
counts place from e = nat_le place e.arrival && nat_le from e.instant

-- what was copied shows the same
pub copied-shows : (place from : ℕ) (es : List (ℕ × Row)) (copy : Pairs) → pairs_of copy ≡ plain (input_of place from (numbered 0 es))
    → ShowsSame (input_of place from (numbered 0 es)) (elements_of copy)
copied-shows place from es copy h = record {
  shows = λ start w t.
      window_rows-plain start w t (input_of place from (numbered 0 es)) (increasing-filter (counts place from) (numbered 0 es) (increasing-numbered 0 es))
      ∙ ap (λ pairs. window_rows start w t (numbered 0 pairs)) (sym h);
}

pub each-push : (is js : List (List Element)) (x y : List Element) → EachShowsSame is js → ShowsSame x y → EachShowsSame (is ++ x ∷ []) (js ++ y ∷ [])
each-push [] [] x y e s = (s, tt)
each-push [] (g ∷ js) x y e s = absurd e
each-push (e ∷ is) [] x y h s = absurd h
each-push (e ∷ is) (g ∷ js) x y h s = (h.0, each-push is js x y h.1 s)

shown-same : (from t : ℕ) (ws : List Window) (is js : List (List Element)) → EachShowsSame is js → SameTables (shown_at from ws t is) (shown_at from ws t js)
shown-same from t [] is js h = tt
shown-same from t (w ∷ ws) [] [] h = tt
shown-same from t (w ∷ ws) [] (g ∷ js) h = absurd h
shown-same from t (w ∷ ws) (e ∷ is) [] h = absurd h
shown-same from t (w ∷ ws) (e ∷ is) (g ∷ js) h =
    (rw (h.0.shows from w t) (same (window_rows from w t g)), shown-same from t ws is js h.1)

-- inputs that no window tells apart have the same answers
pub answers-same : (q : Resolved) (from until : ℕ) (is js : List (List Element)) → EachShowsSame is js → answers q from until is ≡ answers q from until js
answers-same q from until is js h = same-answers q from is js until (λ t le lt. shown-same from t q.windows is js h)

-- answers are of instants below the end
both : (a b : Bool) → a ≡ true → b ≡ true → (a && b) ≡ true
both a b p q = rw (p, q) refl

early_rows : (t : ℕ) (rows : List Row) → nat_lt t 0x8000_0000_0000_0000 ≡ true → are_signed (map (λ r. (t, r)) rows) ≡ true
early_rows t [] h = refl
early_rows t (r ∷ rows) h = both _ _ h (early_rows t rows h)

early_append : (xs ys : List (ℕ × Row)) → are_signed xs ≡ true → are_signed ys ≡ true → are_signed (xs ++ ys) ≡ true
early_append xs ys h k = list_all-append (λ a. nat_lt a.0 0x8000_0000_0000_0000) xs ys ∙ both _ _ h k

early_range : (q : Resolved) (from : ℕ) (is : List (List Element)) (a n : ℕ) → a + n ≤ 0x8000_0000_0000_0000
    → are_signed (flat_map (answers_at q from is) (range_with_len a n)) ≡ true
early_range q from is a zero h = refl
early_range q from is a (suc n) h =
    early_append (answers_at q from is a) (flat_map (answers_at q from is) (range_with_len (a + 1) n))
    (early_rows a _ (lt-ltb a 0x8000_0000_0000_0000 (omega arith))) (early_range q from is (a + 1) n (omega arith))

early_answers : (q : Resolved) (from until : ℕ) (is : List (List Element)) → until ≤ 1099511627777 → (from ≤ until) ⊎ (until ≤ from) → are_signed (answers q from until is) ≡ true
early_answers q from until is le (inl h) = early_range q from is from (until - from) (omega arith)
early_answers q from until is le (inr h) = let e : until - from ≡ 0 = omega arith in ap (λ n. are_signed (flat_map (answers_at q from is) (range_with_len from n))) e

pub answers-signed : (q : Resolved) (from until : ℕ) (is : List (List Element)) → until ≤ 1099511627777 → are_signed (answers q from until is) ≡ true
answers-signed q from until is le = early_answers q from until is le (le_total from until)
  where
    le_total : (a b : ℕ) → (a ≤ b) ⊎ (b ≤ a)
    le_total a b = grind arith

pub if_ok : {A E : Type 0} {P Q : A → Type 0} → ((v : A) → P v → Q v) → (r : Result A E) → IfOk r P → IfOk r Q
if_ok f (Ok v) h = f v h
if_ok f (Err e) h = tt

pub each-more : {X Y : Type 0} (f : Y → List Element) (g : X → Y) (xs : List X) (i : ℕ) (d : X) (new old : List (Vec (ℕ × ArrayVec (Option ℤ)) Global)) (v : Vec (ℕ × ArrayVec (Option ℤ)) Global)
    → i < length xs → new ≡ old ++ v ∷ []
    → EachShowsSame (map f (map g (take i xs))) (inputs_of old) → ShowsSame (f (g (get_or xs i d))) (elements_of v.items)
    → EachShowsSame (map f (map g (take (i + 1) xs))) (inputs_of new)
each-more f g xs i d new old v lt pushed h s =
    let x : _ = get_or xs i d in
    let taken : take (i + 1) xs ≡ take i xs ++ x ∷ [] = (take_at_read xs i d lt).1 in
    let left : map f (map g (take (i + 1) xs)) ≡ map f (map g (take i xs)) ++ f (g x) ∷ []
    = ap (λ ys. map f (map g ys)) taken ∙ ap (map f) (map-append g (take i xs) (x ∷ [])) ∙ map-append f (map g (take i xs)) (g x ∷ []) in
    let right : inputs_of new ≡ inputs_of old ++ elements_of v.items ∷ []
    = ap inputs_of pushed ∙ map-append (λ (w : Vec (ℕ × ArrayVec (Option ℤ)) Global). elements_of w.items) old (v ∷ []) in
    rw (left, right) (each-push (map f (map g (take i xs))) (inputs_of old) (f (g x)) (elements_of v.items) h s)

-- one answer more is handed out
pub moved : (rows pushed : List (ℤ × ArrayVec (Option ℤ))) (old new : Pairs) (x : ℕ × ArrayVec (Option ℤ)) (n m : ℕ) → n ≡ m + 1
    → old ≡ x ∷ new → pushed ≡ rows ++ (pos x.0, x.1) ∷ []
    → handed_of pushed ++ handed (take m (pairs_of new)) ≡ handed_of rows ++ handed (take n (pairs_of old))
moved rows pushed old new x n m count front back =
    let next : n ≡ suc m = omega (arith, count) in
    rw (back, front, next)
    (ap (λ v. v ++ handed (take m (pairs_of new))) (map-append (λ (a : ℤ × ArrayVec (Option ℤ)). (a.0, a.1.items)) rows ((pos x.0, x.1) ∷ []))
    ∙ append_assoc (handed_of rows) ((pos x.0, x.1.items) ∷ []) (handed (take m (pairs_of new))))

pub signed-rest : (old new : Pairs) (x : ℕ × ArrayVec (Option ℤ)) → old ≡ x ∷ new → are_signed (pairs_of old) ≡ true → are_signed (pairs_of new) ≡ true
signed-rest old new x front h = second (nat_lt x.0 0x8000_0000_0000_0000) _ (rw front at h)
  where
    second : (a b : Bool) → (a && b) ≡ true → b ≡ true
    second true b h = h
    second false b h = cc

pub signed-first : (old new : Pairs) (x : ℕ × ArrayVec (Option ℤ)) → old ≡ x ∷ new → are_signed (pairs_of old) ≡ true → x.0 < 0x8000_0000_0000_0000
signed-first old new x front h = ltb-true x.0 0x8000_0000_0000_0000 (first (nat_lt x.0 0x8000_0000_0000_0000) _ (rw front at h))
  where
    first : (a b : Bool) → (a && b) ≡ true → a ≡ true
    first true b h = refl
    first false b h = cc

pub signed-drop : (n : ℕ) (rows : List (ℕ × Row)) → are_signed rows ≡ true → are_signed (drop n rows) ≡ true
signed-drop zero rows h = h
signed-drop (suc n) [] h = refl
signed-drop (suc n) (r ∷ rows) h = signed-drop n rows (second (nat_lt r.0 0x8000_0000_0000_0000) _ h)
  where
    second : (a b : Bool) → (a && b) ≡ true → b ≡ true
    second true b h = h
    second false b h = cc

-- the greatest and the least so far
pub reduce-more : (f : ℕ → ℕ → ℕ) (xs : List ℕ) (y : ℕ) → reduce f (xs ++ y ∷ []) ≡ Some (elim (reduce f xs) as (λ _. ℕ) [ None ↦ y | Some x ↦ f x y ])
reduce-more f [] y = refl
reduce-more f (x ∷ xs) y = ap (λ (v : ℕ). Some v) (fold-push f x xs y)
  where
    fold-push : (f : ℕ → ℕ → ℕ) (a : ℕ) (xs : List ℕ) (y : ℕ) → fold f a (xs ++ y ∷ []) ≡ f (fold f a xs) y
    fold-push f a [] y = refl
    fold-push f a (x ∷ xs) y = fold-push f (f a x) xs y

pub pairs-drop : (n : ℕ) (es : Pairs) → pairs_of (drop n es) ≡ drop n (pairs_of es)
pairs-drop zero es = refl
pairs-drop (suc n) [] = refl
pairs-drop (suc n) (e ∷ es) = pairs-drop n es

dropped : (n count : ℕ) (es ws : Pairs) → ws ≡ drop n es → (n ≡ count) ⊎ ((n ≡ length es) × (length es ≤ count)) → pairs_of ws ≡ drop count (pairs_of es)
dropped n count es ws h (inl e) = ap pairs_of h ∙ pairs-drop n es ∙ ap (λ k. drop k (pairs_of es)) e
dropped n count es ws h (inr (e, le)) =
    let none : drop n es ≡ [] = drop_all n es (omega arith) in
    let all : drop count (pairs_of es) ≡ [] = drop_all count (pairs_of es) (rw (length-map {B = ℕ × Row} es (λ (x : ℕ × ArrayVec (Option ℤ)). (x.0, x.1.items))) le) in
    ap pairs_of (h ∙ none) ∙ sym all

pub dropped-least : (n count : ℕ) (es ws : Pairs) → ws ≡ drop n es → n ≡ min (length es) count → pairs_of ws ≡ drop count (pairs_of es)
dropped-least n count es ws h least = dropped n count es ws h (which n count (length es) least)
  where
    which : (n count len : ℕ) → n ≡ min len count → (n ≡ count) ⊎ ((n ≡ len) × (len ≤ count))
    which n count len e = grind arith

-- the front is taken off what is left
pub drop-next : {X : Type 0} (k : ℕ) (xs : List X) (y : X) (ys : List X) → y ∷ ys ≡ drop k xs → ys ≡ drop (k + 1) xs
drop-next zero xs y ys h = ap (drop 1) h
drop-next (suc k) [] y ys h = cc
drop-next (suc k) (x ∷ xs) y ys h =
    let e : suc (k + 1) ≡ suc k + 1 = omega arith in
    drop-next k xs y ys h ∙ ap (λ n. drop n (x ∷ xs)) e

-- an answer of the front is early, too, and one more is read
pub signed-at : (i : ℕ) (es : Pairs) (x : ℕ × ArrayVec (Option ℤ)) → i < length es → x ≡ get_or es i x → are_signed (pairs_of es) ≡ true → x.0 < 0x8000_0000_0000_0000
signed-at i [] x lt e h = absurd (omega (arith, lt))
signed-at zero (y ∷ es) x lt e h = signed-first (y ∷ es) es x (ap (λ (z : ℕ × ArrayVec (Option ℤ)). z ∷ es) (sym e)) h
signed-at (suc i) (y ∷ es) x lt e h = signed-at i es x (omega (arith, lt)) e (signed-rest (y ∷ es) es y refl h)

pub front-more : (i : ℕ) (es : Pairs) (x : ℕ × ArrayVec (Option ℤ)) (rows new : List (ℤ × Row)) → i < length es → x ≡ get_or es i x
    → rows ≡ handed (take i (pairs_of es)) → new ≡ rows ++ (pos x.0, x.1.items) ∷ [] → new ≡ handed (take (i + 1) (pairs_of es))
front-more i es x rows new lt e before more =
    more ∙ ap (λ (rs : List (ℤ × Row)). rs ++ (pos x.0, x.1.items) ∷ []) before ∙ one i es lt e
  where
    one : (i : ℕ) (es : Pairs) → i < length es → x ≡ get_or es i x → handed (take i (pairs_of es)) ++ (pos x.0, x.1.items) ∷ [] ≡ handed (take (i + 1) (pairs_of es))
    one i [] lt e = absurd (omega (arith, lt))
    one zero (y ∷ es) lt e = ap (λ (z : ℕ × ArrayVec (Option ℤ)). (pos z.0, z.1.items) ∷ []) e
    one (suc i) (y ∷ es) lt e =
        let k : suc i + 1 ≡ suc (i + 1) = omega arith in
        ap (λ (rs : List (ℤ × Row)). (pos y.0, y.1.items) ∷ rs) (one i es (omega (arith, lt)) e)
        ∙ ap (λ (n : ℕ). handed (take n (pairs_of (y ∷ es)))) (sym k)

-- the greatest of early instants is early
pub greatest-early : (b : ℕ) (xs : List ℕ) → AllByRecursion (λ n. n ≤ b) xs → unwrap_or (reduce max xs) 0 ≤ b
greatest-early b [] h = omega arith
greatest-early b (x ∷ xs) h = folded b x xs h.0 h.1
  where
    folded : (b x : ℕ) (xs : List ℕ) → x ≤ b → AllByRecursion (λ n. n ≤ b) xs → fold max x xs ≤ b
    folded b x [] le h = le
    folded b x (y ∷ xs) le h = folded b (max x y) xs (omega (arith, le, h.0)) h.1
