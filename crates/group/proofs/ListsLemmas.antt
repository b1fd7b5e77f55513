-- Lists that stand one behind the other in one list.
use Rattle.std.proofs.Common.{◌≡◌, ℕ, zero, suc, ◌+◌, ◌-◌, ◌≤◌, ◌<◌, Bool, List, [], ◌∷◌, ◌++◌, length, take, drop, get_or, refl, ap, ap₂, sym, ◌∙◌, subst, arith, append_assoc, append-nil, length-append}
use Rattle.std.specs.Bool.{Decides}
use Rattle.std.specs.List.{All}
use Rattle.std.proofs.Math.Seq.{drop-append_seam}
use Rattle.std.proofs.lemmas.List.{take-append-le, take_all}
use Rattle.std.proofs.lemmas.List.Elements.{All-append}
use Rattle.std.proofs.lemmas.Bool.Decides.{Decides-like}
use Rattle.values.specs.declared.TheConstants.{MAX_COLUMNS}
use Rattle.group.specs.Lists.{cut, ends_of, joined, begin, IsJoined}

take_seam : {X : Type 0} (n : ℕ) (xs ys : List X) → n ≡ length xs → take n (xs ++ ys) ≡ xs
take_seam n xs ys e = take-append-le n xs ys (omega (arith, e)) ∙ take_all n xs (omega (arith, e))

drop_seam : {X : Type 0} (n : ℕ) (xs ys : List X) → length xs ≡ n → drop n (xs ++ ys) ≡ ys
drop_seam n xs ys e = ap (λ (m : ℕ). drop m (xs ++ ys)) (sym e) ∙ drop-append_seam xs ys

cut-joined : {X : Type 0} (n : ℕ) (before : List X) (ls : List (List X)) → length before ≡ n → cut n (ends_of n ls) (before ++ joined ls) ≡ ls
cut-joined n before [] e = refl
cut-joined {X} n before (l ∷ ls) e =
    let m : ℕ = n + length l in
    let first : m - n ≡ length l = omega arith in
    let wide : length (before ++ l) ≡ m = length-append before l ∙ ap (λ (k : ℕ). k + length l) e in
    ap₂ (λ (a : List X) (b : List (List X)). a ∷ b)
    (ap (take (m - n)) (drop_seam n before (l ++ joined ls) e) ∙ take_seam (m - n) l (joined ls) first)
    (ap (λ (xs : List X). cut m (ends_of m ls) xs) (sym (append_assoc before l (joined ls))) ∙ cut-joined m (before ++ l) ls wide)

-- the lists are those that the places cut
pub cut-is : {X : Type 0} (es : List ℕ) (xs : List X) (ls : List (List X)) → IsJoined es xs ls → cut 0 es xs ≡ ls
cut-is {X} es xs ls is = ap₂ (λ (fs : List ℕ) (ys : List X). cut 0 fs ys) is.ends is.all ∙ cut-joined 0 [] ls refl

pub joined-cut : {X : Type 0} (es : List ℕ) (xs : List X) (ls : List (List X)) → IsJoined es xs ls → IsJoined es xs (cut 0 es xs)
joined-cut es xs ls is = subst (IsJoined es xs) (sym (cut-is es xs ls is)) is

-- ONE MORE
ends-append : {X : Type 0} (n : ℕ) (ls : List (List X)) (l : List X) → ends_of n (ls ++ l ∷ []) ≡ ends_of n ls ++ (n + length (joined ls) + length l) ∷ []
ends-append n [] l =
    let e : n + length l ≡ n + 0 + length l = omega arith in
    ap (λ (k : ℕ). k ∷ []) e
ends-append n (m ∷ ls) l =
    let e : n + length m + length (joined ls) + length l ≡ n + length (m ++ joined ls) + length l = omega (arith, length-append m (joined ls)) in
    ap (λ (es : List ℕ). (n + length m) ∷ es) (ends-append (n + length m) ls l ∙ ap (λ (k : ℕ). ends_of (n + length m) ls ++ k ∷ []) e)

joined-append : {X : Type 0} (ls : List (List X)) (l : List X) → joined (ls ++ l ∷ []) ≡ joined ls ++ l
joined-append [] l = append-nil l
joined-append (m ∷ ls) l = ap (λ (xs : List _). m ++ xs) (joined-append ls l) ∙ sym (append_assoc m (joined ls) l)

one : {X : Type 0} (P : X → Type 0) (x : X) → P x → All P (x ∷ [])
one P x p zero d lt = p
one P x p (suc k) d lt = absurd (omega (arith, lt))

pub joined-push : {X : Type 0} (es : List ℕ) (xs : List X) (ls : List (List X)) (l : List X) → IsJoined es xs ls → length l ≤ MAX_COLUMNS → IsJoined (es ++ length (xs ++ l) ∷ []) (xs ++ l) (ls ++ l ∷ [])
joined-push {X} es xs ls l is few = record {
  ends =
      let all : length (xs ++ l) ≡ 0 + length (joined ls) + length l = omega (arith, length-append xs l, ap (λ (ys : List X). length ys) is.all) in
      ap₂ (λ (fs : List ℕ) (k : ℕ). fs ++ k ∷ []) is.ends all ∙ sym (ends-append 0 ls l);
  all = ap (λ (ys : List X). ys ++ l) is.all ∙ sym (joined-append ls l);
  narrow = All-append (λ (m : List X). length m ≤ MAX_COLUMNS) ls (l ∷ []) is.narrow (one (λ (m : List X). length m ≤ MAX_COLUMNS) l few);
}

-- what the lists are after one more
pub pushed-list : {X : Type 0} (es fs : List ℕ) (xs ys : List X) (now : List (List X)) (l : List X) (end : ℕ) → IsJoined es xs (cut 0 es xs) → cut 0 es xs ≡ now → length l ≤ MAX_COLUMNS → ys ≡ xs ++ l → end ≡ length ys → fs ≡ es ++ end ∷ []
    → IsJoined fs ys (now ++ l ∷ [])
pushed-list {X} es fs xs ys now l end was view few holds ends is =
    let more : IsJoined (es ++ length (xs ++ l) ∷ []) (xs ++ l) (now ++ l ∷ []) = joined-push es xs now l (subst (IsJoined es xs) view was) few in
    let longer : fs ≡ es ++ length (xs ++ l) ∷ [] = is ∙ ap (λ (k : ℕ). es ++ k ∷ []) (ends ∙ ap (λ (zs : List X). length zs) holds) in
    subst (λ (gs : List ℕ). IsJoined gs ys (now ++ l ∷ [])) (sym longer)
    (subst (λ (zs : List X). IsJoined (es ++ length (xs ++ l) ∷ []) zs (now ++ l ∷ [])) (sym holds) more)

-- A LIST AT ITS PLACE
length-ends : {X : Type 0} (n : ℕ) (ls : List (List X)) → length (ends_of n ls) ≡ length ls
length-ends n [] = refl
length-ends n (l ∷ ls) = ap suc (length-ends (n + length l) ls)

pub length-joined : {X : Type 0} (es : List ℕ) (xs : List X) (ls : List (List X)) → IsJoined es xs ls → length es ≡ length ls
length-joined es xs ls is = ap length is.ends ∙ length-ends 0 ls

cut-at : {X : Type 0} (n : ℕ) (es : List ℕ) (xs : List X) (k : ℕ) → k < length es → get_or (cut n es xs) k [] ≡ take (get_or es k 0 - begin n es k) (drop (begin n es k) xs)
cut-at n [] xs k lt = absurd (omega (arith, lt))
cut-at n (e ∷ es) xs zero lt = refl
cut-at n (e ∷ es) xs (suc k) lt = cut-at e es xs k (omega (arith, lt))

begin-next : (n : ℕ) (es : List ℕ) (k : ℕ) → k < length es → begin n es (suc k) ≡ get_or es k 0
begin-next n [] k lt = absurd (omega (arith, lt))
begin-next n (e ∷ es) zero lt = refl
begin-next n (e ∷ es) (suc k) lt = begin-next e es k (omega (arith, lt))

record IsPart (first last end : ℕ) : Type 0 where
  pub forward : first ≤ last
  pub within : last ≤ end

part-at : {X : Type 0} (n : ℕ) (ls : List (List X)) (k : ℕ) → k < length ls → IsPart (begin n (ends_of n ls) k) (get_or (ends_of n ls) k 0) (n + length (joined ls))
part-at n [] k lt = absurd (omega (arith, lt))
part-at n (l ∷ ls) zero lt = record { forward = omega arith; within = omega (arith, length-append l (joined ls)) }
part-at n (l ∷ ls) (suc k) lt =
    let p = part-at (n + length l) ls k (omega (arith, lt)) in
    record { forward = p.forward; within = omega (arith, p.within, length-append l (joined ls)) }

part : {X : Type 0} (es : List ℕ) (xs : List X) (ls : List (List X)) (k : ℕ) → IsJoined es xs ls → k < length ls → IsPart (begin 0 es k) (get_or es k 0) (length xs)
part {X} es xs ls k is lt =
    let p : IsPart (begin 0 es k) (get_or es k 0) (0 + length (joined ls)) = subst (λ (fs : List ℕ). IsPart (begin 0 fs k) (get_or fs k 0) (0 + length (joined ls))) (sym is.ends) (part-at 0 ls k lt) in
    record { forward = p.forward; within = omega (arith, p.within, ap (λ (ys : List X). length ys) is.all) }

-- the list at a place begins and ends within the one list
pub record ListAt {X : Type 0} (es : List ℕ) (xs : List X) (now : List (List X)) (k : ℕ) : Type 0 where
  pub ended : k < length es
  pub forward : begin 0 es k ≤ get_or es k 0
  pub within : get_or es k 0 ≤ length xs
  pub list : take (get_or es k 0 - begin 0 es k) (drop (begin 0 es k) xs) ≡ get_or now k []
  pub few : length (get_or now k []) ≤ MAX_COLUMNS

pub list-at : {X : Type 0} (es : List ℕ) (xs : List X) (now : List (List X)) (k : ℕ) → IsJoined es xs (cut 0 es xs) → cut 0 es xs ≡ now → k < length now → ListAt es xs now k
list-at {X} es xs now k was view lt =
    let is : IsJoined es xs now = subst (IsJoined es xs) view was in
    let p = part es xs now k is lt in
    let ended : k < length es = omega (arith, lt, length-joined es xs now is) in
    record {
      ended = ended;
      forward = p.forward;
      within = p.within;
      list = sym (cut-at 0 es xs k ended) ∙ ap (λ (ls : List (List X)). get_or ls k []) view;
      few = is.narrow k [] lt;
    }

-- the part of the one list is the list
pub part-is : {X : Type 0} (es : List ℕ) (xs ys l : List X) (now : List (List X)) (k first last : ℕ) → ListAt es xs now k → first ≡ begin 0 es k → last ≡ get_or es k 0 → ys ≡ xs → l ≡ take (last - first) (drop first ys) → l ≡ get_or now k []
part-is {X} es xs ys l now k first last at f t is part =
    part ∙ ap₂ (λ (a b : ℕ). take (b - a) (drop a ys)) f t ∙ ap (λ (zs : List X). take (get_or es k 0 - begin 0 es k) (drop (begin 0 es k) zs)) is ∙ at.list

-- EQUAL LISTS
pub same-joined : {X : Type 0} (es fs : List ℕ) (xs ys : List X) (ls ms : List (List X)) (r : Bool) → IsJoined es xs ls → IsJoined fs ys ms → Decides r ((es ≡ fs) × (xs ≡ ys)) → Decides r (ls ≡ ms)
same-joined {X} es fs xs ys ls ms r is js d =
    Decides-like r (λ e. sym (cut-is es xs ls is) ∙ ap₂ (λ (gs : List ℕ) (zs : List X). cut 0 gs zs) e.0 e.1 ∙ cut-is fs ys ms js)
    (λ e. (is.ends ∙ ap (λ (ns : List (List X)). ends_of 0 ns) e ∙ sym js.ends, is.all ∙ ap (λ (ns : List (List X)). joined ns) e ∙ sym js.all)) d

pub begin-before : (es : List ℕ) (k : ℕ) → 0 < k → k < length es → get_or es (k - 1) 0 ≡ begin 0 es k
begin-before es zero pos lt = absurd (omega (arith, pos))
begin-before es (suc k) pos lt =
    let e : suc k - 1 ≡ k = omega arith in
    ap (λ (j : ℕ). get_or es j 0) e ∙ sym (begin-next 0 es k (omega (arith, lt)))
