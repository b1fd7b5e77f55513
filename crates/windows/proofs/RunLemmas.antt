-- Runs of instants.
use Rattle.std.proofs.Common.{◌≡◌, ℕ, zero, suc, ◌+◌, ◌-◌, ◌<◌, ◌≤◌, Bool, true, false, cond, nat_lt, List, [], ◌∷◌, ◌++◌, length, drop, take, get_or, replicate, refl, ap, ap₂, sym, ◌∙◌, arith, append-nil, append_assoc, length-append, drop-cons, add-one, set, subst, drop_of_length-le}
use Rattle.std.proofs.Math.Seq.{drop-append-add, take-append_seam}
use Rattle.std.specs.List.{prefix_len}
use Rattle.std.proofs.lemmas.Grind.{flat_map-append}
use Rattle.std.proofs.lemmas.Bool.Decides.{nat_tests}
use Rattle.std.proofs.lemmas.List.{drop-append-le, drop-replicate, length-replicate, replicate-append-replicate}
use Rattle.std.proofs.lemmas.List.Elements.{All-tail, All-cons, All-take, All-push}
use Rattle.windows.specs.declared.runs.Run.{Run}
use Rattle.windows.specs.Held.{AreRuns, instants_in}

-- the instant of a run as often as it counts
abbrev repeated : Run → List ℕ
repeated r = replicate r.count r.instant

pub instants_in-push : (runs : List Run) (r : Run) → instants_in (runs ++ r ∷ []) ≡ instants_in runs ++ replicate r.count r.instant
instants_in-push runs r = flat_map-append repeated runs (r ∷ []) ∙ ap (λ ts. instants_in runs ++ ts) (append-nil (repeated r))

-- a run more, in which the last one went on
pub instants_in-longer : (runs old new : List Run) (r : Run) (before : ℕ) (count : ℕ) (t : ℕ) → instants_in old ≡ instants_in runs ++ replicate before t → new ≡ runs ++ r ∷ [] → r.instant ≡ t → r.count ≡ before + count
    → instants_in new ≡ instants_in old ++ replicate count t
instants_in-longer runs old new r before count t split is at counts =
    ap instants_in is
    ∙ instants_in-push runs r
    ∙ ap₂ (λ (n u : ℕ). instants_in runs ++ replicate n u) counts at
    ∙ ap (λ ts. instants_in runs ++ ts) (sym (replicate-append-replicate before count t))
    ∙ sym (append_assoc (instants_in runs) (replicate before t) (replicate count t))
    ∙ ap (λ ts. ts ++ replicate count t) (sym split)

-- a part of the first run leaves
pub drop-in_run : (left : ℕ) (r : Run) (runs : List Run) (rest : Run) → left ≤ r.count → rest.instant ≡ r.instant → rest.count ≡ r.count - left → drop left (instants_in (r ∷ runs)) ≡ instants_in (rest ∷ runs)
drop-in_run left r runs rest le at counts =
    let long : left ≤ length (repeated r) = omega (arith, length-replicate r.count r.instant) in
    drop-append-le left (repeated r) (instants_in runs) long
    ∙ ap (λ ts. ts ++ instants_in runs) (drop-replicate left r.count r.instant ∙ sym (ap₂ (λ (n t : ℕ). replicate n t) counts at))

-- the whole first run leaves
pub drop-past_run : (left : ℕ) (r : Run) (runs : List Run) → r.count ≤ left → drop left (instants_in (r ∷ runs)) ≡ drop (left - r.count) (instants_in runs)
drop-past_run left r runs le =
    let split : left ≡ length (repeated r) + (left - r.count) = omega (arith, length-replicate r.count r.instant) in
    ap (λ n. drop n (repeated r ++ instants_in runs)) split ∙ drop-append-add (repeated r) (instants_in runs) (left - r.count)

-- the instants in front pass a test up to the first run that does not
pub prefix_len-run : (p : ℕ → Bool) (r : Run) (runs : List Run) → p r.instant ≡ true → prefix_len p (instants_in (r ∷ runs)) ≡ r.count + prefix_len p (instants_in runs)
prefix_len-run p r runs passes = go r.count
  where
    go : (n : ℕ) → prefix_len p (replicate n r.instant ++ instants_in runs) ≡ n + prefix_len p (instants_in runs)
    go zero = omega arith
    go (suc n) =
        ap (λ b. cond b (1 + prefix_len p (replicate n r.instant ++ instants_in runs)) 0) passes ∙ omega (arith, go n)

pub prefix_len-stop : (p : ℕ → Bool) (r : Run) (runs : List Run) → 0 < r.count → p r.instant ≡ false → prefix_len p (instants_in (r ∷ runs)) ≡ 0
prefix_len-stop p r runs some fails = go r.count some
  where
    go : (n : ℕ) → 0 < n → prefix_len p (replicate n r.instant ++ instants_in runs) ≡ 0
    go zero none = absurd (omega arith)
    go (suc n) more = ap (λ b. cond b (1 + prefix_len p (replicate n r.instant ++ instants_in runs)) 0) fails

-- ---- the steps of loops over runs
AreRuns-tail : (r : Run) (runs : List Run) → AreRuns (r ∷ runs) → AreRuns runs
AreRuns-tail r runs counted = All-tail (λ r. 0 < r.count) r runs counted

pub record IsLeft (left : ℕ) (runs : List Run) (instants : List ℕ) : Type 0 where
  pub counted : AreRuns runs
  pub rest : drop left (instants_in runs) ≡ instants

pub IsLeft-part : (left : ℕ) (runs : List Run) (r rest : Run) (instants : List ℕ) → 0 < length runs → r ≡ get_or runs 0 r → left < r.count → rest.instant ≡ r.instant → rest.count ≡ r.count - left → IsLeft left runs instants
    → IsLeft 0 (set runs 0 rest) instants
IsLeft-part left [] r rest instants some is lt at counts h = absurd (omega arith)
IsLeft-part left (s ∷ runs) r rest instants some is lt at counts h =
    let count : r.count ≡ s.count = ap (λ (x : Run). x.count) is in
    let instant : r.instant ≡ s.instant = ap (λ (x : Run). x.instant) is in
    record {
      counted = All-cons (λ r. 0 < r.count) rest runs (omega arith) (AreRuns-tail s runs h.counted);
      rest = sym (drop-in_run left s runs rest (omega arith) (at ∙ instant) (counts ∙ ap (λ n. n - left) count)) ∙ h.rest;
    }

pub IsLeft-whole : (left : ℕ) (runs new : List Run) (r : Run) (instants : List ℕ) → 0 < length runs → r ≡ get_or runs 0 r → r.count ≤ left → new ≡ drop 1 runs → IsLeft left runs instants → IsLeft (left - r.count) new instants
IsLeft-whole left [] new r instants some is le left_out h = absurd (omega arith)
IsLeft-whole left (s ∷ runs) new r instants some is le left_out h =
    let count : r.count ≡ s.count = ap (λ (x : Run). x.count) is in
    let P : List Run → Type 0 = λ rs. IsLeft (left - r.count) rs instants in
    subst
    P
    (sym left_out)
    (record {
      counted = AreRuns-tail s runs h.counted;
      rest = ap (λ n. drop (left - n) (instants_in runs)) count ∙ sym (drop-past_run left s runs (omega arith)) ∙ h.rest;
    })

drop-read : (runs : List Run) (k : ℕ) (r : Run) → k < length runs → r ≡ get_or runs k r → drop k runs ≡ r ∷ drop (k + 1) runs
drop-read runs k r lt is = drop-cons runs k r lt ∙ ap₂ (λ (x : Run) (rs : List Run). x ∷ rs) (sym is) (ap (λ n. drop n runs) (sym (add-one k)))

-- the last instants have left, all but `left` of those that are to leave
pub record IsShort (left count : ℕ) (runs : List Run) (instants : List ℕ) : Type 0 where
  pub counted : AreRuns runs
  pub gone : List ℕ
  pub split : instants ≡ instants_in runs ++ gone
  pub many : length gone + left ≡ count

AreRuns-front : (runs rest : List Run) (k : ℕ) → rest ≡ take k runs → AreRuns runs → AreRuns rest
AreRuns-front runs rest k is counted = subst AreRuns (sym is) (All-take (λ r. 0 < r.count) k runs counted)

AreRuns-push : (runs : List Run) (r : Run) → 0 < r.count → AreRuns runs → AreRuns (runs ++ r ∷ [])
AreRuns-push runs r some counted = All-push (λ r. 0 < r.count) runs r counted some

pub IsShort-part : (left count k : ℕ) (runs rest new : List Run) (r s : Run) (instants : List ℕ) → runs ≡ rest ++ r ∷ [] → rest ≡ take k runs → left < r.count → s.instant ≡ r.instant → s.count ≡ r.count - left → new ≡ rest ++ s ∷ []
    → IsShort left count runs instants → IsShort 0 count new instants
IsShort-part left count k runs rest new r s instants is front lt at counts pushed h =
    let shorter : instants_in new ≡ instants_in rest ++ replicate s.count r.instant =
    ap instants_in pushed ∙ instants_in-push rest s ∙ ap (λ t. instants_in rest ++ replicate s.count t) at in
    let longer : instants_in runs ≡ instants_in new ++ replicate left r.instant =
    instants_in-longer rest new runs r s.count left r.instant shorter is refl (omega (arith, counts, lt)) in
    record {
      counted = subst AreRuns (sym pushed) (AreRuns-push rest s (omega (arith, counts, lt)) (AreRuns-front runs rest k front h.counted));
      gone = replicate left r.instant ++ h.gone;
      split = h.split ∙ ap (λ ts. ts ++ h.gone) longer ∙ append_assoc (instants_in new) (replicate left r.instant) h.gone;
      many = omega (arith, h.many, length-append (replicate left r.instant) h.gone, length-replicate left r.instant);
    }

pub IsShort-whole : (left count k : ℕ) (runs rest : List Run) (r : Run) (instants : List ℕ) → runs ≡ rest ++ r ∷ [] → rest ≡ take k runs → r.count ≤ left → IsShort left count runs instants → IsShort (left - r.count) count rest instants
IsShort-whole left count k runs rest r instants is front le h =
    let all : List ℕ = replicate r.count r.instant in
    record {
      counted = AreRuns-front runs rest k front h.counted;
      gone = all ++ h.gone;
      split = h.split ∙ ap (λ ts. ts ++ h.gone) (ap instants_in is ∙ instants_in-push rest r) ∙ append_assoc (instants_in rest) all h.gone;
      many = omega (arith, h.many, le, length-append all h.gone, length-replicate r.count r.instant);
    }

pub IsShort-end : (left count : ℕ) (runs : List Run) (instants : List ℕ) → left ≤ 0 → IsShort left count runs instants → instants_in runs ≡ take (length instants - count) instants
IsShort-end left count runs instants none h =
    let size : length instants - count ≡ length (instants_in runs) = omega (arith, none, h.many, ap (λ (ts : List ℕ). length ts) h.split, length-append (instants_in runs) h.gone) in
    sym (ap (λ n. take n instants) size ∙ ap (take (length (instants_in runs))) h.split ∙ take-append_seam (instants_in runs) h.gone)

pub IsShort-none : (left count : ℕ) (runs : List Run) (instants : List ℕ) → runs ≡ [] → IsShort left count runs instants → instants_in runs ≡ take (length instants - count) instants
IsShort-none left count runs instants none h =
    let all : instants ≡ h.gone = h.split ∙ ap (λ (rs : List Run). instants_in rs ++ h.gone) none in
    let size : length instants - count ≡ 0 = omega (arith, h.many, ap (λ (ts : List ℕ). length ts) all) in
    ap instants_in none ∙ ap (λ n. take n instants) (sym size)

pub IsShort-start : (count : ℕ) (runs : List Run) → AreRuns runs → IsShort count count runs (instants_in runs)
IsShort-start count runs counted = record { counted = counted; gone = []; split = sym (append-nil (instants_in runs)); many = omega arith }

-- so many instants stand before the run k, all of them below n
pub record IsBelow (n : ℕ) (runs : List Run) (k count : ℕ) : Type 0 where
  pub below : prefix_len (λ t. nat_lt t n) (instants_in runs) ≡ count + prefix_len (λ t. nat_lt t n) (instants_in (drop k runs))
  pub few : length (instants_in runs) ≡ count + length (instants_in (drop k runs))

pub IsBelow-more : (n : ℕ) (runs : List Run) (k count : ℕ) (r : Run) → k < length runs → r ≡ get_or runs k r → r.instant < n → IsBelow n runs k count → IsBelow n runs (k + 1) (count + r.count)
IsBelow-more n runs k count r lt is earlier h =
    let p : ℕ → Bool = λ t. nat_lt t n in
    let passes : nat_lt r.instant n ≡ true = grind (arith, nat_tests) in
    let step = drop-read runs k r lt is in
    let rest : List Run = drop (k + 1) runs in
    let a = ap (λ rs. prefix_len p (instants_in rs)) step ∙ prefix_len-run p r rest passes in
    let b = ap (λ rs. length (instants_in rs)) step ∙ length-append (replicate r.count r.instant) (instants_in rest) in
    record { below = omega (arith, h.below, a); few = omega (arith, h.few, b, length-replicate r.count r.instant) }

pub IsBelow-stop : (n : ℕ) (runs : List Run) (k count : ℕ) (r : Run) → AreRuns runs → k < length runs → r ≡ get_or runs k r → n ≤ r.instant → IsBelow n runs k count → count ≡ prefix_len (λ t. nat_lt t n) (instants_in runs)
IsBelow-stop n runs k count r counted lt is later h =
    let p : ℕ → Bool = λ t. nat_lt t n in
    let fails : nat_lt r.instant n ≡ false = grind (arith, nat_tests) in
    let some : 0 < r.count = subst (λ (x : Run). 0 < x.count) (sym is) (counted k r lt) in
    let a = ap (λ rs. prefix_len p (instants_in rs)) (drop-read runs k r lt is) ∙ prefix_len-stop p r (drop (k + 1) runs) some fails in
    omega (arith, h.below, a)

pub IsBelow-end : (n : ℕ) (runs : List Run) (k count : ℕ) → length runs ≤ k → IsBelow n runs k count → count ≡ prefix_len (λ t. nat_lt t n) (instants_in runs)
IsBelow-end n runs k count le h =
    let p : ℕ → Bool = λ t. nat_lt t n in
    let a = ap (λ rs. prefix_len p (instants_in rs)) (drop_of_length-le runs le) in
    omega (arith, h.below, a)
