-- Rows that leave, batch by batch.
use Rattle.std.proofs.Common.{◌≡◌, ℕ, zero, suc, ◌+◌, ◌-◌, ◌*◌, ◌≤◌, Bool, true, false, not, nat_lt, ℤ, Option, None, Some, List, [], ◌∷◌, ◌++◌, length, map, take, drop, replicate, slice_range, refl, ap, ap₂, sym, ◌∙◌, arith, subst, suc-add, suc-mul, append_assoc, drop-drop}
use Rattle.std.specs.Prelude.{Result, Ok, Err, OnOk}
use Rattle.std.proofs.Math.Seq.{take-add}
use Rattle.std.proofs.lemmas.List.{drop-append-le, drop-take, map-append, take-append-le}
use Rattle.std.proofs.lemmas.List.{get_or_append_left, length-append, length-drop, length-map, length-take}
use Rattle.values.specs.Row.{Row}
use Rattle.column.specs.Rows.{flat_rows}
use Rattle.op_queue.specs.Entries.{Entry, RowAt}
use Rattle.op_queue.specs.Forward.{IsForward}
use Rattle.op_queue.specs.Items.{entries_of}
use Rattle.op_queue.specs.declared.item.Item.{Item}
use Rattle.op_queue.specs.Queues.{HasGained, Waiting, first_begins}
use Rattle.op_queue.specs.declared.item.Item.TheVariants.{Rows}
use Rattle.op_queue.proofs.GainLemmas.{gained-item, gained-more, gained-same}
use Rattle.windows.specs.Held.{cut_rows}
use Rattle.std.specs.List.{filter, flat_map}
use Rattle.windows.specs.Instants.{with_sign}
use Rattle.windows.proofs.FlatLemmas.{cut_rows-drop, length-cut_rows}

-- ---- rows cut from a part of the values
pub cut_rows-take : (w k m : ℕ) (values : List (Option ℤ)) → k ≤ m → take k (cut_rows w m values) ≡ cut_rows w k values
cut_rows-take w zero m values le = refl
cut_rows-take w (suc k) zero values le = absurd (omega (arith, le))
cut_rows-take w (suc k) (suc m) values le = ap (λ (rs : List Row). take w values ∷ rs) (cut_rows-take w k m (drop w values) (omega (arith, le)))

take_within : {X : Type 0} (w m : ℕ) (xs : List X) → take w (take (w + m) xs) ≡ take w xs
take_within zero m xs = refl
take_within (suc w) m [] = ap (λ n. take (suc w) (take n [])) (suc-add w m)
take_within (suc w) m (x ∷ xs) = ap (λ n. take (suc w) (take n (x ∷ xs))) (suc-add w m) ∙ ap (λ l. x ∷ l) (take_within w m xs)

pub cut_rows-first : (w k : ℕ) (values : List (Option ℤ)) → cut_rows w k (take (k * w) values) ≡ cut_rows w k values
cut_rows-first w zero values = refl
cut_rows-first w (suc k) values =
    let e : suc k * w ≡ w + k * w = omega (arith, suc-mul k w) in
    ap (λ n. cut_rows w (suc k) (take n values)) e
    ∙ ap₂ (λ (r : Row) (rs : List Row). r ∷ rs) (take_within w (k * w) values) (ap (cut_rows w k) (drop-take w (k * w) values) ∙ cut_rows-first w k (drop w values))

-- the last rows leave with their values
pub cut_rows-last : (w n k : ℕ) (values new : List (Option ℤ)) (rows : List Row) → new ≡ take ((n - k) * w) values → cut_rows w n values ≡ rows → cut_rows w (n - k) new ≡ take (length rows - k) rows
cut_rows-last w n k values new rows left is =
    let size : n - k ≡ length rows - k = omega (arith, length-cut_rows w n values, ap (λ (rs : List Row). length rs) is) in
    ap (cut_rows w (n - k)) left
    ∙ cut_rows-first w (n - k) values
    ∙ sym (cut_rows-take w (n - k) n values (omega arith))
    ∙ ap₂ (λ (i : ℕ) (rs : List Row). take i rs) size is

-- a range within the first of two lists
pub slice_front : {X : Type 0} (xs ys : List X) (a b : ℕ) → a ≤ b → b ≤ length xs → slice_range (xs ++ ys) a b ≡ slice_range xs a b
slice_front xs ys a b le fits =
    ap (take (b - a)) (drop-append-le a xs ys (omega (arith, le, fits)))
    ∙ take-append-le (b - a) (drop a xs) ys (omega (arith, le, fits, length-drop a xs))

pub flat_signed : (w n : ℕ) (enters : Bool) (values : List (Option ℤ)) → flat_rows w (replicate n (not enters)) values ≡ map (with_sign enters) (cut_rows w n values)
flat_signed w zero enters values = refl
flat_signed w (suc n) enters values = ap₂ (λ (b : Bool) rs. (b, take w values) ∷ rs) (not_not enters) (flat_signed w n enters (drop w values))
  where
    not_not : (b : Bool) → not (not b) ≡ b
    not_not true = refl
    not_not false = refl

pub rows_signed : (w n «from» count : ℕ) (enters : Bool) (values part : List (Option ℤ)) (rows : List Row) → «from» + count ≤ n → cut_rows w n values ≡ rows → part ≡ slice_range values («from» * w) («from» * w + count * w)
    → map (with_sign enters) (cut_rows w count part) ≡ map (with_sign enters) (take count (drop «from» rows))
rows_signed w n «from» count enters values part rows le is cut =
    let size : «from» * w + count * w - «from» * w ≡ count * w = omega arith in
    ap (map (with_sign enters))
    (ap (cut_rows w count) (cut ∙ ap (λ k. take k (drop («from» * w) values)) size)
    ∙ cut_rows-first w count (drop («from» * w) values)
    ∙ sym (cut_rows-take w count (n - «from») (drop («from» * w) values) (omega (arith, le)))
    ∙ ap (take count) (cut_rows-drop w n «from» values (omega (arith, le)) ∙ ap (drop «from») is))

-- ---- what a queue gains, batch by batch
abbrev pub rows_at : ℕ → Bool → List Row → List (Entry Row)
rows_at t enters rows = map (RowAt t) (map (with_sign enters) rows)

pub rows_at-more : (t : ℕ) (enters : Bool) («from» more : ℕ) (rows : List Row) → rows_at t enters (take («from» + more) rows) ≡ rows_at t enters (take «from» rows) ++ rows_at t enters (take more (drop «from» rows))
rows_at-more t enters «from» more rows =
    let at : Bool × Row → Entry Row = RowAt t in
    let sign : Row → Bool × Row = with_sign enters in
    ap (rows_at t enters) (take-add «from» more rows)
    ∙ ap (map at) (map-append sign (take «from» rows) (take more (drop «from» rows)))
    ∙ map-append at (map sign (take «from» rows)) (map sign (take more (drop «from» rows)))

pub IsForward-front : (es fs : List (Entry Row)) → IsForward (es ++ fs) → IsForward es
IsForward-front es fs h i j d le lt =
    let n = length-append es fs in
    rw (sym (get_or_append_left es fs d i (omega arith)), sym (get_or_append_left es fs d j lt)) (h i j d le (omega arith))

pub forward_more : (t : ℕ) (enters : Bool) («from» more count : ℕ) (rows : List Row) (before es : List (Entry Row)) (batch : List (Bool × Row)) → «from» + more ≤ count → es ≡ before ++ rows_at t enters (take «from» rows)
    → batch ≡ map (with_sign enters) (take more (drop «from» rows)) → IsForward (before ++ rows_at t enters (take count rows)) → IsForward (es ++ map (RowAt t) batch)
forward_more t enters «from» more count rows before es batch le e b h =
    let at : Bool × Row → Entry Row = RowAt t in
    let rest : List (Entry Row) = rows_at t enters (take (count - («from» + more)) (drop («from» + more) rows)) in
    let split : count ≡ «from» + more + (count - («from» + more)) = omega (arith, le) in
    let whole : before ++ rows_at t enters (take count rows) ≡ (before ++ rows_at t enters (take («from» + more) rows)) ++ rest =
    ap (λ n. before ++ rows_at t enters (take n rows)) split
    ∙ ap (λ l. before ++ l) (rows_at-more t enters («from» + more) (count - («from» + more)) rows)
    ∙ sym (append_assoc before (rows_at t enters (take («from» + more) rows)) rest) in
    let here : before ++ rows_at t enters (take («from» + more) rows) ≡ es ++ map at batch =
    ap (λ l. before ++ l) (rows_at-more t enters «from» more rows)
    ∙ sym (append_assoc before (rows_at t enters (take «from» rows)) (rows_at t enters (take more (drop «from» rows))))
    ∙ ap₂ (λ (l m : List (Entry Row)). l ++ m) (sym e) (ap (map at) (sym b)) in
    subst IsForward here (IsForward-front (before ++ rows_at t enters (take («from» + more) rows)) rest (subst IsForward whole h))

pub gained_more : (t : ℕ) (enters : Bool) («from» more : ℕ) (rows : List Row) (batch : List (Bool × Row)) (a b c : Waiting) → batch ≡ map (with_sign enters) (take more (drop «from» rows)) → HasGained (rows_at t enters (take «from» rows)) a b
    → c.entries ≡ b.entries ++ map (RowAt t) batch → c.begins ≡ b.begins ++ first_begins (map (RowAt t) batch) → HasGained (rows_at t enters (take («from» + more) rows)) a c
gained_more t enters «from» more rows batch a b c is h entries begins =
    let at : Bool × Row → Entry Row = RowAt t in
    gained-same
    (ap (λ l. rows_at t enters (take «from» rows) ++ map at l) is ∙ sym (rows_at-more t enters «from» more rows))
    (gained-more (rows_at t enters (take «from» rows)) (map at batch) a b c h (gained-item (Rows t batch) b c entries begins))

-- rows from a place on, cut a second time
pub signed_part : (enters : Bool) (j k more : ℕ) (rows : List Row) (batch : List (Bool × Row)) → batch ≡ map (with_sign enters) (take more (drop (j + k) rows)) → batch ≡ map (with_sign enters) (take more (drop k (drop j rows)))
signed_part enters j k more rows batch is = is ∙ ap (λ rs. map (with_sign enters) (take more rs)) (sym (drop-drop k j rows))

-- they are as many as were counted
pub near_count : (k : ℕ) (held : List (ℕ × Row)) (rows : List Row) → k ≤ length held → take k (map (λ h. h.1) held) ≡ rows → k ≡ length rows
near_count k held rows le is =
    let f : ℕ × Row → Row = λ h. h.1 in
    omega (arith, ap (λ (rs : List Row). length rs) is, length-take k (map f held), length-map held f)

-- ---- items one behind the other
pub forward_first : (es : List (Entry Row)) (i : Item) (items rest : List Item) (whole : List (Entry Row)) → es ++ flat_map entries_of items ≡ whole → items ≡ i ∷ rest → IsForward whole → IsForward (es ++ entries_of i)
forward_first es i items rest whole is front h =
    let all : (es ++ entries_of i) ++ flat_map entries_of rest ≡ whole =
    append_assoc es (entries_of i) (flat_map entries_of rest) ∙ ap (λ xs. es ++ flat_map entries_of xs) (sym front) ∙ is in
    IsForward-front (es ++ entries_of i) (flat_map entries_of rest) (subst IsForward (sym all) h)

-- ---- a call that did not fail
pub ok_of : {T E P : Type 0} (r : Result T E) → ((x : E) → r ≡ Err x → ⊥) → OnOk r P → P
ok_of (Ok x) never p = p
ok_of (Err x) never p = absurd (never x refl)
