-- Rows that are kept flat.
use Rattle.std.proofs.Common.{◌≡◌, ℕ, zero, suc, ◌+◌, ◌-◌, ◌*◌, ◌≤◌, ◌<◌, Bool, true, false, not, ℤ, Option, List, [], ◌∷◌, ◌++◌, length, map, take, drop, get_or, refl, ap, ap₂, sym, ◌∙◌, subst, arith, append_assoc, append-nil, flat_map, length-append, length-drop, drop-drop, zero-mul, add-mul, suc-add, suc-mul, mul-le-mul_right}
use Rattle.std.specs.List.{All}
use Rattle.std.proofs.Math.Nat.{eq_of_mul-eq-mul_left}
use Rattle.std.proofs.Math.Seq.{take-add}
use Rattle.std.proofs.lemmas.List.{map-append, take-append-le, drop-append-le, drop-take, take_all, length-take-le, take-append-drop}
use Rattle.std.proofs.lemmas.List.{get_or_append_left}
use Rattle.std.proofs.lemmas.List.Elements.{All-cons, All-nil}
use Rattle.values.specs.Row.{Row}
use Rattle.column.specs.Rows.{flat_rows}
use Rattle.op_queue.specs.Entries.{Entry, RowAt}
use Rattle.op_queue.specs.Forward.{IsForward}
use Rattle.op_queue.specs.Items.{entries_of}
use Rattle.op_queue.specs.declared.item.Item.{Item}
use Rattle.op_queue.specs.declared.item.Item.TheVariants.{Rows}
use Rattle.std.proofs.lemmas.Grind.{flat_map-append}
use Rattle.op_queue.specs.Queues.{HasGained, Waiting, first_begins}
use Rattle.op_queue.proofs.GainLemmas.{gained-item, gained-more, gained-same}
use Rattle.op_queue.specs.Flat.{AreFlat, Flat, flat_in, rows_in, with_rows}

take_within : {X : Type 0} (w m : ℕ) (xs : List X) → take w (take (w + m) xs) ≡ take w xs
take_within zero m xs = refl
take_within (suc w) m [] = ap (λ n. take (suc w) (take n [])) (suc-add w m)
take_within (suc w) m (x ∷ xs) = ap (λ n. take (suc w) (take n (x ∷ xs))) (suc-add w m) ∙ ap (λ l. x ∷ l) (take_within w m xs)

-- the rows have heads of any kind
module _ {H : Type 0} where
  pub length-rows_in : (w : ℕ) (hs : List H) (values : List (Option ℤ)) → length (rows_in w hs values) ≡ length hs
  length-rows_in w [] values = refl
  length-rows_in w (h ∷ hs) values = ap suc (length-rows_in w hs (drop w values))

  -- MORE ROWS
  pub rows_in-append : (w : ℕ) (hs more : List H) (values longer : List (Option ℤ)) → length values ≡ length hs * w → rows_in w (hs ++ more) (values ++ longer) ≡ rows_in w hs values ++ rows_in w more longer
  rows_in-append w [] more [] longer size = refl
  rows_in-append w [] more (v ∷ values) longer size = absurd (omega (arith, size, zero-mul w))
  rows_in-append w (h ∷ hs) more values longer size =
      let e : length values ≡ length hs * w + w = size ∙ suc-mul (length hs) w in
      let le : w ≤ length values = omega (arith, e) in
      ap₂ (λ (r : Row) (rs : List (H × Row)). (h, r) ∷ rs)
      (take-append-le w values longer le)
      (ap (rows_in w (hs ++ more)) (drop-append-le w values longer le) ∙ rows_in-append w hs more (drop w values) longer (length-drop w values ∙ omega (arith, e)))

  -- what the lists are after a row more
  pub record IsPushed (w : ℕ) (o : Flat H) (h : H) (row : Row) (heads : List H) (longer : List (Option ℤ)) : Type 0 where
    pub flat : AreFlat w heads longer
    pub rows : flat_in w heads longer ≡ with_rows o ((h, row) ∷ [])

  pub pushed : (w : ℕ) (hs : List H) (values : List (Option ℤ)) (o : Flat H) (h : H) (row : Row) (heads : List H) (longer : List (Option ℤ)) → AreFlat w hs values → flat_in w hs values ≡ o → length row ≡ o.width
      → heads ≡ hs ++ h ∷ [] → longer ≡ values ++ row → IsPushed w o h row heads longer
  pushed w hs values o h row heads longer are view wide is holds =
      let fits : length row ≡ w = wide ∙ sym (ap (λ (s : Flat H). s.width) view) in
      let one : length values + length row ≡ (length hs + 1) * w = omega (arith, are.size, fits, add-mul (length hs) 1 w) in
      record {
        flat = record {
          size = ap (λ (vs : List (Option ℤ)). length vs) holds ∙ length-append values row ∙ one ∙ ap (λ (n : ℕ). n * w) (sym (ap (λ (ks : List H). length ks) is ∙ length-append hs (h ∷ [])));
          narrow = are.narrow;
        };
        rows =
            ap₂ (λ (ks : List H) (vs : List (Option ℤ)). flat_in w ks vs) is holds
            ∙ ap (λ (rs : List (H × Row)). record { width = w; rows = rs })
            (rows_in-append w hs (h ∷ []) values row are.size ∙ ap (λ (r : Row). rows_in w hs values ++ (h, r) ∷ []) (take_all w row (omega (arith, fits))))
            ∙ ap (λ (s : Flat H). with_rows s ((h, row) ∷ [])) view;
      }

  -- A PART OF THE ROWS
  pub rows_in-drop : (w k : ℕ) (hs : List H) (values : List (Option ℤ)) → rows_in w (drop k hs) (drop (k * w) values) ≡ drop k (rows_in w hs values)
  rows_in-drop w zero hs values = ap (λ n. rows_in w hs (drop n values)) (zero-mul w)
  rows_in-drop w (suc k) [] values = refl
  rows_in-drop w (suc k) (h ∷ hs) values =
      let e : suc k * w ≡ w + k * w = omega (arith, suc-mul k w) in
      ap (λ n. rows_in w (drop k hs) (drop n values)) e
      ∙ ap (rows_in w (drop k hs)) (sym (drop-drop (k * w) w values))
      ∙ rows_in-drop w k hs (drop w values)

  pub rows_in-take : (w k : ℕ) (hs : List H) (values : List (Option ℤ)) → rows_in w (take k hs) (take (k * w) values) ≡ take k (rows_in w hs values)
  rows_in-take w zero hs values = refl
  rows_in-take w (suc k) [] values = refl
  rows_in-take w (suc k) (h ∷ hs) values =
      let e : suc k * w ≡ w + k * w = omega (arith, suc-mul k w) in
      ap₂ (λ (r : Row) (rs : List (H × Row)). (h, r) ∷ rs)
      (ap (λ n. take w (take n values)) e ∙ take_within w (k * w) values)
      (ap (λ n. rows_in w (take k hs) (drop w (take n values))) e ∙ ap (rows_in w (take k hs)) (drop-take w (k * w) values) ∙ rows_in-take w k hs (drop w values))

  pub rows_in-part : (w place count start end : ℕ) (hs : List H) (values : List (Option ℤ)) → start ≡ place * w → end ≡ start + count * w
      → rows_in w (take count (drop place hs)) (take (end - start) (drop start values)) ≡ take count (drop place (rows_in w hs values))
  rows_in-part w place count start end hs values s e =
      let few : end - start ≡ count * w = omega (arith, e) in
      ap₂ (λ (m n : ℕ). rows_in w (take count (drop place hs)) (take m (drop n values))) few s
      ∙ rows_in-take w count (drop place hs) (drop (place * w) values)
      ∙ ap (take count) (rows_in-drop w place hs values)

  pub rows_fit : (w k : ℕ) (hs : List H) (values : List (Option ℤ)) → AreFlat w hs values → k ≤ length hs → k * w ≤ length values
  rows_fit w k hs values are le = omega (arith, are.size, mul-le-mul_right {m = k} {n = length hs} w le)

  -- ONE ROW
  pub row-at : (w place : ℕ) (hs : List H) (values : List (Option ℤ)) (d : Row) → place < length hs → get_or (map (λ r. r.1) (rows_in w hs values)) place d ≡ take w (drop (place * w) values)
  row-at w place [] values d lt = absurd (omega (arith, lt))
  row-at w zero (h ∷ hs) values d lt = ap (λ n. take w (drop n values)) (sym (zero-mul w))
  row-at w (suc place) (h ∷ hs) values d lt =
      let e : w + place * w ≡ suc place * w = omega (arith, suc-mul place w) in
      row-at w place hs (drop w values) d (omega (arith, lt))
      ∙ ap (take w) (drop-drop (place * w) w values)
      ∙ ap (λ n. take w (drop n values)) e

  -- a place among the rows is one among the heads
  pub is_there : (w place : ℕ) (hs : List H) (values : List (Option ℤ)) (o : Flat H) → flat_in w hs values ≡ o → place < length o.rows → place < length hs
  is_there w place hs values o view lt = omega (arith, lt, length-rows_in w hs values, ap (λ (s : Flat H). length s.rows) view)

  pub row_fits : (w place : ℕ) (hs : List H) (values : List (Option ℤ)) (o : Flat H) → AreFlat w hs values → flat_in w hs values ≡ o → place < length o.rows → place * w + w ≤ length values
  row_fits w place hs values o are view lt =
      let there : place < length hs = is_there w place hs values o view lt in
      omega (arith, rows_fit w (suc place) hs values are (omega (arith, there)), suc-mul place w)

  pub rows-wide : (w : ℕ) (hs : List H) (values : List (Option ℤ)) → length values ≡ length hs * w → All (λ r. length r.1 ≡ w) (rows_in w hs values)
  rows-wide w [] values size = All-nil (λ (r : H × Row). length r.1 ≡ w)
  rows-wide w (h ∷ hs) values size =
      let e : length values ≡ length hs * w + w = size ∙ suc-mul (length hs) w in
      All-cons (λ (r : H × Row). length r.1 ≡ w) (h, take w values) (rows_in w hs (drop w values)) (length-take-le w values (omega (arith, e)))
      (rows-wide w hs (drop w values) (length-drop w values ∙ omega (arith, e)))

-- values that are written in three parts
pub formed_more : {X : Type 0} (old start first next last before chosen after : List X) → start ≡ old → first ≡ start ++ before → next ≡ first ++ chosen → last ≡ next ++ after → last ≡ old ++ (before ++ (chosen ++ after))
formed_more old start first next last before chosen after s f n l =
    l ∙ ap (λ xs. xs ++ after) (n ∙ ap (λ xs. xs ++ chosen) (f ∙ ap (λ xs. xs ++ before) s))
    ∙ append_assoc (old ++ before) chosen after
    ∙ append_assoc old before (chosen ++ after)

-- SIGNED ROWS
pub not-not : (b : Bool) → not (not b) ≡ b
not-not true = refl
not-not false = refl

pub signed-flat : (w : ℕ) (enters : List Bool) (values : List (Option ℤ)) → flat_rows w (map not enters) values ≡ rows_in w enters values
signed-flat w [] values = refl
signed-flat w (e ∷ enters) values = ap₂ (λ (b : Bool) (rs : List (Bool × Row)). (b, take w values) ∷ rs) (not-not e) (signed-flat w enters (drop w values))

-- THE SAME ROWS
-- rows whose heads say nothing are known from their number and their values
abbrev NoHead : Type 0
NoHead = Unit {0}

pub values_in : (w : ℕ) (hs : List NoHead) (values : List (Option ℤ)) → length values ≡ length hs * w → flat_map (λ r. r.1) (rows_in w hs values) ≡ values
values_in w [] [] size = refl
values_in w [] (v ∷ values) size = absurd (omega (arith, size, zero-mul w))
values_in w (h ∷ hs) values size =
    let rest : length (drop w values) ≡ length hs * w = length-drop w values ∙ omega (arith, size, suc-mul (length hs) w) in
    ap (λ (vs : List (Option ℤ)). take w values ++ vs) (values_in w hs (drop w values) rest) ∙ take-append-drop w values

pub same_values : (w v : ℕ) (hs gs : List NoHead) (values others : List (Option ℤ)) → AreFlat w hs values → AreFlat v gs others → rows_in w hs values ≡ rows_in v gs others → values ≡ others
same_values w v hs gs values others are those is = sym (values_in w hs values are.size) ∙ ap (flat_map (λ (r : NoHead × Row). r.1)) is ∙ values_in v gs others those.size

same_heads : (hs gs : List NoHead) → length hs ≡ length gs → hs ≡ gs
same_heads [] [] e = refl
same_heads [] (g ∷ gs) e = absurd (omega (arith, e))
same_heads (h ∷ hs) [] e = absurd (omega (arith, e))
same_heads (h ∷ hs) (g ∷ gs) e = ap (λ (l : List NoHead). h ∷ l) (same_heads hs gs (omega (arith, e)))

-- if there are none, their width says nothing
alike : (w v : ℕ) (hs : List NoHead) (values : List (Option ℤ)) → length values ≡ length hs * w → length values ≡ length hs * v → rows_in w hs values ≡ rows_in v hs values
alike w v [] values size other = refl
alike w v (h ∷ hs) values size other =
    ap (λ (u : ℕ). rows_in u (h ∷ hs) values) (eq_of_mul-eq-mul_left (length (h ∷ hs)) (omega arith) w v (sym size ∙ other))

pub same_many : (w v : ℕ) (hs gs : List NoHead) (values others : List (Option ℤ)) → rows_in w hs values ≡ rows_in v gs others → length hs ≡ length gs
same_many w v hs gs values others is = sym (length-rows_in w hs values) ∙ ap (λ (rs : List (NoHead × Row)). length rs) is ∙ length-rows_in v gs others

pub same_rows : (w v : ℕ) (hs gs : List NoHead) (values others : List (Option ℤ)) → AreFlat w hs values → AreFlat v gs others → length hs ≡ length gs → values ≡ others → rows_in w hs values ≡ rows_in v gs others
same_rows w v hs gs values others are those many is =
    alike w v hs values are.size (ap length is ∙ those.size ∙ ap (λ n. n * v) (sym many))
    ∙ ap₂ (rows_in v) (same_heads hs gs many) is

-- BATCH BY BATCH
rows_more : (t place more : ℕ) (rows : List (Bool × Row)) → map (RowAt t) (take (place + more) rows) ≡ map (RowAt t) (take place rows) ++ map (RowAt t) (take more (drop place rows))
rows_more t place more rows =
    let at : Bool × Row → Entry Row = RowAt t in
    ap (map at) (take-add place more rows) ∙ map-append at (take place rows) (take more (drop place rows))

pub forward_front : (es fs : List (Entry Row)) → IsForward (es ++ fs) → IsForward es
forward_front es fs h i j d le lt =
    let n = length-append es fs in
    rw (sym (get_or_append_left es fs d i (omega arith)), sym (get_or_append_left es fs d j lt)) (h i j d le (omega arith))

pub forward_more : (t place more : ℕ) (rows : List (Bool × Row)) (before es : List (Entry Row)) (batch : List (Bool × Row)) → place + more ≤ length rows → es ≡ before ++ map (RowAt t) (take place rows) → batch ≡ take more (drop place rows)
    → IsForward (before ++ map (RowAt t) rows) → IsForward (es ++ map (RowAt t) batch)
forward_more t place more rows before es batch le e b h =
    let at : Bool × Row → Entry Row = RowAt t in
    let rest : List (Entry Row) = map at (drop (place + more) rows) in
    let whole : before ++ map at rows ≡ (before ++ map at (take (place + more) rows)) ++ rest =
    ap (λ (rs : List (Bool × Row)). before ++ map at rs) (sym (take-append-drop (place + more) rows))
    ∙ ap (λ (l : List (Entry Row)). before ++ l) (map-append at (take (place + more) rows) (drop (place + more) rows))
    ∙ sym (append_assoc before (map at (take (place + more) rows)) rest) in
    let here : before ++ map at (take (place + more) rows) ≡ es ++ map at batch =
    ap (λ (l : List (Entry Row)). before ++ l) (rows_more t place more rows)
    ∙ sym (append_assoc before (map at (take place rows)) (map at (take more (drop place rows))))
    ∙ ap₂ (λ (l m : List (Entry Row)). l ++ m) (sym e) (ap (map at) (sym b)) in
    subst IsForward here (forward_front (before ++ map at (take (place + more) rows)) rest (subst IsForward whole h))

pub gained_more : (t place more : ℕ) (rows batch : List (Bool × Row)) (a b c : Waiting) → batch ≡ take more (drop place rows) → HasGained (map (RowAt t) (take place rows)) a b
    → c.entries ≡ b.entries ++ map (RowAt t) batch → c.begins ≡ b.begins ++ first_begins (map (RowAt t) batch) → HasGained (map (RowAt t) (take (place + more) rows)) a c
gained_more t place more rows batch a b c is h entries begins =
    let at : Bool × Row → Entry Row = RowAt t in
    gained-same
    (ap (λ (rs : List (Bool × Row)). map at (take place rows) ++ map at rs) is ∙ sym (rows_more t place more rows))
    (gained-more (map at (take place rows)) (map at batch) a b c h (gained-item (Rows t batch) b c entries begins))

-- IN ITEMS
pub items_more : (t place more : ℕ) (rows batch : List (Bool × Row)) (items : List Item) → batch ≡ take more (drop place rows) → flat_map entries_of items ≡ map (RowAt t) (take place rows) → flat_map entries_of (items ++ Rows t batch ∷ []) ≡ map (RowAt t) (take (place + more) rows)
items_more t place more rows batch items is done =
    let at : Bool × Row → Entry Row = RowAt t in
    flat_map-append entries_of items (Rows t batch ∷ [])
    ∙ ap₂ (λ (es fs : List (Entry Row)). es ++ fs) done (append-nil (map at batch) ∙ ap (map at) is)
    ∙ sym (rows_more t place more rows)
