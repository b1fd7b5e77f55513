-- One row more: in the partitions, and in what falls out.
use Rattle.std.proofs.Common.{◌≡◌, ℕ, suc, ◌+◌, ◌-◌, ◌≤◌, ◌<◌, Bool, true, false, cond, nat_lt, Option, Some, None, List, [], ◌∷◌, ◌++◌, length, take, get_or, refl, ap, sym, ◌∙◌, subst, arith}
use Rattle.std.specs.List.{All}
use Rattle.std.specs.Ordering.{is_eq}
use Rattle.std.proofs.lemmas.List.{take_more, length-append, length-take}
use Rattle.std.proofs.lemmas.List.Elements.{All-append, All-cons, All-drop, All-head, All-nil, All-push, All-tail, All-take}
use Rattle.values.specs.Row.{Row, same_row}
use Rattle.column.specs.Rows.{IsTable, width}
use Rattle.windows.specs.Fallen.{IsFallenWide, those_fallen}
use Rattle.windows.specs.Latest.{AreParts, all_after, all_fallen, fallen_in, fallen_of, held_after, held_in, interleaved, key_cmp, key_in, last_of, minus_of, part}
use Rattle.windows.specs.Widths.{AreWide, HaveOneWidth, OneRow}
use Rattle.windows.proofs.LatestLemmas.{after_push, fallen_is, fallen_push, few_after, last_of-few, length-fallen, length-like, like, like-push}
use Rattle.windows.proofs.PartLemmas.{same_exact}

-- ---- the partitions
pub enter_is : (columns : List ℕ) (n : ℕ) (old new : List (OneRow × List Row)) (key row : OneRow)
    → ((k : OneRow) → part k new ≡ cond (is_eq (key_cmp key k)) (last_of n (part key old ++ row.items ∷ [])) (part k old)) → key.items ≡ key_in columns row.items
    → (k : Row) → held_in new k ≡ held_after columns n (held_in old) row.items k
enter_is columns n old new key row ok e k =
    ok (record { items = k }) ∙ here (same_row key.items k) refl ∙ ap (λ (r : Row). cond (same_row r k) (last_of n (held_in old k ++ row.items ∷ [])) (held_in old k)) e
  where
    here : (b : Bool) → same_row key.items k ≡ b → cond b (last_of n (part key old ++ row.items ∷ [])) (held_in old k) ≡ cond b (last_of n (held_in old k ++ row.items ∷ [])) (held_in old k)
    here true h = ap (λ r. last_of n (held_in old r ++ row.items ∷ [])) (same_exact key.items k h)
    here false h = refl

wide_after : (columns : List ℕ) (n w : ℕ) (held : Row → List Row) (row k : Row) → AreWide w (held k) → length row ≡ w → AreWide w (held_after columns n held row k)
wide_after columns n w held row k wide e = here (same_row (key_in columns row) k)
  where
    here : (b : Bool) → AreWide w (cond b (last_of n (held k ++ row ∷ [])) (held k))
    here true = All-drop (λ (r : Row). length r ≡ w) _ (held k ++ row ∷ []) (All-push (λ (r : Row). length r ≡ w) (held k) row wide e)
    here false = wide

pub AreParts-after : (columns : List ℕ) (n w : ℕ) (held : Row → List Row) (row : Row) → AreParts n w held → length row ≡ w → AreParts n w (held_after columns n held row)
AreParts-after columns n w held row h e = record {
  few = λ k. few_after columns n held row k (h.few k);
  wide = λ k. wide_after columns n w held row k (h.wide k) e;
}

AreParts-same : (n w : ℕ) (held new : Row → List Row) → ((k : Row) → new k ≡ held k) → AreParts n w held → AreParts n w new
AreParts-same n w held new e h =
    let P : List Row → Type 0 = λ rs. length rs ≤ n in
    let Q : List Row → Type 0 = λ rs. AreWide w rs in
    record { few = λ k. subst P (sym (e k)) (h.few k); wide = λ k. subst Q (sym (e k)) (h.wide k) }

row_wide : (b : List (Bool × Row)) (p : ℕ) (x : Bool × Row) → x ≡ get_or b p (true, []) → p < length b → IsTable (width b) b → length x.1 ≡ width b
row_wide b p x e lt table = ap (λ (s : Bool × Row). length s.1) e ∙ table p (true, []) lt

-- rows of the width of a batch are as wide as each of its rows
pub wide_as : (b : List (Bool × Row)) (p : ℕ) (x : Bool × Row) (rows : List Row) → x ≡ get_or b p (true, []) → p < length b → IsTable (width b) b → AreWide (width b) rows → AreWide (length x.1) rows
wide_as b p x rows e lt table wide = subst (λ (w : ℕ). AreWide w rows) (sym (row_wide b p x e lt table)) wide

pub like_wide : (columns : List ℕ) (k : Row) (w : ℕ) (xs : List (Bool × Row)) → All (λ s. length s.1 ≡ w) xs → AreWide w (like columns k xs)
like_wide columns k w [] all = λ i d lt. absurd (omega (arith, lt))
like_wide columns k w (x ∷ xs) all = here (same_row (key_in columns x.1) k) (like_wide columns k w xs (All-tail (λ (s : Bool × Row). length s.1 ≡ w) x xs all))
  where
    here : (b : Bool) → AreWide w (like columns k xs) → AreWide w (cond b (x.1 ∷ like columns k xs) (like columns k xs))
    here true h = All-cons (λ (r : Row). length r ≡ w) x.1 _ (All-head (λ (s : Bool × Row). length s.1 ≡ w) x xs all) h
    here false h = h

-- so are those of them that came
pub came_wide : (columns : List ℕ) (k : Row) (b : List (Bool × Row)) (p : ℕ) (x : Bool × Row) (rows : List Row) → x ≡ get_or b p (true, []) → p < length b → IsTable (width b) b → rows ≡ like columns k (take p b) → AreWide (length x.1) rows
came_wide columns k b p x rows e lt table is =
    wide_as b p x rows e lt table (subst (λ (rs : List Row). AreWide (width b) rs) (sym is) (like_wide columns k (width b) (take p b) (All-take (λ (s : Bool × Row). length s.1 ≡ width b) p b table)))

module _ (columns : List ℕ) (n : ℕ) (b : List (Bool × Row)) (p : ℕ) (x : Bool × Row) (is : x ≡ get_or b p (true, [])) (lt : p < length b) where
  taken : take (p + 1) b ≡ take p b ++ x ∷ []
  taken = take_more b p (true, []) lt ∙ ap (λ s. take p b ++ s ∷ []) (sym is)

  pub after_more : (held old new : Row → List Row) → ((k : Row) → old k ≡ all_after columns n held (take p b) k) → ((k : Row) → new k ≡ held_after columns n old x.1 k)
      → (k : Row) → new k ≡ all_after columns n held (take (p + 1) b) k
  after_more held old new o e k =
      e k ∙ ap (λ l. cond (same_row (key_in columns x.1) k) (last_of n (l ++ x.1 ∷ [])) l) (o k)
      ∙ sym (after_push columns n held (take p b) x k)
      ∙ ap (λ xs. all_after columns n held xs k) (sym taken)

  pub parts_more : (old new : Row → List Row) → ((k : Row) → new k ≡ held_after columns n old x.1 k) → IsTable (width b) b → AreParts n (width b) old → AreParts n (width b) new
  parts_more old new e table h = AreParts-same n (width b) (held_after columns n old x.1) new e (AreParts-after columns n (width b) old x.1 h (row_wide b p x is lt table))

  pub like_more : (most : ℕ) (old new : Row → List Row) → length b ≤ 1024 → 1025 ≤ most → ((k : Row) → old k ≡ like columns k (take p b)) → ((k : Row) → new k ≡ held_after columns most old x.1 k)
      → (k : Row) → new k ≡ like columns k (take (p + 1) b)
  like_more most old new few room o e k =
      e k ∙ ap (λ l. cond (same_row (key_in columns x.1) k) (last_of most (l ++ x.1 ∷ [])) l) (o k)
      ∙ ap (λ l. cond (same_row (key_in columns x.1) k) l (like columns k (take p b))) (last_of-few most (like columns k (take p b) ++ x.1 ∷ []) short)
      ∙ sym (like-push columns k (take p b) x)
      ∙ ap (like columns k) (sym taken)
    where
      short : length (like columns k (take p b) ++ x.1 ∷ []) ≤ most
      short = omega (arith, length-append (like columns k (take p b)) (x.1 ∷ []), length-like columns k (take p b), length-take p b, few, room)

  pub fallen_more : (held : Row → List Row) (key : Row) (fallen fallen' : List (Option Row)) (f : Option Row) (came : List Row) → ((k : Row) → length (held k) ≤ n) → key ≡ key_in columns x.1
      → fallen ≡ all_fallen columns n held (take p b) → came ≡ like columns key (take p b) → f ≡ fallen_in n (held key ++ (came ++ x.1 ∷ [])) → fallen' ≡ fallen ++ f ∷ []
      → fallen' ≡ all_fallen columns n held (take (p + 1) b)
  fallen_more held key fallen fallen' f came few ke o c e is' =
      is' ∙ ap (λ l. l ++ f ∷ []) o
      ∙ ap (λ g. all_fallen columns n held (take p b) ++ g ∷ []) (e ∙ ap (λ l. fallen_in n (held key ++ (l ++ x.1 ∷ []))) c ∙ sym (fallen_is columns n held (take p b) key x.1 (few key))
      ∙ ap (λ k. fallen_of n (all_after columns n held (take p b) k ++ x.1 ∷ [])) ke)
      ∙ sym (fallen_push columns n held (take p b) x)
      ∙ ap (all_fallen columns n held) (sym taken)

pub came_few : (columns : List ℕ) (k : Row) (b : List (Bool × Row)) (p : ℕ) (rows : List Row) → length b ≤ 1024 → rows ≡ like columns k (take p b) → length rows ≤ 18446744073709551615
came_few columns k b p rows few e = let l : length rows ≡ length (like columns k (take p b)) = ap length e in omega (arith, l, length-like columns k (take p b), length-take p b, few)

-- ---- what falls out fits
abbrev pub IsWideRow : ℕ → Bool × Row → Type 0
IsWideRow w s = length s.1 ≡ w

fallen_wide : (n w : ℕ) (rows : List Row) → AreWide w rows → 0 < length rows → IsFallenWide w (fallen_of n rows)
fallen_wide n w rows wide some = here (nat_lt n (length rows))
  where
    here : (b : Bool) → IsFallenWide w (cond b (Some (get_or rows 0 [])) None)
    here true = wide 0 [] some
    here false = tt

minus_wide : (w : ℕ) (f : Option Row) (rest : List (Bool × Row)) → IsFallenWide w f → All (IsWideRow w) rest → All (IsWideRow w) (minus_of f ++ rest)
minus_wide w None rest h all = all
minus_wide w (Some r) rest h all = All-cons (IsWideRow w) (false, r) rest h all

interleaved_wide : (columns : List ℕ) (n w : ℕ) (held : Row → List Row) (xs : List (Bool × Row)) → AreParts n w held → All (IsWideRow w) xs → All (IsWideRow w) (interleaved xs (all_fallen columns n held xs))
interleaved_wide columns n w held [] h all = all
interleaved_wide columns n w held (x ∷ xs) h all =
    let one : length x.1 ≡ w = All-head (IsWideRow w) x xs all in
    let key : Row = key_in columns x.1 in
    let rows : List Row = held key ++ x.1 ∷ [] in
    let wide : AreWide w rows = All-push (λ (r : Row). length r ≡ w) (held key) x.1 (h.wide key) one in
    All-cons (IsWideRow w) x _ one
    (minus_wide w (fallen_of n rows) _ (fallen_wide n w rows wide (omega (arith, length-append (held key) (x.1 ∷ []))))
    (interleaved_wide columns n w (held_after columns n held x.1) xs (AreParts-after columns n w held x.1 h one) (All-tail (IsWideRow w) x xs all)))

pub fallen_fit : (columns : List ℕ) (n w : ℕ) (held : Row → List Row) (b : List (Bool × Row)) (fallen : List (Option Row)) → fallen ≡ all_fallen columns n held b → AreParts n w held → IsTable (width b) b → width b ≡ w
    → (length fallen ≡ length b) × HaveOneWidth (interleaved b fallen)
fallen_fit columns n w held b fallen e h table wide =
    let P : List (Option Row) → Type 0 = λ fs. (length fs ≡ length b) × HaveOneWidth (interleaved b fs) in
    subst P (sym e) (length-fallen columns n held b, (w, interleaved_wide columns n w held b h (λ i d lt. table i d lt ∙ wide)))

-- what falls out is as wide as what came
pub fallen_in_wide : (n w : ℕ) (held came : List Row) (row : Row) → AreWide w held → AreWide w came → length row ≡ w → IsFallenWide w (fallen_in n (held ++ (came ++ row ∷ [])))
fallen_in_wide n w held came row h c e = here (nat_lt n (length rows)) refl
  where
    rows : List Row
    rows = held ++ (came ++ row ∷ [])

    wide : AreWide w rows
    wide = All-append (λ (r : Row). length r ≡ w) held (came ++ row ∷ []) h (All-push (λ (r : Row). length r ≡ w) came row c e)

    here : (b : Bool) → nat_lt n (length rows) ≡ b → IsFallenWide w (cond b (Some (get_or rows (length rows - suc n) [])) None)
    here true lt = wide (length rows - suc n) [] (omega (arith, length-append held (came ++ row ∷ []), length-append came (row ∷ [])))
    here false lt = tt

those_wide : (w : ℕ) (f : Option Row) (fallen : List (Option Row)) → IsFallenWide w f → AreWide w (those_fallen fallen) → AreWide w (those_fallen (f ∷ fallen))
those_wide w None fallen h all = all
those_wide w (Some r) fallen h all = All-cons (λ (r : Row). length r ≡ w) r (those_fallen fallen) h all

pub all_fallen_wide : (columns : List ℕ) (n w : ℕ) (held : Row → List Row) (xs : List (Bool × Row)) → AreParts n w held → All (IsWideRow w) xs → AreWide w (those_fallen (all_fallen columns n held xs))
all_fallen_wide columns n w held [] h all = All-nil (λ (r : Row). length r ≡ w)
all_fallen_wide columns n w held (x ∷ xs) h all =
    let one : length x.1 ≡ w = All-head (IsWideRow w) x xs all in
    let key : Row = key_in columns x.1 in
    let rows : List Row = held key ++ x.1 ∷ [] in
    let wide : AreWide w rows = All-push (λ (r : Row). length r ≡ w) (held key) x.1 (h.wide key) one in
    those_wide w (fallen_of n rows) _ (fallen_wide n w rows wide (omega (arith, length-append (held key) (x.1 ∷ []))))
    (all_fallen_wide columns n w (held_after columns n held x.1) xs (AreParts-after columns n w held x.1 h one) (All-tail (IsWideRow w) x xs all))
