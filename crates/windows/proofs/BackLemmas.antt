-- Rows that are taken back out of their partitions.
use Rattle.std.proofs.Common.{◌≡◌, ℕ, zero, suc, ◌+◌, ◌-◌, ◌<◌, ◌≤◌, Bool, true, false, cond, nat_lt, Option, Some, None, unwrap_or, List, [], ◌∷◌, ◌++◌, length, take, drop, get_or, refl, ap, ap₂, sym, ◌∙◌, subst, arith, true≢false, lt-ltb, le-ltb, ⊎_elim}
use Rattle.std.proofs.Math.Seq.{take-append_seam}
use Rattle.std.specs.Option.{IsSome, is_some}
use Rattle.std.specs.Ordering.{is_eq, match_ordering}
use Rattle.std.specs.declared.cmp.Ordering.{Ordering}
use Rattle.std.specs.declared.cmp.Ordering.TheVariants.{Less, Equal, Greater}
use Rattle.std.specs.Map.{lookup, remove_entry, set_value}
use Rattle.std.specs.BTreeMap.{insert_entry, is_at}
use Rattle.std.proofs.lemmas.Bool.{cases_lt}
use Rattle.std.proofs.lemmas.List.{length-append, length-drop}
use Rattle.std.proofs.lemmas.List.Elements.{All-cons, All-nil, All-take}
use Rattle.std.proofs.lemmas.Map.Steps.{set_value_same}
use Rattle.values.specs.Row.{Row}
use Rattle.windows.specs.Back.{AreSome, all_back, left_some, part_back, rows_back}
use Rattle.windows.specs.Fallen.{IsFallenWide}
use Rattle.windows.specs.Latest.{all_after, all_fallen, fallen_of, held_after, held_in, key_cmp, key_in, last_of, part}
use Rattle.windows.specs.Widths.{AreWide, OneRow}
use Rattle.windows.proofs.LatestLemmas.{after_is, last_of-few, length-last_of, like}
use Rattle.windows.proofs.PartLemmas.{part-none, part-set_value, same_exact, same_self}

empty : (rows : List Row) → length rows ≤ 0 → rows ≡ []
empty [] le = refl
empty (r ∷ rows) le = absurd (omega (arith, le))

-- ---- every partition has a row
pub some_at : (test : OneRow → Bool) (es : List (OneRow × List Row)) (rows : List Row) → AreSome es → lookup test es ≡ Some rows → 0 < length rows
some_at test [] rows h is = absurd (true≢false (sym (ap is_some is)))
some_at test (e ∷ es) rows h is = here (test e.0) (λ d. some_at test es rows h.1 d) is
  where
    here : (b : Bool) → (lookup test es ≡ Some rows → 0 < length rows) → cond b (Some e.1) (lookup test es) ≡ Some rows → 0 < length rows
    here true rest is = subst (λ (rs : List Row). 0 < length rs) (ap (λ (o : Option (List Row)). unwrap_or o []) is) h.0
    here false rest is = rest is

pub some_part : (key : OneRow) (es : List (OneRow × List Row)) → AreSome es → IsSome (lookup (is_at (key_cmp key)) es) → 0 < length (part key es)
some_part key es all has = here (lookup (is_at (key_cmp key)) es) refl has
  where
    here : (o : Option (List Row)) → lookup (is_at (key_cmp key)) es ≡ o → IsSome o → 0 < length (unwrap_or o [])
    here None found h = absurd (true≢false (sym h))
    here (Some rows) found h = some_at (is_at (key_cmp key)) es rows all found

pub some_set : (test : OneRow → Bool) (es : List (OneRow × List Row)) (w : List Row) → 0 < length w → AreSome es → AreSome (set_value test es w)
some_set test [] w some h = tt
some_set test (e ∷ es) w some h = here (test e.0) (some_set test es w some h.1)
  where
    here : (b : Bool) → AreSome (set_value test es w) → AreSome (cond b ((e.0, w) ∷ es) (e ∷ set_value test es w))
    here true rest = (some, h.1)
    here false rest = (h.0, rest)

pub some_insert : (key : OneRow) (es : List (OneRow × List Row)) (w : List Row) → 0 < length w → AreSome es → AreSome (insert_entry key_cmp es key w)
some_insert key [] w some h = (some, tt)
some_insert key (e ∷ es) w some h = here (key_cmp key e.0) (some_insert key es w some h.1)
  where
    here : (o : Ordering) → AreSome (insert_entry key_cmp es key w) → AreSome (match_ordering o ((key, w) ∷ e ∷ es) ((e.0, w) ∷ es) (e ∷ insert_entry key_cmp es key w))
    here Less rest = (some, h)
    here Equal rest = (some, h.1)
    here Greater rest = (h.0, rest)

some_remove : (test : OneRow → Bool) (es : List (OneRow × List Row)) → AreSome es → AreSome (remove_entry test es)
some_remove test [] h = tt
some_remove test (e ∷ es) h = here (test e.0) (some_remove test es h.1)
  where
    here : (b : Bool) → AreSome (remove_entry test es) → AreSome (cond b es (e ∷ remove_entry test es))
    here true rest = h.1
    here false rest = (h.0, rest)

-- ---- what was written is written over, and what was inserted is removed
pub set_twice : (test : OneRow → Bool) (es : List (OneRow × List Row)) (v w : List Row) → set_value test (set_value test es v) w ≡ set_value test es w
set_twice test [] v w = refl
set_twice test (e ∷ es) v w = here (test e.0) refl (set_twice test es v w)
  where
    here : (b : Bool) → test e.0 ≡ b → set_value test (set_value test es v) w ≡ set_value test es w → set_value test (cond b ((e.0, v) ∷ es) (e ∷ set_value test es v)) w ≡ cond b ((e.0, w) ∷ es) (e ∷ set_value test es w)
    here true is rest = ap (λ c. cond c ((e.0, w) ∷ es) ((e.0, v) ∷ set_value test es w)) is
    here false is rest = ap (λ c. cond c ((e.0, w) ∷ set_value test es v) (e ∷ set_value test (set_value test es v) w)) is ∙ ap (λ (l : List (OneRow × List Row)). e ∷ l) rest

set_absent : (test : OneRow → Bool) (es : List (OneRow × List Row)) (w : List Row) → lookup test es ≡ None → set_value test es w ≡ es
set_absent test [] w none = refl
set_absent test (e ∷ es) w none = here (test e.0) none (λ d. set_absent test es w d)
  where
    here : (b : Bool) → cond b (Some e.1) (lookup test es) ≡ None → (lookup test es ≡ None → set_value test es w ≡ es) → cond b ((e.0, w) ∷ es) (e ∷ set_value test es w) ≡ e ∷ es
    here true d rest = absurd (true≢false (ap is_some d))
    here false d rest = ap (λ (l : List (OneRow × List Row)). e ∷ l) (rest d)

remove_absent : (test : OneRow → Bool) (es : List (OneRow × List Row)) → lookup test es ≡ None → remove_entry test es ≡ es
remove_absent test [] none = refl
remove_absent test (e ∷ es) none = here (test e.0) none (λ d. remove_absent test es d)
  where
    here : (b : Bool) → cond b (Some e.1) (lookup test es) ≡ None → (lookup test es ≡ None → remove_entry test es ≡ es) → cond b es (e ∷ remove_entry test es) ≡ e ∷ es
    here true d rest = absurd (true≢false (ap is_some d))
    here false d rest = ap (λ (l : List (OneRow × List Row)). e ∷ l) (rest d)

remove_set : (test : OneRow → Bool) (es : List (OneRow × List Row)) (w : List Row) → remove_entry test (set_value test es w) ≡ remove_entry test es
remove_set test [] w = refl
remove_set test (e ∷ es) w = here (test e.0) refl (remove_set test es w)
  where
    here : (b : Bool) → test e.0 ≡ b → remove_entry test (set_value test es w) ≡ remove_entry test es → remove_entry test (cond b ((e.0, w) ∷ es) (e ∷ set_value test es w)) ≡ cond b es (e ∷ remove_entry test es)
    here true is rest = ap (λ c. cond c es ((e.0, w) ∷ remove_entry test es)) is
    here false is rest = ap (λ c. cond c (set_value test es w) (e ∷ remove_entry test (set_value test es w))) is ∙ ap (λ (l : List (OneRow × List Row)). e ∷ l) rest

front_back : (key : OneRow) (es : List (OneRow × List Row)) (v w : List Row) → remove_entry (is_at (key_cmp key)) (set_value (is_at (key_cmp key)) ((key, v) ∷ es) w) ≡ es
front_back key es v w =
    let test : OneRow → Bool = is_at (key_cmp key) in
    let self : test key ≡ true = same_self key.items in
    ap (λ c. remove_entry test (cond c ((key, w) ∷ es) ((key, v) ∷ set_value test es w))) self
    ∙ ap (λ c. cond c es ((key, w) ∷ remove_entry test es)) self

pub insert_back : (key : OneRow) (es : List (OneRow × List Row)) (v w : List Row) → is_some (lookup (is_at (key_cmp key)) es) ≡ false → remove_entry (is_at (key_cmp key)) (set_value (is_at (key_cmp key)) (insert_entry key_cmp es key v) w) ≡ es
insert_back key [] v w none = front_back key [] v w
insert_back key (e ∷ es) v w none = here (key_cmp key e.0) refl (λ n. insert_back key es v w n)
  where
    here : (o : Ordering) → key_cmp key e.0 ≡ o
        → (is_some (lookup (is_at (key_cmp key)) es) ≡ false → remove_entry (is_at (key_cmp key)) (set_value (is_at (key_cmp key)) (insert_entry key_cmp es key v) w) ≡ es)
        → remove_entry (is_at (key_cmp key)) (set_value (is_at (key_cmp key)) (match_ordering o ((key, v) ∷ e ∷ es) ((e.0, v) ∷ es) (e ∷ insert_entry key_cmp es key v)) w) ≡ e ∷ es
    here Less is rest = front_back key (e ∷ es) v w
    here Equal is rest = absurd (true≢false (sym (ap (λ o. is_some (cond (is_eq o) (Some e.1) (lookup (is_at (key_cmp key)) es))) is) ∙ none))
    here Greater is rest =
        let no : is_some (lookup (is_at (key_cmp key)) es) ≡ false = sym (ap (λ o. is_some (cond (is_eq o) (Some e.1) (lookup (is_at (key_cmp key)) es))) is) ∙ none in
        let more : List (OneRow × List Row) = insert_entry key_cmp es key v in
        ap (λ o. remove_entry (is_at (key_cmp key)) (cond (is_eq o) ((e.0, w) ∷ more) (e ∷ set_value (is_at (key_cmp key)) more w))) is
        ∙ ap (λ o. cond (is_eq o) (set_value (is_at (key_cmp key)) more w) (e ∷ remove_entry (is_at (key_cmp key)) (set_value (is_at (key_cmp key)) more w))) is
        ∙ ap (λ (l : List (OneRow × List Row)). e ∷ l) (rest no)

-- ---- the rows of a partition
push_back : (rows : List Row) (r : Row) → take (length (rows ++ r ∷ []) - 1) (rows ++ r ∷ []) ≡ rows
push_back rows r =
    let size : length (rows ++ r ∷ []) - 1 ≡ length rows = omega (arith, length-append rows (r ∷ [])) in
    ap (λ k. take k (rows ++ r ∷ [])) size ∙ take-append_seam rows (r ∷ [])

back_few : (n : ℕ) (rows : List Row) (r : Row) → length rows < n → rows_back (fallen_of n (rows ++ r ∷ [])) (last_of n (rows ++ r ∷ [])) ≡ rows
back_few n rows r lt =
    let few : length (rows ++ r ∷ []) ≤ n = omega (arith, lt, length-append rows (r ∷ [])) in
    let no : nat_lt n (length (rows ++ r ∷ [])) ≡ false = le-ltb _ _ few in
    ap (λ c. rows_back (cond c (Some (get_or (rows ++ r ∷ []) 0 [])) None) (last_of n (rows ++ r ∷ []))) no
    ∙ ap (λ (l : List Row). rows_back None l) (last_of-few n (rows ++ r ∷ []) few)
    ∙ push_back rows r

back_full : (n : ℕ) (rows : List Row) (r : Row) → 0 < n → length rows ≡ n → rows_back (fallen_of n (rows ++ r ∷ [])) (last_of n (rows ++ r ∷ [])) ≡ rows
back_full n [] r some full = absurd (omega (arith, some, full))
back_full n (p ∷ rows) r some full =
    let size : length (p ∷ (rows ++ r ∷ [])) ≡ suc n = omega (arith, full, length-append rows (r ∷ [])) in
    let yes : nat_lt n (length (p ∷ (rows ++ r ∷ []))) ≡ true = lt-ltb _ _ (omega (arith, size)) in
    let one : length (p ∷ (rows ++ r ∷ [])) - n ≡ 1 = omega (arith, size) in
    ap (λ c. rows_back (cond c (Some p) None) (last_of n (p ∷ (rows ++ r ∷ [])))) yes
    ∙ ap (λ k. rows_back (Some p) (drop k (p ∷ (rows ++ r ∷ [])))) one
    ∙ ap (λ (l : List Row). p ∷ l) (push_back rows r)

pub back_rows : (n : ℕ) (rows : List Row) (r : Row) → 0 < n → length rows ≤ n → rows_back (fallen_of n (rows ++ r ∷ [])) (last_of n (rows ++ r ∷ [])) ≡ rows
back_rows n rows r some few =
    ⊎_elim (λ (lt : length rows < n). back_few n rows r lt) (λ (le : n ≤ length rows). back_full n rows r some (omega (arith, le, few))) (cases_lt (length rows) n)

-- ---- a row that entered is taken back
left_as : (key : OneRow) (rows : List Row) (es : List (OneRow × List Row)) → 0 < length rows → left_some key rows es ≡ es
left_as key [] es some = absurd (omega (arith, some))
left_as key (r ∷ rows) es some = refl

pub back_set : (n : ℕ) (key : OneRow) (r : Row) (es new : List (OneRow × List Row)) → 0 < n → length (part key es) ≤ n → AreSome es → IsSome (lookup (is_at (key_cmp key)) es)
    → new ≡ set_value (is_at (key_cmp key)) es (last_of n (part key es ++ r ∷ [])) → part_back key (fallen_of n (part key es ++ r ∷ [])) new ≡ es
back_set n key r es new some few all has is = here (lookup (is_at (key_cmp key)) es) refl has
  where
    here : (o : Option (List Row)) → lookup (is_at (key_cmp key)) es ≡ o → IsSome o → part_back key (fallen_of n (part key es ++ r ∷ [])) new ≡ es
    here None found h = absurd (true≢false (sym h))
    here (Some rows) found h =
        let at : part key es ≡ rows = ap (λ (o : Option (List Row)). unwrap_or o []) found in
        let w : List Row = last_of n (part key es ++ r ∷ []) in
        let f : Option Row = fallen_of n (part key es ++ r ∷ []) in
        let self : is_eq (key_cmp key key) ≡ true = same_self key.items in
        let now : part key new ≡ w =
        ap (λ l. part key l) is ∙ part-set_value key key es w has ∙ ap (λ b. cond b w (part key es)) self in
        let back : rows_back f (part key new) ≡ rows = ap (rows_back f) now ∙ back_rows n (part key es) r some few ∙ at in
        ap (λ (l : List Row). left_some key l (set_value (is_at (key_cmp key)) new l)) back
        ∙ left_as key rows (set_value (is_at (key_cmp key)) new rows) (some_at (is_at (key_cmp key)) es rows all found)
        ∙ ap (λ l. set_value (is_at (key_cmp key)) l rows) is
        ∙ set_twice (is_at (key_cmp key)) es w rows
        ∙ set_value_same (is_at (key_cmp key)) es rows found

pub back_insert : (n : ℕ) (key : OneRow) (r : Row) (w : List Row) (es new : List (OneRow × List Row)) → 0 < n → is_some (lookup (is_at (key_cmp key)) es) ≡ false → new ≡ insert_entry key_cmp es key w
    → w ≡ last_of n (part key es ++ r ∷ []) → part key new ≡ w → part_back key (fallen_of n (part key es ++ r ∷ [])) new ≡ es
back_insert n key r w es new some none is rows now =
    let f : Option Row = fallen_of n (part key es ++ r ∷ []) in
    let gone : part key es ≡ [] = part-none key es none in
    let few : length (part key es) ≤ n = omega (arith, ap (λ (l : List Row). length l) gone) in
    let back : rows_back f (part key new) ≡ [] = ap (rows_back f) (now ∙ rows) ∙ back_rows n (part key es) r some few ∙ gone in
    ap (λ (l : List Row). left_some key l (set_value (is_at (key_cmp key)) new l)) back
    ∙ ap (λ l. remove_entry (is_at (key_cmp key)) (set_value (is_at (key_cmp key)) l [])) is
    ∙ insert_back key es w [] none

-- ---- a row that entered
last_some : (n : ℕ) (rows : List Row) (r : Row) → 0 < n → 0 < length (last_of n (rows ++ r ∷ []))
last_some n rows r some = omega (arith, some, length-append rows (r ∷ []), length-drop (length (rows ++ r ∷ []) - n) (rows ++ r ∷ []))

pub set_some : (n : ℕ) (key : OneRow) (r : Row) (es new : List (OneRow × List Row)) → 0 < n → AreSome es → new ≡ set_value (is_at (key_cmp key)) es (last_of n (part key es ++ r ∷ [])) → AreSome new
set_some n key r es new some all is = subst AreSome (sym is) (some_set (is_at (key_cmp key)) es (last_of n (part key es ++ r ∷ [])) (last_some n (part key es) r some) all)

pub insert_some : (n : ℕ) (key : OneRow) (r : Row) (w : List Row) (es new : List (OneRow × List Row)) → 0 < n → AreSome es → new ≡ insert_entry key_cmp es key w → w ≡ last_of n ([] ++ r ∷ []) → AreSome new
insert_some n key r w es new some all is rows =
    subst AreSome (sym is) (some_insert key es w (subst (λ (l : List Row). 0 < length l) (sym rows) (last_some n [] r some)) all)

-- where no row is shown, none enters
pub none_enters : (n : ℕ) (key k : OneRow) (r : Row) (es : List (OneRow × List Row)) → n ≡ 0 → length (part key es) ≤ n → part k es ≡ cond (is_eq (key_cmp key k)) (last_of n (part key es ++ r ∷ [])) (part k es)
none_enters n key k r es none_shown few = here (is_eq (key_cmp key k)) refl
  where
    none : last_of n (part key es ++ r ∷ []) ≡ []
    none = empty (last_of n (part key es ++ r ∷ [])) (omega (arith, none_shown, length-last_of n (part key es ++ r ∷ [])))

    here : (b : Bool) → is_eq (key_cmp key k) ≡ b → part k es ≡ cond b (last_of n (part key es ++ r ∷ [])) (part k es)
    here true is = ap (λ (i : Row). part (record { items = i }) es) (sym (same_exact key.items k.items is)) ∙ empty (part key es) (omega (arith, none_shown, few)) ∙ sym none
    here false is = refl

-- ---- the newest row of a partition is taken back
pub back_absent : (key : OneRow) (f : Option Row) (es : List (OneRow × List Row)) → is_some (lookup (is_at (key_cmp key)) es) ≡ false → part_back key f es ≡ es
back_absent key f es none =
    let gone : lookup (is_at (key_cmp key)) es ≡ None = is_none (lookup (is_at (key_cmp key)) es) none in
    here (rows_back f (part key es)) gone
  where
    is_none : (o : Option (List Row)) → is_some o ≡ false → o ≡ None
    is_none None h = refl
    is_none (Some rows) h = absurd (true≢false h)

    here : (rows : List Row) → lookup (is_at (key_cmp key)) es ≡ None → left_some key rows (set_value (is_at (key_cmp key)) es rows) ≡ es
    here [] gone = ap (remove_entry (is_at (key_cmp key))) (set_absent (is_at (key_cmp key)) es [] gone) ∙ remove_absent (is_at (key_cmp key)) es gone
    here (r ∷ rows) gone = set_absent (is_at (key_cmp key)) es (r ∷ rows) gone

pub some_kept : (key : OneRow) (f : Option Row) (es new : List (OneRow × List Row)) → AreSome es → 0 < length (rows_back f (part key es)) → new ≡ set_value (is_at (key_cmp key)) es (rows_back f (part key es)) → AreSome new
some_kept key f es new all some is = subst AreSome (sym is) (some_set (is_at (key_cmp key)) es (rows_back f (part key es)) some all)

pub some_left : (key : OneRow) (w : List Row) (es middle new : List (OneRow × List Row)) → AreSome es → middle ≡ set_value (is_at (key_cmp key)) es w → new ≡ remove_entry (is_at (key_cmp key)) middle → AreSome new
some_left key w es middle new all is left =
    let e : new ≡ remove_entry (is_at (key_cmp key)) es = left ∙ ap (remove_entry (is_at (key_cmp key))) is ∙ remove_set (is_at (key_cmp key)) es w in
    subst AreSome (sym e) (some_remove (is_at (key_cmp key)) es all)

-- ---- how wide the rows are
wide_rows : (w : ℕ) (f : Option Row) (rows : List Row) → IsFallenWide w f → AreWide w rows → AreWide w (rows_back f rows)
wide_rows w None rows h wide = All-take (λ (r : Row). length r ≡ w) (length rows - 1) rows wide
wide_rows w (Some r) rows h wide = All-cons (λ (r : Row). length r ≡ w) r (take (length rows - 1) rows) h (All-take (λ (r : Row). length r ≡ w) (length rows - 1) rows wide)

wide_cond : (w : ℕ) (b : Bool) (l m : List Row) → AreWide w l → AreWide w m → AreWide w (cond b l m)
wide_cond w true l m h k = h
wide_cond w false l m h k = k

wide_none : (w : ℕ) → AreWide w []
wide_none w = All-nil (λ (r : Row). length r ≡ w)

pub wide_kept : (w : ℕ) (key : OneRow) (f : Option Row) (es new : List (OneRow × List Row)) (k : Row) → IsSome (lookup (is_at (key_cmp key)) es) → new ≡ set_value (is_at (key_cmp key)) es (rows_back f (part key es)) → IsFallenWide w f
    → ((i : Row) → AreWide w (held_in es i)) → AreWide w (held_in new k)
wide_kept w key f es new k has is fits wide =
    let one : OneRow = record { items = k } in
    let rows : List Row = rows_back f (part key es) in
    let e : held_in new k ≡ cond (is_eq (key_cmp key one)) rows (held_in es k) = ap (λ l. part one l) is ∙ part-set_value key one es rows has in
    subst (λ (l : List Row). AreWide w l) (sym e) (wide_cond w (is_eq (key_cmp key one)) rows (held_in es k) (wide_rows w f (part key es) fits (wide key.items)) (wide k))

pub wide_left : (w : ℕ) (key : OneRow) (middle new : List (OneRow × List Row)) (k : Row) → ((i : OneRow) → lookup (is_at (key_cmp i)) new ≡ cond (is_eq (key_cmp key i)) None (lookup (is_at (key_cmp i)) middle)) → AreWide w (held_in middle k) → AreWide w (held_in new k)
wide_left w key middle new k updates wide =
    let one : OneRow = record { items = k } in
    let e : held_in new k ≡ unwrap_or (cond (is_eq (key_cmp key one)) None (lookup (is_at (key_cmp one)) middle)) [] = ap (λ (o : Option (List Row)). unwrap_or o []) (updates one) in
    subst (λ (l : List Row). AreWide w l) (sym e) (here (is_eq (key_cmp key one)))
  where
    here : (b : Bool) → AreWide w (unwrap_or (cond b None (lookup (is_at (key_cmp (record { items = k }))) middle)) [])
    here true = wide_none w
    here false = wide

-- ---- all rows are taken back
pub back_step : (columns : List ℕ) (b : List (Bool × Row)) (fs : List (Option Row)) (n m : ℕ) (key : OneRow) (f : Option Row) (es new : List (OneRow × List Row)) → n ≡ m + 1 → new ≡ part_back key f es → key.items ≡ key_in columns (get_or b m (true, [])).1
    → f ≡ get_or fs m None → all_back columns b fs m new ≡ all_back columns b fs n es
back_step columns b fs n m key f es new next is at fell =
    let one : n ≡ suc m = omega (arith, next) in
    ap (all_back columns b fs m)
    (is ∙ ap₂ (λ (i : Row) (g : Option Row). part_back (record { items = i }) g es) at fell)
    ∙ ap (λ k. all_back columns b fs k es) (sym one)

-- the row that falls out at a place
pub all_fallen_at : (columns : List ℕ) (n : ℕ) (held : Row → List Row) (b : List (Bool × Row)) (p : ℕ) → p < length b
    → get_or (all_fallen columns n held b) p None ≡ fallen_of n (all_after columns n held (take p b) (key_in columns (get_or b p (true, [])).1) ++ (get_or b p (true, [])).1 ∷ [])
all_fallen_at columns n held [] p lt = absurd (omega (arith, lt))
all_fallen_at columns n held (x ∷ b) zero lt = refl
all_fallen_at columns n held (x ∷ b) (suc p) lt = all_fallen_at columns n (held_after columns n held x.1) b p (omega (arith, lt))

pub fell_at : (columns : List ℕ) (n : ℕ) (held old : Row → List Row) (b : List (Bool × Row)) (fs : List (Option Row)) (p : ℕ) (key row : Row) → p < length b → fs ≡ all_fallen columns n held b → ((k : Row) → old k ≡ all_after columns n held (take p b) k)
    → key ≡ key_in columns row → row ≡ (get_or b p (true, [])).1 → fallen_of n (old key ++ row ∷ []) ≡ get_or fs p None
fell_at columns n held old b fs p key row lt is so_far at e =
    ap (λ (l : List Row). fallen_of n (l ++ row ∷ [])) (so_far key ∙ ap (all_after columns n held (take p b)) at)
    ∙ ap (λ (r : Row). fallen_of n (all_after columns n held (take p b) (key_in columns r) ++ r ∷ [])) e
    ∙ sym (all_fallen_at columns n held b p lt)
    ∙ ap (λ (l : List (Option Row)). get_or l p None) (sym is)

-- where no row is shown, none is held after any
pub none_after : (columns : List ℕ) (n : ℕ) (held : Row → List Row) (b : List (Bool × Row)) (k : Row) → n ≡ 0 → length (held k) ≤ n → held k ≡ all_after columns n held b k
none_after columns n held b k is few =
    empty (held k) (omega (arith, is, few))
    ∙ sym (after_is columns n held b k few ∙ empty (last_of n (held k ++ like columns k b)) (omega (arith, is, length-last_of n (held k ++ like columns k b))))
