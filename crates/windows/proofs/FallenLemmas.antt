-- Rows that fall out, as they are kept and as they are put out.
use Rattle.std.proofs.Common.{◌≡◌, ℕ, zero, suc, ◌+◌, ◌≤◌, ◌<◌, Bool, true, false, Option, Some, None, List, [], ◌∷◌, ◌++◌, map, length, take, get_or, refl, ap, sym, ◌∙◌, subst, arith, append_assoc, true≢false}
use Rattle.std.specs.List.{All}
use Rattle.std.specs.Option.{is_some}
use Rattle.std.proofs.lemmas.List.{get_or-map, length-map, take_more, length-take}
use Rattle.std.proofs.lemmas.List.Elements.{All-head, All-tail}
use Rattle.values.specs.Row.{Row}
use Rattle.column.specs.Rows.{width}
use Rattle.windows.specs.Fallen.{IsBeside, IsFallenWide, fallen_at, fallen_before, falling, those_fallen}
use Rattle.windows.specs.Latest.{AreFallen, interleaved, minus_of}
use Rattle.windows.specs.Widths.{AreWide}

-- ---- one more
pub fallen_at-none : (falls : List Bool) (rows : List Row) → falling falls ≡ length rows → fallen_at (falls ++ false ∷ []) rows ≡ fallen_at falls rows ++ None ∷ []
fallen_at-none [] rows e = refl
fallen_at-none (false ∷ falls) rows e = ap (λ (l : List (Option Row)). None ∷ l) (fallen_at-none falls rows e)
fallen_at-none (true ∷ falls) [] e = absurd (omega (arith, e))
fallen_at-none (true ∷ falls) (r ∷ rows) e = ap (λ (l : List (Option Row)). Some r ∷ l) (fallen_at-none falls rows (omega (arith, e)))

pub fallen_at-some : (falls : List Bool) (rows : List Row) (q : Row) → falling falls ≡ length rows → fallen_at (falls ++ true ∷ []) (rows ++ q ∷ []) ≡ fallen_at falls rows ++ Some q ∷ []
fallen_at-some [] [] q e = refl
fallen_at-some [] (r ∷ rows) q e = absurd (omega (arith, e))
fallen_at-some (false ∷ falls) rows q e = ap (λ (l : List (Option Row)). None ∷ l) (fallen_at-some falls rows q e)
fallen_at-some (true ∷ falls) [] q e = absurd (omega (arith, e))
fallen_at-some (true ∷ falls) (r ∷ rows) q e = ap (λ (l : List (Option Row)). Some r ∷ l) (fallen_at-some falls rows q (omega (arith, e)))

pub falling-none : (falls : List Bool) → falling (falls ++ false ∷ []) ≡ falling falls
falling-none [] = refl
falling-none (false ∷ falls) = falling-none falls
falling-none (true ∷ falls) = ap (λ (n : ℕ). suc n) (falling-none falls)

pub falling-some : (falls : List Bool) → falling (falls ++ true ∷ []) ≡ suc (falling falls)
falling-some [] = refl
falling-some (false ∷ falls) = falling-some falls
falling-some (true ∷ falls) = ap (λ (n : ℕ). suc n) (falling-some falls)

-- ---- what is kept is what they say
pub falls_are : (falls : List Bool) (rows : List Row) → falling falls ≡ length rows → map is_some (fallen_at falls rows) ≡ falls
falls_are [] rows e = refl
falls_are (false ∷ falls) rows e = ap (λ (l : List Bool). false ∷ l) (falls_are falls rows e)
falls_are (true ∷ falls) [] e = absurd (omega (arith, e))
falls_are (true ∷ falls) (r ∷ rows) e = ap (λ (l : List Bool). true ∷ l) (falls_are falls rows (omega (arith, e)))

pub rows_are : (falls : List Bool) (rows : List Row) → falling falls ≡ length rows → those_fallen (fallen_at falls rows) ≡ rows
rows_are [] [] e = refl
rows_are [] (r ∷ rows) e = absurd (omega (arith, e))
rows_are (false ∷ falls) rows e = rows_are falls rows e
rows_are (true ∷ falls) [] e = absurd (omega (arith, e))
rows_are (true ∷ falls) (r ∷ rows) e = ap (λ (l : List Row). r ∷ l) (rows_are falls rows (omega (arith, e)))

pub length-fallen_at : (falls : List Bool) (rows : List Row) → falling falls ≡ length rows → length (fallen_at falls rows) ≡ length falls
length-fallen_at falls rows e = sym (length-map (fallen_at falls rows) (λ (f : Option Row). is_some f)) ∙ ap (λ (l : List Bool). length l) (falls_are falls rows e)

pub falls_at : (falls : List Bool) (rows : List Row) (p : ℕ) (fell : Bool) → falling falls ≡ length rows → p < length falls → fell ≡ get_or falls p fell → fell ≡ is_some (get_or (fallen_at falls rows) p None)
falls_at falls rows p fell e lt is =
    is ∙ ap (λ (l : List Bool). get_or l p fell) (sym (falls_are falls rows e))
    ∙ get_or-map (λ (f : Option Row). is_some f) (fallen_at falls rows) p None fell (omega (arith, lt, length-fallen_at falls rows e))

pub same_falls : (falls others : List Bool) (rows those : List Row) → falling falls ≡ length rows → falling others ≡ length those → fallen_at falls rows ≡ fallen_at others those → falls ≡ others
same_falls falls others rows those e o is = sym (falls_are falls rows e) ∙ ap (map (λ (f : Option Row). is_some f)) is ∙ falls_are others those o

pub same_fallen : (falls others : List Bool) (rows those : List Row) → falling falls ≡ length rows → falling others ≡ length those → fallen_at falls rows ≡ fallen_at others those → rows ≡ those
same_fallen falls others rows those e o is = sym (rows_are falls rows e) ∙ ap those_fallen is ∙ rows_are others those o

-- ---- one by one
row_of : (near : List (Option Row)) (p : ℕ) → is_some (get_or near p None) ≡ true → Some (get_or (those_fallen near) (fallen_before near p) []) ≡ get_or near p None
row_of [] p h = absurd (true≢false (sym h))
row_of (None ∷ near) zero h = absurd (true≢false (sym h))
row_of (Some r ∷ near) zero h = refl
row_of (None ∷ near) (suc p) h = row_of near p h
row_of (Some r ∷ near) (suc p) h = row_of near p h

pub before_within : (near : List (Option Row)) (p : ℕ) → is_some (get_or near p None) ≡ true → fallen_before near p < length (those_fallen near)
before_within [] p h = absurd (true≢false (sym h))
before_within (None ∷ near) zero h = absurd (true≢false (sym h))
before_within (Some r ∷ near) zero h = omega arith
before_within (None ∷ near) (suc p) h = before_within near p h
before_within (Some r ∷ near) (suc p) h = omega (arith, before_within near p h)

pub fallen_row : (near : List (Option Row)) (p fell : ℕ) (row : Row) → is_some (get_or near p None) ≡ true → fell ≡ fallen_before near p → row ≡ get_or (those_fallen near) fell [] → get_or near p None ≡ Some row
fallen_row near p fell row h e is = sym (row_of near p h) ∙ ap (λ (k : ℕ). Some (get_or (those_fallen near) k [])) (sym e) ∙ ap (λ (r : Row). Some r) (sym is)

pub those_few : (near : List (Option Row)) → length (those_fallen near) ≤ length near
those_few [] = omega arith
those_few (None ∷ near) = omega (arith, those_few near)
those_few (Some r ∷ near) = omega (arith, those_few near)

before_suc : (near : List (Option Row)) (p : ℕ) → p < length near → fallen_before near (suc p) ≡ fallen_before near p + length (minus_of (get_or near p None))
before_suc [] p lt = absurd (omega (arith, lt))
before_suc (None ∷ near) zero lt = refl
before_suc (Some r ∷ near) zero lt = refl
before_suc (None ∷ near) (suc p) lt = before_suc near p (omega (arith, lt))
before_suc (Some r ∷ near) (suc p) lt = omega (arith, before_suc near p (omega (arith, lt)))

pub before_more : (near : List (Option Row)) (p : ℕ) → p < length near → fallen_before near (p + 1) ≡ fallen_before near p + length (minus_of (get_or near p None))
before_more near p lt = let one : p + 1 ≡ suc p = omega arith in ap (fallen_before near) one ∙ before_suc near p lt

pub minus_few : (f : Option Row) → length (minus_of f) ≤ 1
minus_few None = omega arith
minus_few (Some r) = omega arith

pub minus_none : (f : Option Row) → is_some f ≡ false → minus_of f ≡ []
minus_none None h = refl
minus_none (Some r) h = absurd (true≢false h)

pub minus_some : (f : Option Row) → is_some f ≡ true → length (minus_of f) ≡ 1
minus_some None h = absurd (true≢false (sym h))
minus_some (Some r) h = refl

-- ---- how wide they are
pub beside : (w : ℕ) (f : Option Row) (rows : List Row) → IsFallenWide w f → AreWide w rows → IsBeside f rows
beside w None rows h wide = tt
beside w (Some r) rows h wide = subst (λ (v : ℕ). AreWide v rows) (sym h) wide

abbrev IsWideRow : ℕ → Bool × Row → Type 0
IsWideRow w s = length s.1 ≡ w

fallen_all : (w : ℕ) (b : List (Bool × Row)) (near : List (Option Row)) (p : ℕ) → length near ≡ length b → All (IsWideRow w) (interleaved b near) → IsFallenWide w (get_or near p None)
fallen_all w [] [] p same all = tt
fallen_all w [] (f ∷ near) p same all = absurd (omega (arith, same))
fallen_all w (x ∷ b) [] p same all = absurd (omega (arith, same))
fallen_all w (x ∷ b) (None ∷ near) zero same all = tt
fallen_all w (x ∷ b) (Some r ∷ near) zero same all = All-head (IsWideRow w) (false, r) (interleaved b near) (All-tail (IsWideRow w) x ((false, r) ∷ interleaved b near) all)
fallen_all w (x ∷ b) (None ∷ near) (suc p) same all = fallen_all w b near p (omega (arith, same)) (All-tail (IsWideRow w) x (interleaved b near) all)
fallen_all w (x ∷ b) (Some r ∷ near) (suc p) same all =
    fallen_all w b near p (omega (arith, same)) (All-tail (IsWideRow w) (false, r) (interleaved b near) (All-tail (IsWideRow w) x ((false, r) ∷ interleaved b near) all))

-- a row that falls is as wide as the batch
pub fallen_wide_at : (b : List (Bool × Row)) (near : List (Option Row)) (p : ℕ) → AreFallen b near → IsFallenWide (width b) (get_or near p None)
fallen_wide_at [] [] p h = tt
fallen_wide_at [] (f ∷ near) p h = absurd (omega (arith, h.0))
fallen_wide_at (x ∷ b) [] p h = tt
fallen_wide_at (x ∷ b) (f ∷ near) p h =
    let w : ℕ = h.1.0 in
    let first : length x.1 ≡ w = All-head (IsWideRow w) x (minus_of f ++ interleaved b near) h.1.1 in
    subst (λ (v : ℕ). IsFallenWide v (get_or (f ∷ near) p None)) (sym first) (fallen_all w (x ∷ b) (f ∷ near) p h.0 h.1.1)

-- ---- what is put out
interleaved_push : (xs : List (Bool × Row)) (fs : List (Option Row)) (x : Bool × Row) (f : Option Row) → length fs ≡ length xs → interleaved (xs ++ x ∷ []) (fs ++ f ∷ []) ≡ interleaved xs fs ++ (x ∷ minus_of f)
interleaved_push [] [] x None e = refl
interleaved_push [] [] x (Some r) e = refl
interleaved_push [] (g ∷ fs) x f e = absurd (omega (arith, e))
interleaved_push (y ∷ xs) [] x f e = absurd (omega (arith, e))
interleaved_push (y ∷ xs) (g ∷ fs) x f e =
    ap (λ l. y ∷ l) (ap (λ l. minus_of g ++ l) (interleaved_push xs fs x f (omega (arith, e))) ∙ sym (append_assoc (minus_of g) (interleaved xs fs) (x ∷ minus_of f)))

-- a row more, and what falls out after it
pub put_more : (b : List (Bool × Row)) (near : List (Option Row)) (p : ℕ) (before rows : List (Bool × Row)) (x : Bool × Row) → p < length b → length near ≡ length b
    → before ++ rows ≡ interleaved (take p b) (take p near) → x ≡ get_or b p (true, []) → before ++ ((rows ++ x ∷ []) ++ minus_of (get_or near p None)) ≡ interleaved (take (p + 1) b) (take (p + 1) near)
put_more b near p before rows x lt long o r =
    let f : Option Row = get_or near p None in
    let tb : take (p + 1) b ≡ take p b ++ x ∷ [] = take_more b p (true, []) lt ∙ ap (λ s. take p b ++ s ∷ []) (sym r) in
    let tn : take (p + 1) near ≡ take p near ++ f ∷ [] = take_more near p None (omega (arith, lt, long)) in
    let same : length (take p near) ≡ length (take p b) = omega (arith, length-take p near, length-take p b, long) in
    ap (λ (l : List (Bool × Row)). before ++ l) (append_assoc rows (x ∷ []) (minus_of f))
    ∙ sym (append_assoc before rows (x ∷ minus_of f))
    ∙ ap (λ (l : List (Bool × Row)). l ++ (x ∷ minus_of f)) o
    ∙ sym (interleaved_push (take p b) (take p near) x f same)
    ∙ ap (λ (l : List (Bool × Row)). interleaved l (take p near ++ f ∷ [])) (sym tb)
    ∙ ap (interleaved (take (p + 1) b)) (sym tn)
