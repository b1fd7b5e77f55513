-- What a window of the last rows of each partition shows, by what it holds.
use Rattle.std.proofs.Common.{◌≡◌, ℕ, suc, ◌+◌, ◌≤◌, ◌<◌, Bool, true, false, cond, ◌&&◌, nat_lt, nat_le, List, [], ◌∷◌, ◌++◌, filter, refl, ap, ap₂, sym, ◌∙◌, arith, ltb-true, ltb-false, lt-ltb, le-ltb, leb-true, le-leb}
use Rattle.std.proofs.lemmas.List.Elements.{filter-append}
use Rattle.values.specs.Window.{Element, Window, LastRows, counts, count_later, is_later, shows, window_rows}
use Rattle.values.proofs.Windows.{tally, tally-append, tally_is}
use Rattle.windows.specs.Laws.{AreUpTo, ComeAfter, Each, IsLater, IsRising, rows_in_order, shown_of}
use Rattle.windows.proofs.WindowLemmas.{Each_filter, Each_map, alike, and_false, and_true, filter_each, filter_through, last_each, later_through, not_itself, not_later, tally_each, tally_le, tally_none, tally_through, through}

counts_alike : (columns : List ℕ) (t : ℕ) (e f : Element) → f.instant ≤ t → is_later e f ≡ true → counts columns t e f ≡ alike columns e f
counts_alike columns t e f u l = ap (λ b. b && (is_later e f && alike columns e f)) (le-leb _ _ u) ∙ ap (λ b. b && alike columns e f) l

counts_none : (columns : List ℕ) (t : ℕ) (e f : Element) → is_later e f ≡ false → counts columns t e f ≡ false
counts_none columns t e f l = and_false (nat_le f.instant t) (is_later e f && alike columns e f) (ap (λ b. b && alike columns e f) l)

counts_later : (columns : List ℕ) (t u : ℕ) (e f : Element) → f.instant ≤ t → t ≤ u → counts columns u e f ≡ counts columns t e f
counts_later columns t u e f h le = ap (λ b. b && (is_later e f && alike columns e f)) (le-leb _ _ (omega (arith, h, le)) ∙ sym (le-leb _ _ h))

-- whether it shows an element goes by how many count
shows_by : (from : ℕ) (columns : List ℕ) (n t : ℕ) (es : List Element) (e : Element) → e.instant ≤ t → shows from (LastRows columns n) t es e ≡ nat_lt (tally (counts columns t e) es) n
shows_by from columns n t es e u = ap (λ b. b && nat_lt (count_later columns t es e) n) (le-leb _ _ u) ∙ ap (λ k. nat_lt k n) (sym (tally_is (counts columns t e) es))

shows_same : (from : ℕ) (columns : List ℕ) (n t : ℕ) (es fs : List Element) (e : Element) → tally (counts columns t e) es ≡ tally (counts columns t e) fs → shows from (LastRows columns n) t es e ≡ shows from (LastRows columns n) t fs e
shows_same from columns n t es fs e h = ap (λ k. nat_le e.instant t && nat_lt k n) (sym (tally_is (counts columns t e) es) ∙ h ∙ tally_is (counts columns t e) fs)

shows_none : (from : ℕ) (columns : List ℕ) (n t : ℕ) (es : List Element) (e : Element) → n ≤ tally (counts columns t e) es → shows from (LastRows columns n) t es e ≡ false
shows_none from columns n t es e h = and_false (nat_le e.instant t) (nat_lt (count_later columns t es e) n) (ap (λ k. nat_lt k n) (sym (tally_is (counts columns t e) es)) ∙ le-ltb _ _ h)

-- of elements in order it shows those that fewer than n alike ones follow
pub shows_each : (from : ℕ) (columns : List ℕ) (n t : ℕ) (xs : List Element) → IsRising xs → AreUpTo t xs → shown_of from (LastRows columns n) t xs ≡ last_each columns n xs
shows_each from columns n t [] r u = refl
shows_each from columns n t (x ∷ xs) r u =
    let p : Element → Bool = shows from (LastRows columns n) t (x ∷ xs) in
    let q : Element → Bool = shows from (LastRows columns n) t xs in
    let rest : filter p xs ≡ filter q xs = filter_each p q xs (Each_map (IsLater x) (λ y. p y ≡ q y) (λ y l. shows_same from columns n t (x ∷ xs) xs y
    (ap (λ b. cond b (suc (tally (counts columns t y) xs)) (tally (counts columns t y) xs)) (counts_none columns t y x (not_later x y l)))) xs r.0) in
    let own : tally (counts columns t x) (x ∷ xs) ≡ tally (counts columns t x) xs = ap (λ b. cond b (suc (tally (counts columns t x) xs)) (tally (counts columns t x) xs)) (counts_none columns t x x (not_itself x)) in
    let others : tally (counts columns t x) xs ≡ tally (alike columns x) xs = tally_each (counts columns t x) (alike columns x) xs (both xs r.0 u.1) in
    let head : p x ≡ nat_lt (tally (alike columns x) xs) n = shows_by from columns n t (x ∷ xs) x u.0 ∙ ap (λ k. nat_lt k n) (own ∙ others) in
    ap (λ b. cond b (x ∷ filter p xs) (filter p xs)) head ∙ ap (λ l. cond (nat_lt (tally (alike columns x) xs) n) (x ∷ l) l) (rest ∙ shows_each from columns n t xs r.1 u.1)
  where
    both : (ys : List Element) → Each (IsLater x) ys → AreUpTo t ys → Each (λ y. counts columns t x y ≡ alike columns x y) ys
    both [] l v = tt
    both (y ∷ ys) l v = (counts_alike columns t x y v.0 l.0, both ys l.1 v.1)

-- ---- whatever comes later, what was not shown is not needed
module _ (from : ℕ) (columns : List ℕ) (n t u : ℕ) (A later : List Element) (le : t ≤ u) (upto : AreUpTo t A) (after : ComeAfter A later) where
  abbrev W : Window
  W = LastRows columns n

  abbrev p : Element → Bool
  p = shows from W t A

  abbrev H : List Element
  H = filter p A

  abbrev s : Element → Bool
  s = shows from W u (A ++ later)

  abbrev r : Element → Bool
  r = shows from W u (H ++ later)

  at_later : (f : Element) → Each (λ e. IsLater e f) A → s f ≡ r f
  at_later f l =
      let none : Each (λ e. counts columns u f e ≡ false) A = Each_map (λ e. IsLater e f) (λ e. counts columns u f e ≡ false) (λ e i. counts_none columns u f e (not_later e f i)) A l in
      let a : tally (counts columns u f) A ≡ 0 = tally_none (counts columns u f) A none in
      let h : tally (counts columns u f) H ≡ 0 = tally_none (counts columns u f) H (Each_filter (λ e. counts columns u f e ≡ false) p A none) in
      shows_same from columns n u (A ++ later) (H ++ later) f
      (tally-append (counts columns u f) A later ∙ ap (λ k. k + tally (counts columns u f) later) (a ∙ sym h) ∙ sym (tally-append (counts columns u f) H later))

  now_then : (e : Element) → tally (counts columns u e) A ≡ tally (counts columns t e) A
  now_then e = tally_each (counts columns u e) (counts columns t e) A (Each_map (λ g. g.instant ≤ t) (λ g. counts columns u e g ≡ counts columns t e g) (λ g i. counts_later columns t u e g i le) A upto)

  -- what counts against a shown element is shown
  shown_too : (e g : Element) → e.instant ≤ t → g.instant ≤ t → p e ≡ true → counts columns u e g ≡ true → p g ≡ true
  shown_too e g ue ug pe c =
      let l = and_true (nat_le g.instant u) (is_later e g && alike columns e g) c in
      let k = and_true (is_later e g) (alike columns e g) l.1 in
      let fewer : tally (counts columns t g) A ≤ tally (counts columns t e) A = tally_le (counts columns t g) (counts columns t e) (λ y h.
      let a = and_true (nat_le y.instant t) (is_later g y && alike columns g y) h in
      let b = and_true (is_later g y) (alike columns g y) a.1 in
      counts_alike columns t e y (leb-true _ _ a.0) (later_through e g y k.0 b.0) ∙ through columns e g y k.1 ∙ b.1) A in
      let few : tally (counts columns t e) A < n = ltb-true _ _ (sym (shows_by from columns n t A e ue) ∙ pe) in
      shows_by from columns n t A g ug ∙ lt-ltb _ _ (omega (arith, fewer, few))

  at_shown : (e : Element) → e.instant ≤ t → p e ≡ true → s e ≡ r e
  at_shown e ue pe =
      let h : tally (counts columns u e) H ≡ tally (counts columns u e) A = tally_through p (counts columns u e) A (Each_map (λ g. g.instant ≤ t) (λ g. counts columns u e g ≡ true → p g ≡ true) (λ g i c. shown_too e g ue i pe c) A upto) in
      shows_same from columns n u (A ++ later) (H ++ later) e
      (tally-append (counts columns u e) A later ∙ ap (λ k. k + tally (counts columns u e) later) (sym h) ∙ sym (tally-append (counts columns u e) H later))

  at_hidden : (e : Element) → e.instant ≤ t → p e ≡ false → s e ≡ false
  at_hidden e ue pe =
      let many : n ≤ tally (counts columns t e) A = ltb-false _ _ (sym (shows_by from columns n t A e ue) ∙ pe) in
      shows_none from columns n u (A ++ later) e (omega (arith, many, now_then e, tally-append (counts columns u e) A later))

  pub stays_shown : window_rows from (LastRows columns n) u (A ++ later) ≡ window_rows from (LastRows columns n) u (shown_of from (LastRows columns n) t A ++ later)
  stays_shown =
      ap rows_in_order
      (filter-append s A later
      ∙ ap₂ (λ (x y : List Element). x ++ y)
      (filter_through p s r A (Each_map (λ e. e.instant ≤ t) (λ e. (p e ≡ true → s e ≡ r e) × (p e ≡ false → s e ≡ false)) (λ e i. (at_shown e i, at_hidden e i)) A upto))
      (filter_each s r later (Each_map (λ f. Each (λ e. IsLater e f) A) (λ f. s f ≡ r f) at_later later after))
      ∙ sym (filter-append r H later))
