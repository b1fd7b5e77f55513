-- Behind a mark a query and its opening have the same answers, whatever comes.
use Rattle.std.proofs.Common.{◌≡◌, ℕ, zero, suc, ◌+◌, ◌-◌, ◌≤◌, Bool, List, [], ◌∷◌, ◌++◌, filter, map, drop, length, flat_map, refl, sym, ap, ap₂, ◌∙◌, subst, arith, append_assoc}
use Rattle.std.specs.List.{range_with_len}
use Rattle.std.proofs.Math.Seq.{drop-append_seam}
use Rattle.std.proofs.lemmas.Grind.{flat_map-append}
use Rattle.values.specs.Row.{Row, row_cmp}
use Rattle.values.specs.Perm.{Perm, same}
use Rattle.values.specs.Tables.{SameTables}
use Rattle.values.specs.Arrivals.{Longer}
use Rattle.values.specs.Window.{AllFrom, Element, Window, window_rows}
use Rattle.values.specs.Enough.{Each, HasNeeded}
use Rattle.values.specs.Answers.{Resolved, answers_at, relation, relation_before, shown_at, streamed}
use Rattle.values.proofs.Closed.{shown-longer}
use Rattle.values.proofs.Order.{row_order}
use Rattle.values.proofs.Perms.{perm-in_order}
use Rattle.values.proofs.Worlds.{perm-relation, perm-streamed, range_split, same_over}
use Rattle.values.proofs.WindowLaw.{window_law}
use Rattle.reference.specs.Machine.{answers_from}

-- ANSWERS at an instant go by what the windows show there and at the instant before
module _ (q : Resolved) (from : ℕ) (is js : List (List Element)) where
  abbrev Shows : ℕ → Type 0
  Shows t = SameTables (shown_at from q.windows t is) (shown_at from q.windows t js)

  before_same : (t : ℕ) → ((u : ℕ) → u + 1 ≡ t → Shows u) → Perm (relation_before q from is t) (relation_before q from js t)
  before_same zero h = same []
  before_same (suc t) h = perm-relation q from is js t (λ le. h t (omega arith))

  at_same : (t : ℕ) → Shows t → ((u : ℕ) → u + 1 ≡ t → Shows u) → answers_at q from is t ≡ answers_at q from js t
  at_same t now last =
      ap (map (λ r. (t, r)))
      (perm-in_order row_cmp row_order (streamed q.operator (relation_before q from is t) (relation q from is t)) (streamed q.operator (relation_before q from js t) (relation q from js t))
      (perm-streamed q.operator (relation_before q from is t) (relation q from is t) (relation_before q from js t) (relation q from js t) (before_same t last) (perm-relation q from is js t (λ le. now))))

  -- from an instant on, where they show the same from the one before on
  over_same : (next n : ℕ) → ((t : ℕ) → next ≤ t + 1 → Shows t) → (a : ℕ) → next ≤ a → flat_map (answers_at q from is) (range_with_len a n) ≡ flat_map (answers_at q from js) (range_with_len a n)
  over_same next zero h a l = refl
  over_same next (suc n) h a l = ap₂ (λ x y. x ++ y) (at_same a (h a (omega (arith, l))) (λ u e. h u (omega (arith, e, l)))) (over_same next n h (a + 1) (omega (arith, l)))

-- THE OPENING of a query: of each source a part of the input that has what its window needs
abbrev pub HaveNeeded : ℕ → ℕ → List Window → List (List Element) → List (Element → Bool) → Type 0
HaveNeeded from next [] is kept = Unit {0}
HaveNeeded from next (w ∷ ws) [] kept = Unit {0}
HaveNeeded from next (w ∷ ws) (i ∷ is) [] = ⊥
HaveNeeded from next (w ∷ ws) (i ∷ is) (k ∷ kept) = HasNeeded from w next i k × HaveNeeded from next ws is kept

-- with what comes later
abbrev pub with_later : List (List Element) → List (List Element) → List (List Element)
with_later [] more = []
with_later (i ∷ is) [] = i ∷ with_later is []
with_later (i ∷ is) (e ∷ more) = (i ++ e) ∷ with_later is more

abbrev pub parts : List (Element → Bool) → List (List Element) → List (List Element)
parts kept [] = []
parts [] (i ∷ is) = i ∷ parts [] is
parts (k ∷ kept) (i ∷ is) = filter k i ∷ parts kept is

shows_same : (from next t : ℕ) (ws : List Window) (is : List (List Element)) (kept : List (Element → Bool)) → next ≤ t + 1 → HaveNeeded from next ws is kept → (more : List (List Element)) → length more ≡ length is
    → SameTables (shown_at from ws t (with_later is more)) (shown_at from ws t (with_later (parts kept is) more))
shows_same from next t [] is kept l h more e = tt
shows_same from next t (w ∷ ws) [] kept l h more e = tt
shows_same from next t (w ∷ ws) (i ∷ is) [] l h more e = absurd h
shows_same from next t (w ∷ ws) (i ∷ is) (k ∷ kept) l h [] e = absurd (omega (arith, e))
shows_same from next t (w ∷ ws) (i ∷ is) (k ∷ kept) l h (m ∷ more) e =
    (subst (λ rows. Perm (window_rows from w t (i ++ m)) rows) (sym (window_law from w next i k h.0 t m l)) (same (window_rows from w t (i ++ m))), shows_same from next t ws is kept l h.1 more (omega (arith, e)))

-- later elements leave what is closed
longer_later : (u : ℕ) (is more : List (List Element)) → Each (λ es. AllFrom u es) more → length more ≡ length is → Longer u is (with_later is more)
longer_later u [] more h e = tt
longer_later u (i ∷ is) [] h e = absurd (omega (arith, e))
longer_later u (i ∷ is) (m ∷ more) h e = ((m, (refl, h.0)), longer_later u is more h.1 (omega (arith, e)))

-- THE SAME ANSWERS are to be taken: T were taken, W wait, and both together are the answers below `next`
module _ (q : Resolved) (from start next : ℕ) (inputs : List (List Element)) (kept : List (Element → Bool)) (earlier T W : List (ℕ × Row)) (began : start ≤ next)
    (given : T ++ W ≡ earlier ++ answers_from q from start next inputs) (needed : HaveNeeded from next q.windows inputs kept) where
  pub opening_answers : (more : List (List Element)) → length more ≡ length inputs → Each (λ es. AllFrom next es) more → (u : ℕ) → next ≤ u
      → drop (length T) (earlier ++ answers_from q from start u (with_later inputs more)) ≡ W ++ answers_from q from next u (with_later (parts kept inputs) more)
  opening_answers more many above u l =
      let all : List (List Element) = with_later inputs more in
      let e : u - start ≡ (next - start) + (u - next) = omega (arith, began, l) in
      let b : start + (next - start) ≡ next = omega (arith, began) in
      let split : answers_from q from start u all ≡ answers_from q from start next all ++ answers_from q from next u all =
      ap (λ n. flat_map (answers_at q from all) (range_with_len start n)) e
      ∙ ap (flat_map (answers_at q from all)) (range_split q from all all start (next - start) (u - next) ∙ ap (λ a. range_with_len start (next - start) ++ range_with_len a (u - next)) b)
      ∙ flat_map-append (answers_at q from all) (range_with_len start (next - start)) (range_with_len next (u - next)) in
      let old : answers_from q from start next all ≡ answers_from q from start next inputs =
      sym (same_over q from inputs all start (next - start) (λ t lt le. shown-longer from next t (omega (arith, lt, began)) q.windows inputs all (longer_later next inputs more above many))) in
      let new : answers_from q from next u all ≡ answers_from q from next u (with_later (parts kept inputs) more) =
      over_same q from all (with_later (parts kept inputs) more) next (u - next) (λ t h. shows_same from next t q.windows inputs kept h needed more many) next (omega arith) in
      let whole : earlier ++ answers_from q from start u all ≡ T ++ (W ++ answers_from q from next u all) =
      ap (λ x. earlier ++ x) (split ∙ ap (λ x. x ++ answers_from q from next u all) old)
      ∙ sym (append_assoc earlier (answers_from q from start next inputs) (answers_from q from next u all))
      ∙ ap (λ x. x ++ answers_from q from next u all) (sym given)
      ∙ append_assoc T W (answers_from q from next u all) in
      ap (drop (length T)) whole ∙ drop-append_seam T (W ++ answers_from q from next u all) ∙ ap (λ x. W ++ x) new
