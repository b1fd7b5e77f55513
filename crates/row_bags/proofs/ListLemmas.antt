-- Rows in a list: one row more behind it, and a walk from its front.
use Rattle.std.proofs.Common.{append-nil, ◌≡◌, ℕ, ℤ, suc, ◌+◌, ◌<◌, ◌≤◌, Bool, true, false, cond, Option, List, [], ◌∷◌, ◌++◌, length, map, take, drop, get_or, refl, ap, ap₂, sym, subst, ◌∙◌, arith, append_assoc, length-append}
use Rattle.std.proofs.Math.Seq.{drop-cons, drop-length, take-append_seam}
use Rattle.std.proofs.lemmas.List.{drop-append-le, take-append-le, drop-drop, length-drop, length-take-le, take-append-drop}
use Rattle.std.specs.List.{flat_map}
use Rattle.values.specs.declared.TheConstants.{MAX_COLUMNS}
use Rattle.values.specs.Row.{Row, row_cmp}
use Rattle.values.specs.Bag.{is_above}
use Rattle.row_bags.specs.Lists.{rows_by, AreCut, is_first, staying, up_to, past, merged}

-- ONE ROW MORE

pub rows_by-more : (ws : List ℕ) (vs r : List (Option ℤ)) → AreCut ws vs → rows_by (ws ++ length r ∷ []) (vs ++ r) ≡ rows_by ws vs ++ r ∷ []
rows_by-more [] vs r h =
    ap (λ (v : List (Option ℤ)). take (length r) (v ++ r) ∷ []) h
    ∙ ap (λ (v : List (Option ℤ)). v ∷ []) (ap (λ (v : List (Option ℤ)). take (length r) v) (sym (append-nil r)) ∙ take-append_seam r [])
rows_by-more (w ∷ ws) vs r h =
    ap₂ (λ (a b : List (Option ℤ)). a ∷ rows_by (ws ++ length r ∷ []) b) (take-append-le w vs r h.1) (drop-append-le w vs r h.1)
    ∙ ap (λ (l : List Row). take w vs ∷ l) (rows_by-more ws (drop w vs) r h.2)

pub AreCut-more : (ws : List ℕ) (vs r : List (Option ℤ)) → AreCut ws vs → length r ≤ MAX_COLUMNS → AreCut (ws ++ length r ∷ []) (vs ++ r)
AreCut-more [] vs r h k = (k, omega (arith, length-append vs r), ap (λ (v : List (Option ℤ)). drop (length r) (v ++ r)) h ∙ drop-length r)
AreCut-more (w ∷ ws) vs r h k = (h.0, omega (arith, h.1, length-append vs r), subst (AreCut (ws ++ length r ∷ [])) (sym (drop-append-le w vs r h.1)) (AreCut-more ws (drop w vs) r h.2 k))

-- THE ROWS AHEAD

pub up_to-front : (x y : Row) (rest : List Row) → is_above row_cmp y x ≡ false → up_to x (y ∷ rest) ≡ y ∷ up_to x rest
up_to-front x y rest h = rw h

pub up_to-none : (x y : Row) (rest : List Row) → is_above row_cmp y x ≡ true → up_to x (y ∷ rest) ≡ []
up_to-none x y rest h = rw h

pub past-front : (x y : Row) (rest : List Row) → is_above row_cmp y x ≡ false → past x (y ∷ rest) ≡ past x rest
past-front x y rest h = rw h

pub past-none : (x y : Row) (rest : List Row) → is_above row_cmp y x ≡ true → past x (y ∷ rest) ≡ y ∷ rest
past-none x y rest h = rw h

-- A STEP OF THE WALK

pub record Ahead (i start w : ℕ) (ws : List ℕ) (vs : List (Option ℤ)) : Type 0 where
  pub fits : w ≤ MAX_COLUMNS
  pub within : start + w ≤ length vs
  pub cut : AreCut (drop (i + 1) ws) (drop (start + w) vs)
  pub rows : rows_by (drop i ws) (drop start vs) ≡ take w (drop start vs) ∷ rows_by (drop (i + 1) ws) (drop (start + w) vs)

pub ahead : (i start w : ℕ) (ws : List ℕ) (vs : List (Option ℤ)) → i < length ws → w ≡ get_or ws i 0 → start ≤ length vs → AreCut (drop i ws) (drop start vs) → Ahead i start w ws vs
ahead i start w ws vs h e k c =
    let n : suc i ≡ i + 1 = omega arith in
    let first : drop i ws ≡ w ∷ drop (i + 1) ws = drop-cons ws i 0 h ∙ ap₂ (λ (a b : ℕ). a ∷ drop b ws) (sym e) n in
    let d : AreCut (w ∷ drop (i + 1) ws) (drop start vs) = subst (λ (us : List ℕ). AreCut us (drop start vs)) first c in
    record {
      fits = d.0;
      within = omega (arith, k, d.1, length-drop start vs);
      cut = subst (AreCut (drop (i + 1) ws)) (drop-drop w start vs) d.2;
      rows = ap (λ (us : List ℕ). rows_by us (drop start vs)) first ∙ ap (λ (us : List (Option ℤ)). take w (drop start vs) ∷ rows_by (drop (i + 1) ws) us) (drop-drop w start vs);
    }

-- the row at the front has left
pub walk-leaves : (done front rest left entered all : List Row) (row : Row) (gone : ℕ) → front ≡ row ∷ rest → is_first row (drop gone left) ≡ true
    → done ++ merged (staying front (drop gone left)) entered ≡ all → done ++ merged (staying rest (drop (gone + 1) left)) entered ≡ all
walk-leaves done front rest left entered all row gone e t h =
    ap (λ (l : List Row). done ++ merged (staying rest l) entered) (sym (drop-drop 1 gone left))
    ∙ ap (λ (b : Bool). done ++ merged (cond b (staying rest (drop 1 (drop gone left))) (row ∷ staying rest (drop gone left))) entered) (sym t)
    ∙ ap (λ (l : List Row). done ++ merged (staying l (drop gone left)) entered) (sym e)
    ∙ h

-- THE SAME ROWS

-- the rows say how many values each has, and the values
pub widths_in : (ws : List ℕ) (vs : List (Option ℤ)) → AreCut ws vs → map (λ (r : Row). length r) (rows_by ws vs) ≡ ws
widths_in [] vs h = refl
widths_in (w ∷ ws) vs h = ap₂ (λ (n : ℕ) (ns : List ℕ). n ∷ ns) (length-take-le w vs h.1) (widths_in ws (drop w vs) h.2)

pub values_in : (ws : List ℕ) (vs : List (Option ℤ)) → AreCut ws vs → flat_map (λ (r : Row). r) (rows_by ws vs) ≡ vs
values_in [] vs h = sym h
values_in (w ∷ ws) vs h = ap (λ (us : List (Option ℤ)). take w vs ++ us) (values_in ws (drop w vs) h.2) ∙ take-append-drop w vs

pub same_widths : (ws us : List ℕ) (vs xs : List (Option ℤ)) → AreCut ws vs → AreCut us xs → rows_by ws vs ≡ rows_by us xs → ws ≡ us
same_widths ws us vs xs h k e = sym (widths_in ws vs h) ∙ ap (λ (rows : List Row). map (λ (r : Row). length r) rows) e ∙ widths_in us xs k

pub same_values : (ws us : List ℕ) (vs xs : List (Option ℤ)) → AreCut ws vs → AreCut us xs → rows_by ws vs ≡ rows_by us xs → vs ≡ xs
same_values ws us vs xs h k e = sym (values_in ws vs h) ∙ ap (λ (rows : List Row). flat_map (λ (r : Row). r) rows) e ∙ values_in us xs k

-- a row more, where the rest is still to come
pub row-behind : (old new : List Row) (x : Row) (rest : List Row) → new ≡ old ++ x ∷ [] → new ++ rest ≡ old ++ x ∷ rest
row-behind old new x rest e = ap (λ (l : List Row). l ++ rest) e ∙ append_assoc old (x ∷ []) rest
