-- Runs of ticks that cannot be one, and the last entries of pieces.
use Rattle.std.proofs.Common.{◌≡◌, ℕ, suc, ◌+◌, ◌-◌, ◌<◌, Bool, cond, Option, None, Some, List, [], ◌∷◌, ◌++◌, length, map, drop, get_or, refl, ap, sym, ◌∙◌, arith}
use Prim.Native.Nat.{zero}
use Rattle.std.specs.List.{flat_map, last_or, range_with_len, All}
use Rattle.std.proofs.lemmas.Bool.{eq-eqb, ne_eqb}
use Rattle.std.proofs.lemmas.List.{length-map}
use Rattle.std.proofs.lemmas.List.Elements.{All-head, All-tail}
use Rattle.values.specs.Row.{Row}
use Rattle.op_queue.specs.Entries.{Entry, RowAt, TickAt}
use Rattle.op_queue.specs.Queues.{run_pieces}
use Rattle.op_queue.specs.Pieces.{piece_entries, end_of, end_of_pieces, IsPiece, IsApart, AreApart}
use Rattle.op_queue.specs.declared.queue.Piece.{Piece}
use Rattle.op_queue.specs.declared.queue.Piece.TheVariants.{Rows, Ticks}

last_or-append : {X : Type 0} (o : Option X) (xs ys : List X) → last_or o (xs ++ ys) ≡ last_or (last_or o xs) ys
last_or-append o [] ys = refl
last_or-append o (x ∷ xs) ys = last_or-append (Some x) xs ys

pub last_or-some : {X : Type 0} (o p : Option X) (xs : List X) → 0 < length xs → last_or o xs ≡ last_or p xs
last_or-some o p [] some = absurd (omega arith)
last_or-some o p (x ∷ xs) some = refl

pub last_or-drop : {X : Type 0} (o p : Option X) (n : ℕ) (xs : List X) → n < length xs → last_or o (drop n xs) ≡ last_or p xs
last_or-drop o p n [] lt = absurd (omega arith)
last_or-drop o p zero (x ∷ xs) lt = refl
last_or-drop o p (suc n) (x ∷ xs) lt = last_or-drop o (Some x) n xs (omega arith)

last_or-ticks : (o : Option (Entry Row)) (t n : ℕ) → last_or o (map TickAt (range_with_len t (suc n))) ≡ Some (TickAt (t + n))
last_or-ticks o t zero = let e : t ≡ t + 0 = omega arith in ap (λ u. Some (TickAt u)) e
last_or-ticks o t (suc n) =
    let e : t + 1 + n ≡ t + suc n = omega arith in
    last_or-ticks (Some (TickAt t)) (t + 1) n ∙ ap (λ u. Some (TickAt u)) e

piece_end : (o : Option (Entry Row)) (p : Piece) → IsPiece p → last_or o (piece_entries p) ≡ end_of p
piece_end o (Rows t b) h =
    let f : _ → Entry Row = RowAt t in
    last_or-some o None (map f b) (omega (arith, length-map b f, h.some))
piece_end o (Ticks first last) h =
    let f : ℕ → Entry Row = TickAt in
    let n : last + 1 - first ≡ suc (last - first) = omega (arith, h.0) in
    let e : first + (last - first) ≡ last = omega (arith, h.0) in
    ap (λ m. last_or o (map f (range_with_len first m))) n ∙ last_or-ticks o first (last - first) ∙ ap (λ u. Some (TickAt u)) e

pub pieces_end : (o : Option (Entry Row)) (ps : List Piece) → All IsPiece ps → last_or o (flat_map piece_entries ps) ≡ end_of_pieces o ps
pieces_end o [] h = refl
pieces_end o (p ∷ ps) h =
    last_or-append o (piece_entries p) (flat_map piece_entries ps)
    ∙ ap (λ q. last_or q (flat_map piece_entries ps)) (piece_end o p (All-head IsPiece p ps h))
    ∙ pieces_end (end_of p) ps (All-tail IsPiece p ps h)

pub end_of_pieces-push : (o : Option (Entry Row)) (ps : List Piece) (p : Piece) → end_of_pieces o (ps ++ p ∷ []) ≡ end_of p
end_of_pieces-push o [] p = refl
end_of_pieces-push o (q ∷ ps) p = end_of_pieces-push (end_of q) ps p

pub end_of_pieces-at : (o : Option (Entry Row)) (ps : List Piece) (n : ℕ) (p : Piece) → n + 1 ≡ length ps → p ≡ get_or ps n p → end_of_pieces o ps ≡ end_of p
end_of_pieces-at o [] n p len at = absurd (omega arith)
end_of_pieces-at o (q ∷ []) zero p len at = ap end_of (sym at)
end_of_pieces-at o (q ∷ []) (suc n) p len at = absurd (omega arith)
end_of_pieces-at o (q ∷ r ∷ ps) zero p len at = absurd (omega arith)
end_of_pieces-at o (q ∷ r ∷ ps) (suc n) p len at = end_of_pieces-at (end_of q) (r ∷ ps) n p (omega arith) at

-- ---- a run goes on behind the tick of the instant before alone
pub run_pieces-on : (t first : ℕ) → t + 1 ≡ first → run_pieces {X = Row} (Some (TickAt t)) first ≡ 0
run_pieces-on t first next = ap (λ b. cond b 0 1) (eq-eqb (t + 1) first next)

pub run_pieces-apart : (t first : ℕ) → (t + 1 ≡ first → ⊥) → run_pieces {X = Row} (Some (TickAt t)) first ≡ 1
run_pieces-apart t first other = ap (λ b. cond b 0 1) (ne_eqb (t + 1) first other)

pub run_pieces-rows : (t first : ℕ) (b : List (Bool × Row)) (o : Option (Entry Row)) → run_pieces o first ≡ 1 → run_pieces (last_or o (map (RowAt t) b)) first ≡ 1
run_pieces-rows t first [] o h = h
run_pieces-rows t first (s ∷ b) o h = run_pieces-rows t first b (Some (RowAt t s)) refl

-- ---- pieces that come, grow and leave
pub AreApart-push : (o : Option (Entry Row)) (ps : List Piece) (p : Piece) → AreApart o ps → IsApart (end_of_pieces o ps) p → AreApart o (ps ++ p ∷ [])
AreApart-push o [] p h k = (k, tt)
AreApart-push o (q ∷ ps) p h k = (h.0, AreApart-push (end_of q) ps p h.1 k)

pub AreApart-longer : (o : Option (Entry Row)) (ps : List Piece) (first end last : ℕ) → AreApart o (ps ++ Ticks first end ∷ []) → AreApart o (ps ++ Ticks first last ∷ [])
AreApart-longer o [] first end last h = (h.0, tt)
AreApart-longer o (q ∷ ps) first end last h = (h.0, AreApart-longer (end_of q) ps first end last h.1)

pub AreApart-none : (o : Option (Entry Row)) (ps : List Piece) → AreApart o ps → AreApart None ps
AreApart-none o [] h = tt
AreApart-none o (Rows t b ∷ ps) h = (tt, h.1)
AreApart-none o (Ticks first last ∷ ps) h = (refl, h.1)
