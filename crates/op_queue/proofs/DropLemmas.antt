-- A queue while rows and ticks leave its front.
use Rattle.std.proofs.Common.{◌≡◌, ℕ, ◌+◌, ◌-◌, ◌<◌, ◌≤◌, Bool, None, List, [], ◌∷◌, ◌++◌, length, drop, get_or, refl, ap, sym, ◌∙◌, arith, length-append}
use Rattle.std.specs.List.{flat_map, All}
use Rattle.std.proofs.lemmas.List.{drop-drop, drop_at}
use Rattle.std.proofs.lemmas.List.Elements.{All-head, All-tail}
use Rattle.values.specs.Row.{Row}
use Rattle.op_queue.specs.Entries.{Entry}
use Rattle.op_queue.specs.Pieces.{piece_begins, piece_size, piece_entries, queue_begins, queue_entries, end_of, IsPiece, IsTaken, AreApart, IsQueue}
use Rattle.op_queue.specs.declared.queue.Piece.{Piece}
use Rattle.op_queue.proofs.ApartLemmas.{AreApart-none}
use Rattle.op_queue.proofs.BeginLemmas.{length-piece_begins}
use Rattle.op_queue.proofs.PieceLemmas.{length-piece_entries, piece_size-some, IsForward-drop}

-- `left` of the `count` entries of `old`, and of what they begin, are still to leave, and there are at most so many pieces
pub record IsDropping (old : List (Entry Row)) (begun : List Bool) (most count left taken len : ℕ) (ps : List Piece) : Type 0 where
  pub shaped : All IsPiece ps
  pub started : IsTaken taken ps
  pub apart : AreApart None ps
  pub counted : taken + len + left ≡ length (flat_map piece_entries ps) + count
  pub within : left + taken ≤ length (flat_map piece_entries ps)
  pub fewer : length ps ≤ most
  pub rest : drop left (queue_entries taken ps) ≡ drop count old
  pub rest_begins : drop left (queue_begins taken ps) ≡ drop count begun

pub IsDropping-start : {taken len : ℕ} (ps : List Piece) (count : ℕ) → IsQueue taken len ps → count ≤ len → IsDropping (queue_entries taken ps) (queue_begins taken ps) (length ps) count count taken len ps
IsDropping-start ps count h few = record {
  shaped = h.shaped;
  started = h.started;
  apart = h.apart;
  counted = omega (arith, h.counted);
  within = omega (arith, h.counted);
  fewer = omega arith;
  rest = refl;
  rest_begins = refl;
}

-- a part of the front piece leaves
pub IsDropping-part : {old : List (Entry Row)} {begun : List Bool} {most count left taken len : ℕ} (ps : List Piece) (p : Piece) → 0 < length ps → p ≡ get_or ps 0 p → IsDropping old begun most count left taken len ps → taken + left < piece_size p → IsDropping old begun most count 0 (taken + left) len ps
IsDropping-part [] p some is h few = absurd (omega arith)
IsDropping-part {left = left} {taken = taken} (q ∷ ps) p some is h few = record {
  shaped = h.shaped;
  started = let e = ap piece_size is in omega arith;
  apart = h.apart;
  counted = omega (arith, h.counted);
  within = omega (arith, h.within);
  fewer = h.fewer;
  rest = sym (drop-drop left taken (flat_map piece_entries (q ∷ ps))) ∙ h.rest;
  rest_begins = sym (drop-drop left taken (flat_map piece_begins (q ∷ ps))) ∙ h.rest_begins;
}

IsTaken-none : (ps : List Piece) → All IsPiece ps → IsTaken 0 ps
IsTaken-none [] h = refl
IsTaken-none (p ∷ ps) h = piece_size-some p (All-head IsPiece p ps h)

drop-piece : {X : Type 0} (xs ys : List X) (size taken left : ℕ) → length xs ≡ size → size + (left - (size - taken)) ≡ taken + left → drop (left - (size - taken)) ys ≡ drop left (drop taken (xs ++ ys))
drop-piece xs ys size taken left long is =
    ap (drop (left - (size - taken))) (sym (drop_at xs ys size long))
    ∙ drop-drop (left - (size - taken)) size (xs ++ ys)
    ∙ ap (λ n. drop n (xs ++ ys)) is
    ∙ sym (drop-drop left taken (xs ++ ys))

-- all that is left of the front piece leaves
pub IsDropping-piece : {old : List (Entry Row)} {begun : List Bool} {most count left taken len : ℕ} (ps qs : List Piece) (p : Piece) → ps ≡ p ∷ qs → IsDropping old begun most count left taken len ps → piece_size p ≤ taken + left → IsDropping old begun most count (left - (piece_size p - taken)) 0 len qs
IsDropping-piece {left = left} {taken = taken} ps qs p is h much =
    let g = rw is at h in
    let a = length-append (piece_entries p) (flat_map piece_entries qs) in
    let b = length-piece_entries p in
    let size : piece_size p + (left - (piece_size p - taken)) ≡ taken + left = omega (arith, g.started) in
    record {
      shaped = All-tail IsPiece p qs g.shaped;
      started = IsTaken-none qs (All-tail IsPiece p qs g.shaped);
      apart = AreApart-none (end_of p) qs g.apart.1;
      counted = omega (arith, g.counted, g.started);
      within = omega (arith, g.within, g.started);
      fewer = omega (arith, g.fewer);
      rest = drop-piece (piece_entries p) (flat_map piece_entries qs) (piece_size p) taken left b size ∙ g.rest;
      rest_begins = drop-piece (piece_begins p) (flat_map piece_begins qs) (piece_size p) taken left (length-piece_begins p ∙ b) size ∙ g.rest_begins;
    }

pub IsDropping-end : {taken0 len0 : ℕ} {most count left taken len : ℕ} (ps0 ps : List Piece) → IsQueue taken0 len0 ps0 → IsDropping (queue_entries taken0 ps0) (queue_begins taken0 ps0) most count left taken len ps → left ≡ 0 → IsQueue taken (len - count) ps
IsDropping-end {taken0 = taken0} {count = count} {taken = taken} ps0 ps before h none = record {
  shaped = h.shaped;
  counted = omega (arith, h.counted, h.within);
  started = h.started;
  apart = h.apart;
  forward =
      let e : drop taken (flat_map piece_entries ps) ≡ drop count (queue_entries taken0 ps0) = ap (λ n. drop n (queue_entries taken ps)) (sym none) ∙ h.rest in
      rw e (IsForward-drop count (queue_entries taken0 ps0) before.forward);
}

pub IsDropping-pop : {old : List (Entry Row)} {begun : List Bool} {most count left taken len : ℕ} (ps qs : List Piece) (p : Piece) (size : ℕ) → 0 < length ps → p ≡ get_or ps 0 p → size ≡ piece_size p → qs ≡ drop 1 ps → IsDropping old begun most count left taken len ps → size - taken ≤ left → IsDropping old begun most count (left - (size - taken)) 0 len qs
IsDropping-pop [] qs p size some first is rest h much = absurd (omega arith)
IsDropping-pop (q ∷ ps) qs p size some first is rest h much =
    let e = ap piece_size first in
    rw (is, e) (IsDropping-piece (q ∷ ps) qs q (ap (λ t. q ∷ t) (sym rest)) h (omega arith))

pub dropped_all : {old : List (Entry Row)} {begun : List Bool} {most count left taken len : ℕ} (ps : List Piece) → IsDropping old begun most count left taken len ps → length ps ≡ 0 → left ≡ 0
dropped_all [] h none = omega (arith, h.within)
dropped_all (p ∷ ps) h none = absurd (omega arith)
