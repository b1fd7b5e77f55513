-- How a queue is kept: pieces, of the first of which some rows or ticks have left.
use Rattle.std.specs.Prelude.{◌≡◌, ℕ, Bool, Option, None, Some, ◌+◌, ◌-◌, ◌^◌, ◌<◌, ◌≤◌, List, []}
use Rattle.std.specs.Prelude.{◌∷◌, ◌++◌, map, length, drop}
use Rattle.std.specs.List.{flat_map, last_or, All}
use Rattle.values.specs.Row.{Row}
use Rattle.column.specs.Rows.{IsBatch}
use Rattle.op_queue.specs.Entries.{Entry, RowAt, TickAt}
use Rattle.op_queue.specs.Forward.{IsForward}
use Rattle.op_queue.specs.Items.{ticks}
use Rattle.op_queue.specs.Queues.{Waiting, first_begins, each_begins, run_pieces}
use Rattle.op_queue.specs.declared.item.Item.{Item}
use Rattle.op_queue.specs.declared.item.Item.TheVariants as item
use Rattle.op_queue.specs.declared.queue.Piece.{Piece}
use Rattle.op_queue.specs.declared.queue.Piece.TheVariants.{Rows, Ticks}

abbrev pub piece_size : Piece → ℕ
piece_size (Rows t b) = length b
piece_size (Ticks first last) = last + 1 - first

abbrev pub piece_entries : Piece → List (Entry Row)
piece_entries (Rows t b) = map (RowAt t) b
piece_entries (Ticks first last) = ticks first last

-- a batch comes out at once, a run tick by tick
abbrev pub piece_begins : Piece → List Bool
piece_begins (Rows t b) = first_begins (piece_entries (Rows t b))
piece_begins (Ticks first last) = each_begins (piece_entries (Ticks first last))

abbrev pub queue_entries : ℕ → List Piece → List (Entry Row)
queue_entries taken ps = drop taken (flat_map piece_entries ps)

abbrev pub queue_begins : ℕ → List Piece → List Bool
queue_begins taken ps = drop taken (flat_map piece_begins ps)

abbrev pub waiting_in : ℕ → List Piece → Waiting
waiting_in taken ps = record {
  entries = queue_entries taken ps;
  begins = queue_begins taken ps;
  pieces = length ps;
}

-- a piece has something, and no more than there are instants
abbrev pub IsPiece : Piece → Type 0
IsPiece (Rows t b) = IsBatch b
IsPiece (Ticks first last) = (first ≤ last) × (last < 2 ^ 64)

-- fewer have left the front piece than it has
abbrev pub IsTaken : ℕ → List Piece → Type 0
IsTaken taken [] = taken ≡ 0
IsTaken taken (p ∷ ps) = taken < piece_size p

-- the last entry of a piece
abbrev pub end_of : Piece → Option (Entry Row)
end_of (Rows t b) = last_or None (piece_entries (Rows t b))
end_of (Ticks first last) = Some (TickAt last)

-- the last entry of some pieces, or else the one before them
abbrev pub end_of_pieces : Option (Entry Row) → List Piece → Option (Entry Row)
end_of_pieces before [] = before
end_of_pieces before (p ∷ ps) = end_of_pieces (end_of p) ps

-- the piece is no run that goes on behind the entry before it
abbrev pub IsApart : Option (Entry Row) → Piece → Type 0
IsApart before (Rows t b) = Unit {0}
IsApart before (Ticks first last) = run_pieces before first ≡ 1

-- no two runs that could be one
abbrev pub AreApart : Option (Entry Row) → List Piece → Type 0
AreApart before [] = Unit {0}
AreApart before (p ∷ ps) = IsApart before p × AreApart (end_of p) ps

pub record IsQueue (taken waiting : ℕ) (ps : List Piece) : Type 0 where
  pub shaped : All IsPiece ps
  pub counted : taken + waiting ≡ length (flat_map piece_entries ps)
  pub started : IsTaken taken ps
  pub apart : AreApart None ps
  pub forward : IsForward (queue_entries taken ps)

-- the last piece is a run that ends just before `first`, and then ends at `last`
abbrev pub IsLongerRun : ℕ → ℕ → List Piece → List Piece → Type 0
IsLongerRun first last ps qs =
    (init : List Piece) × (start : ℕ) × (end : ℕ) × (ps ≡ init ++ Ticks start end ∷ [])
    × (qs ≡ init ++ Ticks start last ∷ []) × (end + 1 ≡ first)

-- the item is the batch of the first piece, of at most `count` rows, and the other pieces stay
abbrev pub IsTakenWhole : ℕ → List Piece → List Piece → Item → Type 0
IsTakenWhole count ps qs (item.Rows t b) = (ps ≡ Rows t b ∷ qs) × (length b ≤ count)
IsTakenWhole count ps qs (item.Tick t) = ⊥

-- the first piece is this batch, of `count` rows, and the other pieces stay
pub record IsTakenSized (count : ℕ) (ps qs : List Piece) (t : ℕ) (b : List (Bool × Row))
    : Type 0 where
  pub first : ps ≡ Rows t b ∷ qs
  pub sized : length b ≡ count
