-- A queue as its callers see it.
use Rattle.std.specs.Prelude.{◌≡◌, ℕ, ◌+◌, ◌<◌, ◌≤◌, ◌==◌, Bool, true, false, cond, Option, None}
use Rattle.std.specs.Prelude.{Some, List, [], ◌∷◌, ◌++◌, map, take, drop, min, get_or, length}
use Rattle.std.specs.List.{flat_map, last_or}
use Rattle.values.specs.Row.{Row}
use Rattle.column.specs.Bits.{at_places, chosen}
use Rattle.op_queue.specs.Entries.{Entry, RowAt, TickAt}
use Rattle.op_queue.specs.Items.{IsFrontPart, entries_of}
use Rattle.op_queue.specs.declared.item.Item.{Item}
use Rattle.op_queue.specs.declared.item.Item.TheVariants as item

-- what waits, which entries begin an item that comes
-- out at once, and in how many pieces all is kept
pub record Waiting : Type 0 where
  pub entries : List (Entry Row)
  pub begins : List Bool
  pub pieces : ℕ

-- the first of these begins an item
abbrev pub first_begins : {X : Type 0} → List X → List Bool
first_begins [] = []
first_begins (x ∷ xs) = true ∷ map (λ y. false) xs

-- each of these is an item
abbrev pub each_begins : {X : Type 0} → List X → List Bool
each_begins xs = map (λ x. true) xs

-- how many come before the next that begins an item
abbrev pub before_next : List Bool → ℕ
before_next [] = 0
before_next (true ∷ bs) = 0
before_next (false ∷ bs) = 1 + before_next bs

-- how many of the first entries come out at once: the rest of a batch, or a tick
abbrev pub at_once : List Bool → ℕ
at_once [] = 0
at_once (b ∷ bs) = 1 + before_next bs

-- the last of some entries, if there is any
abbrev pub last_entry : {X : Type 0} → List (Entry X) → Option (Entry X)
last_entry es = last_or None es

-- how many pieces more a run of ticks from `first` on takes behind
-- the last entry: none where that is the tick of the instant before
abbrev pub run_pieces : {X : Type 0} → Option (Entry X) → ℕ → ℕ
run_pieces None first = 1
run_pieces (Some (RowAt t s)) first = 1
run_pieces (Some (TickAt t)) first = cond (t + 1 == first) 0 1

-- the same of an item: a batch takes one
abbrev pub item_pieces : Option (Entry Row) → Item → ℕ
item_pieces last (item.Rows t b) = 1
item_pieces last (item.Tick t) = run_pieces last t

-- how many pieces more an entry takes behind another: a row
-- one where it begins a batch, and the first of all one
abbrev pub entry_pieces : {X : Type 0} → Entry X → Bool → Option (Entry X) → ℕ
entry_pieces (TickAt t) b last = run_pieces last t
entry_pieces (RowAt t s) b None = 1
entry_pieces (RowAt t s) b (Some e) = cond b 1 0

-- how many pieces more entries take behind another
abbrev pub pieces_behind : {X : Type 0} → Option (Entry X) → List (Entry X) → List Bool → ℕ
pieces_behind last [] bs = 0
pieces_behind last (e ∷ es) [] = 0
pieces_behind last (e ∷ es) (b ∷ bs) = entry_pieces e b last + pieces_behind (Some e) es bs

-- in how many pieces entries are kept: one for each batch, and
-- one for each run of ticks of instants that follow one another
abbrev pub pieces_of : {X : Type 0} → List (Entry X) → List Bool → ℕ
pieces_of es bs = pieces_behind None es bs

-- the item came out at once of the front of what waited, and the rest waits
pub record HasLeft (count : ℕ) (old new : Waiting) (i : Item) : Type 0 where
  pub part : IsFrontPart count old.entries i
  pub value : entries_of i ≡ take (min count (at_once old.begins)) old.entries
  pub entries : new.entries ≡ drop (length (entries_of i)) old.entries
  pub begins : new.begins ≡ drop (length (entries_of i)) old.begins
  pub pieces : new.pieces ≤ old.pieces
  pub counted : new.pieces ≡ pieces_of (drop (length (entries_of i)) old.entries)
      (drop (length (entries_of i)) old.begins)

-- the first n have left
pub record HasDropped (n : ℕ) (old new : Waiting) : Type 0 where
  pub entries : new.entries ≡ drop n old.entries
  pub begins : new.begins ≡ drop n old.begins
  pub pieces : new.pieces ≤ old.pieces
  pub counted : new.pieces ≡ pieces_of (drop n old.entries) (drop n old.begins)

-- a batch stands first and comes out at once, of at most `count` rows
pub record IsFrontBatch (count : ℕ) (w : Waiting) (t : ℕ) (b : List (Bool × Row)) : Type 0 where
  pub part : IsFrontPart count w.entries (item.Rows t b)
  pub value : map (RowAt t) b ≡ take (min count (at_once w.begins)) w.entries

-- of the first entries, one for each truth, those that the truths choose
abbrev pub chosen_first : List Bool → Waiting → List (Entry Row)
chosen_first mask w = chosen mask (take (length mask) w.entries)

-- a batch begins at this place, or nothing is there
abbrev pub IsCut : ℕ → Waiting → Type 0
IsCut n w = (d : Entry Row) → n < length w.entries → (t : ℕ) × (s : Bool × Row)
    × (get_or w.entries n d ≡ RowAt t s) × (get_or w.begins n false ≡ true)

-- the first of what waits, up to such a place
pub record IsFirst (n : ℕ) (old new : Waiting) : Type 0 where
  pub entries : new.entries ≡ take n old.entries
  pub begins : new.begins ≡ take n old.begins
  pub pieces : new.pieces ≡ pieces_of (take n old.entries) (take n old.begins)

-- items that stand for these entries were pushed, and each comes out at once
pub record HasGained (es : List (Entry Row)) (old new : Waiting) : Type 0 where
  pub items : List Item
  pub stand : flat_map entries_of items ≡ es
  pub entries : new.entries ≡ old.entries ++ es
  pub begins : new.begins ≡ old.begins ++ flat_map (λ i. first_begins (entries_of i)) items

-- signed rows with only the columns at these places
abbrev pub in_columns : List ℕ → List (Bool × Row) → List (Bool × Row)
in_columns places b = map (λ s. (s.0, at_places None places s.1)) b

-- the batch that stands first went to the back of the other queue, with only these columns
pub record HaveMoved (count : ℕ) (places : List ℕ) (old to new to2 : Waiting) : Type 0 where
  pub instant : ℕ
  pub rows : List (Bool × Row)
  pub first : IsFrontBatch count old instant rows
  pub dropped : HasDropped (length rows) old new
  pub gained : HasGained (map (RowAt instant) (in_columns places rows)) to to2

-- rows of one instant were pushed, of which there may be none
abbrev pub HasGrown : Waiting → Waiting → Type 0
HasGrown old new = (t : ℕ) × (xs : List (Bool × Row)) × HasGained (map (RowAt t) xs) old new

-- begins and pieces are as the entries say
pub record IsCounted (w : Waiting) : Type 0 where
  pub begins : length w.begins ≡ length w.entries
  pub pieces : w.pieces ≡ pieces_of w.entries w.begins
