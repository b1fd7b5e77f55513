-- The operators of a query by their numbers: what each has, what a turn does to
-- it, and what is true of it at all times, read off itself and its inputs alone.
use Rattle.std.specs.Prelude.{ℕ, ◌+◌, ◌≤◌, ◌≡◌, ◌≢◌, ◌<◌, ◌⊎◌, min, List, [], ◌∷◌, ◌++◌, map, Bool}
use Rattle.std.specs.Prelude.{true, false, cond}
use Rattle.values.specs.Row.{Row}
use Rattle.values.specs.Window.{Element, Window, window_rows}
use Rattle.op_queue.specs.Entries.{Entry, RowAt, TickAt}
use Rattle.op_queue.specs.Paths.{Leads}
use Rattle.op_queue.specs.Signed.{Same, Adds, Legal, Turns}
use Rattle.windows.specs.Laws.{IsPart, WindowRows, WindowTick, coming}
use Rattle.laws_dataflow.specs.Windows.{GoodWindow}

-- OPERATORS

-- an operator with one input: its part of the definition,
-- and whether it puts out at rows or at ticks alone
pub record Unary : Type 0 where
  pub value : List Row → List Row
  pub streams : Bool

pub record Binary : Type 0 where
  pub value : List Row → List Row → List Row

-- an operator, with the numbers of its inputs; a window has the number of its source
pub data Node : Type 0 where
  window : ℕ → Node
  unary : Unary → ℕ → Node
  join : Binary → ℕ → ℕ → Node

-- its value goes by the bags of its inputs
abbrev pub IsLawful : Node → Type 0
IsLawful (window k) = Unit {0}
IsLawful (unary f x) = (xs ys : List Row) → Same xs ys → Same (f.value xs) (f.value ys)
IsLawful (join f x y) = (xs ys us vs : List Row) → Same xs ys → Same us vs
    → Same (f.value xs us) (f.value ys vs)

-- what a query reads: its first instant, and of each source its window, its input, the first
-- instant that is not closed, and how many rows came to its stream since the registration
pub record World : Type 0 where
  pub first : ℕ
  pub windows : ℕ → Window
  pub inputs : ℕ → List Element
  pub closed : ℕ → ℕ
  pub came : ℕ → ℕ

-- the bag of the window k at the instant t
abbrev pub bag_at : World → ℕ → ℕ → List Row
bag_at w k t = window_rows w.first (w.windows k) t (w.inputs k)

-- WHAT AN OPERATOR HAS

pub data Cell : Type 0 where
  -- the elements that it holds, those that its queue brings,
  -- the bag that it has put out, its queue, its open instant
  at_window : List Element → List Element → List Row → List (Entry Row) → ℕ → Cell
  -- its queue, the bag that it has taken, the bag that it has put out, its open instant
  at_unary : List (Entry Row) → List Row → List Row → ℕ → Cell
  -- its queues, the bags that it has taken, the bag that it has
  -- put out, its open instant, and which side has ticked there
  at_join : List (Entry Row) → List (Entry Row) → List Row → List Row → List Row → ℕ → Bool
      → Bool → Cell

abbrev pub cell_shown : Cell → List Row
cell_shown (at_window h e o q n) = o
cell_shown (at_unary q i o n) = o
cell_shown (at_join q r l m o n a b) = o

abbrev pub cell_next : Cell → ℕ
cell_next (at_window h e o q n) = n
cell_next (at_unary q i o n) = n
cell_next (at_join q r l m o n a b) = n

-- what an operator needs to know of an input: the bag
-- that it has put out, its open instant, and its values
pub record Input : Type 0 where
  pub bag : List Row
  pub opens : ℕ
  pub values : ℕ → List Row

-- WHAT IS TRUE OF IT AT ALL TIMES

-- an operator with one input: its queue leads from the bag
-- that it has taken to the bag that its input has put out
pub record GoodOne (f : Unary) (v : ℕ → List Row) (q : List (Entry Row)) (i o : List Row) (n : ℕ)
    (below : List Row) (m : ℕ) : Type 0 where
  pub edge : Leads v i n q below m
  pub shows : f.streams ≡ true → Same o (f.value i)

-- the open instant of a side, which may have ticked
abbrev pub past : Bool → ℕ → ℕ
past a n = cond a (n + 1) n

pub record GoodTwo (f : Binary) (v u : ℕ → List Row) (q r : List (Entry Row)) (l m o : List Row)
    (n : ℕ) (a b : Bool) (left : List Row) (nl : ℕ) (right : List Row) (nr : ℕ) : Type 0 where
  pub left_edge : Leads v l (past a n) q left nl
  pub right_edge : Leads u m (past b n) r right nr
  pub shows : Same o (f.value l m)
  pub left_ticked : a ≡ true → Same l (v n)
  pub right_ticked : b ≡ true → Same m (u n)
  pub not_both : a ≡ true → b ≡ true → ⊥

abbrev pub GoodCell : World → Node → Cell → Input → Input → Type 0
GoodCell w (window k) (at_window h e o q n) c d =
    GoodWindow w.first (w.windows k) (w.inputs k) (w.closed k) h e n q
GoodCell w (window k) (at_unary q i o n) c d = ⊥
GoodCell w (window k) (at_join q r l m o n a b) c d = ⊥
GoodCell w (unary f x) (at_window h e o q n) c d = ⊥
GoodCell w (unary f x) (at_unary q i o n) c d = GoodOne f c.values q i o n c.bag c.opens
GoodCell w (unary f x) (at_join q r l m o n a b) c d = ⊥
GoodCell w (join f x y) (at_window h e o q n) c d = ⊥
GoodCell w (join f x y) (at_unary q i o n) c d = ⊥
GoodCell w (join f x y) (at_join q r l m o n a b) c d =
    GoodTwo f c.values d.values q r l m o n a b c.bag c.opens d.bag d.opens

-- the value of a node at the instant t, by those of its inputs
abbrev pub value_by : World → Node → Input → Input → ℕ → List Row
value_by w (window k) c d t = bag_at w k t
value_by w (unary f x) c d t = f.value (c.values t)
value_by w (join f x y) c d t = f.value (c.values t) (d.values t)

-- THE LAWS OF ONE STEP

-- rows at an operator with one input: it has taken the bag i and put out the bag o;
-- it takes the signed rows xs and puts out ys; then it has taken i2 and put out o2
pub record RowsStep (f : Unary) (i : List Row) (xs : List (Bool × Row)) (o : List Row)
    (ys : List (Bool × Row)) (i2 o2 : List Row) : Type 0 where
  pub took : Legal i xs → Adds i xs i2
  pub puts : Legal i xs → (f.streams ≡ true → Same o (f.value i)) → Turns o ys o2
  pub shows : Legal i xs → f.streams ≡ true → Same o (f.value i) → Same o2 (f.value i2)

-- a tick there: what it puts out reaches the value of what it has taken
pub record TickStep (f : Unary) (i o : List Row) (ys : List (Bool × Row))
    (o2 : List Row) : Type 0 where
  pub puts : (f.streams ≡ true → Same o (f.value i)) → Turns o ys o2
  pub shows : (f.streams ≡ true → Same o (f.value i)) → Same o2 (f.value i)

-- rows at a side of a join
pub record LeftStep (f : Binary) (l m : List Row) (xs ys : List (Bool × Row))
    (l2 : List Row) : Type 0 where
  pub took : Legal l xs → Adds l xs l2
  pub puts : Legal l xs → Turns (f.value l m) ys (f.value l2 m)

pub record RightStep (f : Binary) (l m : List Row) (xs ys : List (Bool × Row))
    (m2 : List Row) : Type 0 where
  pub took : Legal m xs → Adds m xs m2
  pub puts : Legal m xs → Turns (f.value l m) ys (f.value l m2)

-- the rows of a batch as entries of a queue
abbrev pub batch : ℕ → List (Bool × Row) → List (Entry Row)
batch n xs = map (RowAt n) xs

-- the rows and then the tick
abbrev pub closing : ℕ → List (Bool × Row) → List (Entry Row)
closing n xs = batch n xs ++ TickAt n ∷ []

-- A FINISHED TURN: the operator before it, what it puts out, and the operator after it
pub data Turn (w : World) : Node → Cell → List (Entry Row) → Cell → Type 0 where
  window_rows_turn : (k n : ℕ) (es : List Element) (ys : List (Bool × Row)) (h h2 e : List Element)
      (o o2 : List Row) (q : List (Entry Row)) → WindowRows w.first (w.windows k) n h o es ys h2 o2
      → IsPart h2 (h ++ es)
      → Turn w (window k) (at_window h (es ++ e) o (batch n (coming es) ++ q) n) (batch n ys)
      (at_window h2 e o2 q n)
  window_tick_turn : (k n : ℕ) (ys : List (Bool × Row)) (h h2 e : List Element) (o o2 : List Row)
      (q : List (Entry Row)) → WindowTick w.first (w.windows k) n h o ys h2 o2 → IsPart h2 h
      → Turn w (window k) (at_window h e o (TickAt n ∷ q) n) (closing n ys)
      (at_window h2 e o2 q (n + 1))
  rows_turn : (f : Unary) (x n : ℕ) (xs ys : List (Bool × Row)) (q : List (Entry Row))
      (i i2 o o2 : List Row) → RowsStep f i xs o ys i2 o2
      → Turn w (unary f x) (at_unary (batch n xs ++ q) i o n) (batch n ys) (at_unary q i2 o2 n)
  tick_turn : (f : Unary) (x n : ℕ) (ys : List (Bool × Row)) (q : List (Entry Row))
      (i o o2 : List Row) → TickStep f i o ys o2
      → Turn w (unary f x) (at_unary (TickAt n ∷ q) i o n) (closing n ys) (at_unary q i o2 (n + 1))
  left_rows : (f : Binary) (x y n : ℕ) (xs ys : List (Bool × Row)) (q r : List (Entry Row))
      (l l2 m o : List Row) (b : Bool) → LeftStep f l m xs ys l2
      → Turn w (join f x y) (at_join (batch n xs ++ q) r l m o n false b) (batch n ys)
      (at_join q r l2 m (f.value l2 m) n false b)
  right_rows : (f : Binary) (x y n : ℕ) (xs ys : List (Bool × Row)) (q r : List (Entry Row))
      (l m m2 o : List Row) (a : Bool) → RightStep f l m xs ys m2
      → Turn w (join f x y) (at_join q (batch n xs ++ r) l m o n a false) (batch n ys)
      (at_join q r l m2 (f.value l m2) n a false)
  left_first : (f : Binary) (x y n : ℕ) (q r : List (Entry Row)) (l m o : List Row)
      → Turn w (join f x y) (at_join (TickAt n ∷ q) r l m o n false false) []
      (at_join q r l m o n true false)
  right_first : (f : Binary) (x y n : ℕ) (q r : List (Entry Row)) (l m o : List Row)
      → Turn w (join f x y) (at_join q (TickAt n ∷ r) l m o n false false) []
      (at_join q r l m o n false true)
  left_last : (f : Binary) (x y n : ℕ) (q r : List (Entry Row)) (l m o : List Row)
      → Turn w (join f x y) (at_join (TickAt n ∷ q) r l m o n false true) (TickAt n ∷ [])
      (at_join q r l m o (n + 1) false false)
  right_last : (f : Binary) (x y n : ℕ) (q r : List (Entry Row)) (l m o : List Row)
      → Turn w (join f x y) (at_join q (TickAt n ∷ r) l m o n true false) (TickAt n ∷ [])
      (at_join q r l m o (n + 1) false false)

-- the outputs of the operator i go to the end of its consumer's queue for it
pub data Feeds (i : ℕ) (outs : List (Entry Row)) : Node → Cell → Cell → Type 0 where
  to_unary : (f : Unary) (q : List (Entry Row)) (u o : List Row) (n : ℕ)
      → Feeds i outs (unary f i) (at_unary q u o n) (at_unary (q ++ outs) u o n)
  to_left : (f : Binary) (y : ℕ) (q r : List (Entry Row)) (l m o : List Row) (n : ℕ) (a b : Bool)
      → y ≢ i → Feeds i outs (join f i y) (at_join q r l m o n a b)
      (at_join (q ++ outs) r l m o n a b)
  to_right : (f : Binary) (x : ℕ) (q r : List (Entry Row)) (l m o : List Row) (n : ℕ) (a b : Bool)
      → x ≢ i → Feeds i outs (join f x i) (at_join q r l m o n a b)
      (at_join q (r ++ outs) l m o n a b)

-- i is no input of the node
abbrev pub Apart : ℕ → Node → Type 0
Apart i (window k) = Unit {0}
Apart i (unary f x) = x ≢ i
Apart i (join f x y) = (x ≢ i) × (y ≢ i)

abbrev pub left_of : Node → ℕ
left_of (window k) = 0
left_of (unary f x) = x
left_of (join f x y) = x

abbrev pub right_of : Node → ℕ
right_of (window k) = 0
right_of (unary f x) = 0
right_of (join f x y) = y

-- ALL OPERATORS: their values and their cells by their numbers

abbrev pub input_of : (ℕ → ℕ → List Row) → (ℕ → Cell) → ℕ → Input
input_of v s i = record { bag = cell_shown (s i); opens = cell_next (s i); values = v i }

-- THE INVARIANT: the operator k is good, by its inputs
abbrev pub GoodAt : World → (ℕ → Node) → (ℕ → ℕ → List Row) → (ℕ → Cell) → ℕ → Type 0
GoodAt w nodes v s k = GoodCell w (nodes k) (s k) (input_of v s (left_of (nodes k)))
    (input_of v s (right_of (nodes k)))

-- v gives the value of each node, by its inputs'
abbrev pub ValueAt : World → (ℕ → Node) → (ℕ → ℕ → List Row) → (ℕ → Cell) → ℕ → Type 0
ValueAt w nodes v s k = (t : ℕ)
    → v k t ≡ value_by w (nodes k) (input_of v s (left_of (nodes k)))
    (input_of v s (right_of (nodes k))) t

-- no queue of it that may be used has anything
abbrev pub IdleCell : Cell → Type 0
IdleCell (at_window h e o q n) = q ≡ []
IdleCell (at_unary q i o n) = q ≡ []
IdleCell (at_join q r l m o n a b) = ((a ≡ true) ⊎ (q ≡ [])) × ((b ≡ true) ⊎ (r ≡ []))

-- least gives, of each node, the least instant that is not closed in all of its sources
abbrev pub LeastAt : World → (ℕ → ℕ) → Node → ℕ → Type 0
LeastAt w least (window x) k = least k ≡ w.closed x
LeastAt w least (unary f x) k = least k ≡ least x
LeastAt w least (join f x y) k = least k ≡ min (least x) (least y)

-- its inputs come before it
abbrev pub ComesLater : Node → ℕ → Type 0
ComesLater (window x) k = Unit {0}
ComesLater (unary f x) k = x < k
ComesLater (join f x y) k = (x < k) × (y < k)

-- a plan of count nodes, with their values and their least open instants
pub record Planned (w : World) (nodes : ℕ → Node) (count : ℕ) (v : ℕ → ℕ → List Row)
    (least : ℕ → ℕ) : Type 0 where
  pub lawful : (k : ℕ) → k < count → IsLawful (nodes k)
  pub rises : (k : ℕ) → k < count → ComesLater (nodes k) k
  pub opens : (k : ℕ) → k < count → LeastAt w least (nodes k) k
  pub value : (k : ℕ) (s : ℕ → Cell) → k < count → ValueAt w nodes v s k

-- the node takes the outputs of the operator i, at one side
abbrev pub Takes : ℕ → Node → Type 0
Takes i (window k) = ⊥
Takes i (unary f x) = x ≡ i
Takes i (join f x y) = ((x ≡ i) × (y ≢ i)) ⊎ ((y ≡ i) × (x ≢ i))

-- each of the count nodes has one consumer, of a greater number; that
-- of the last, and of no other, is the root, whose number is count
pub record Laid (nodes : ℕ → Node) (count : ℕ) (to : ℕ → ℕ) : Type 0 where
  pub some : 0 < count
  pub later : (i : ℕ) → i < count → i < to i
  pub within : (i : ℕ) → i < count → to i ≤ count
  pub final : (i : ℕ) → i < count → to i ≡ count → i + 1 ≡ count
  pub taken : (i : ℕ) → i < count → to i < count → Takes i (nodes (to i))
  pub apart : (i k : ℕ) → i < count → k < count → k ≢ to i → Apart i (nodes k)
