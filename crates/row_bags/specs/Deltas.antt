-- What entered and what left, each cut by the other.
use Rattle.std.specs.Prelude.{Bool, cond, List, fold}
use Rattle.values.specs.Row.{Row, row_cmp}
use Rattle.values.specs.Bag.{bag_minus, in_order, insert_in_order, without}
use Rattle.row_bags.specs.Bags.{is_in}

-- two bags in order
pub record PlainDelta : Type 0 where
  pub entered : List Row
  pub left : List Row

abbrev pub delta_of : List Row → List Row → PlainDelta
delta_of xs ys = record { entered = xs; left = ys }

-- what entered and what left from the bag `before` to the bag `now`
abbrev pub delta_between : List Row → List Row → PlainDelta
delta_between before now = record {
  entered = in_order row_cmp (bag_minus row_cmp now before);
  left = in_order row_cmp (bag_minus row_cmp before now);
}

-- the row is taken from the first bag where it stands there, else it comes to the second
abbrev pub cancelled : List Row → List Row → Row → List Row × List Row
cancelled xs ys r = cond (is_in row_cmp r xs) (without row_cmp r xs, ys)
    (xs, insert_in_order row_cmp r ys)

-- after one signed row more
abbrev pub delta_after : PlainDelta → Bool × Row → PlainDelta
delta_after n s =
    cond s.0 (record {
      entered = (cancelled n.left n.entered s.1).1;
      left = (cancelled n.left n.entered s.1).0;
    })
    (record {
      entered = (cancelled n.entered n.left s.1).0;
      left = (cancelled n.entered n.left s.1).1;
    })

-- after signed rows
abbrev pub deltas_after : PlainDelta → List (Bool × Row) → PlainDelta
deltas_after n ss = fold delta_after n ss
