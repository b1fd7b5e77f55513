use Rattle.std.proofs.Common.{◌≡◌, ◌∙◌, ◌++◌, ◌∷◌, [], ap, sym, subst, arith, rules, take, get_or, length, List, Bool, ℕ, None}
use Rattle.std.proofs.lemmas.List.{length-append, take_all}
use Rattle.values.specs.Row.{Row}
use Rattle.column.specs.Rows.{signed}
use Rattle.windows.specs.Fallen.{IsFallenWide}
use Rattle.op_queue.specs.Flat.{FlatState}
use Rattle.windows.specs.Latest.{interleaved, minus_of}
use Rattle.windows.proofs.FallenLemmas.{fallen_wide_at, minus_few, put_more}
use Rattle.windows.proofs.latest.part_with_fallen.Goals as goal

pub push-requires : goal.push-requires
push-requires c =
    let is : c.as_slice.result.now ≡ c.row-row.result.row.items = search rules in
    ap (λ (r : Row). length r) is
    ∙ ap (λ (s : Bool × Row). length s.1) c.row-row.ensures ∙ c.len-count.ensures.batch.one_width c.loop-place.place _ (omega (arith, c.requires.within)) ∙ sym c.loop-place.invariant.width

pub push_fallen-requires-clause-within : goal.push_fallen-requires-clause-within
push_fallen-requires-clause-within c = omega (arith, c.requires.within, c.requires.fallen.0)

pub push_fallen-requires-clause-wide : goal.push_fallen-requires-clause-wide
push_fallen-requires-clause-wide c =
    subst (λ (w : ℕ). IsFallenWide w (get_or c.args.near.now c.loop-place.place None)) (sym (ap (λ (g : FlatState). g.width) c.in_ok-push.ensures.ok ∙ c.loop-place.invariant.width))
    (fallen_wide_at c.args.batch.now c.args.near.now c.loop-place.place c.requires.fallen)

pub loop-place-preserved : goal.loop-place-preserved
loop-place-preserved c =
    let b = c.args.batch.now in
    let near = c.args.near.now in
    let p = c.loop-place.place in
    let x : Bool × Row = signed c.row-row.result in
    let f = get_or near p None in
    let old : List (Bool × Row) = c.loop-place.rows.rows in
    let is : c.as_slice.result.now ≡ c.row-row.result.row.items = search rules in
    let pushed : c.push.new.self.rows ≡ old ++ x ∷ [] =
    ap (λ (g : FlatState). g.rows) c.in_ok-push.ensures.ok ∙ ap (λ (r : Row). old ++ (c.row-row.result.enters, r) ∷ []) is in
    let new : c.push_fallen.new.rows.rows ≡ (old ++ x ∷ []) ++ minus_of f = ap (λ (g : FlatState). g.rows) c.in_ok-push_fallen.ensures.rows ∙ ap (λ (rs : List (Bool × Row)). rs ++ minus_of f) pushed in
    let many = ap (λ (rs : List (Bool × Row)). length rs) new in
    let sum = length-append (old ++ x ∷ []) (minus_of f) in
    let one = length-append old (x ∷ []) in
    record {
      width = ap (λ (g : FlatState). g.width) c.in_ok-push_fallen.ensures.rows ∙ ap (λ (g : FlatState). g.width) c.in_ok-push.ensures.ok ∙ c.loop-place.invariant.width;
      fell = c.in_ok-push_fallen.ensures.fell;
      few = omega (arith, many, sum, one, minus_few f, c.loop-place.invariant.few);
      many = omega (arith, many, sum, one, c.loop-place.invariant.many);
      so_far =
          let before = interleaved (take c.args.«from» b) (take c.args.«from» near) in
          ap (λ (rs : List (Bool × Row)). before ++ rs) new ∙ put_more b near p before old x (omega (arith, c.requires.within)) c.requires.fallen.0 c.loop-place.invariant.so_far c.row-row.ensures;
    }

pub batch-requires-clause-some : goal.batch-requires-clause-some
batch-requires-clause-some c = omega (arith, c.loop-place.invariant.many, c.requires.some, c.len-many.ensures)

pub batch-requires-clause-few : goal.batch-requires-clause-few
batch-requires-clause-few c = omega (arith, c.loop-place.invariant.few, c.requires.few, c.len-many.ensures)

pub returns-clause-rows : goal.returns-clause-rows
returns-clause-rows c =
    let b = c.args.batch.now in
    let near = c.args.near.now in
    let done : c.loop-place.place ≡ c.args.to = omega arith in
    ap (λ (rs : List (Bool × Row)). interleaved (take c.args.«from» b) (take c.args.«from» near) ++ rs) (c.in_ok-part.ensures ∙ take_all c.len-many.result c.loop-place.rows.rows (omega (arith, c.len-many.ensures)))
    ∙ c.loop-place.invariant.so_far
    ∙ ap (λ (k : ℕ). interleaved (take k b) (take k near)) done
