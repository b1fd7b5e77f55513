use Rattle.std.proofs.Common.{arith, ◌≡◌, ◌∙◌, ap, sym, append-nil, ◌++◌, ◌∷◌, [], drop, pos, w64, List, ℕ, rules}
use Rattle.std.proofs.lemmas.Int.{to_z_pos}
use Rattle.values.specs.Row.{Row}
use Rattle.reference.specs.World.{handed}
use Rattle.query_runtime.proofs.WaitingLemmas.{pushed, signed-first, signed-rest}
use Rattle.query_runtime.proofs.waiting.push_all.Goals as goal

pub overflow_cast-at : goal.overflow_cast-at
overflow_cast-at c = let early = signed-first c.loop-at.answers (drop 1 c.loop-at.answers) c.in-Some.at c.in-Some.values.now c.in-Some.ensures.some c.loop-at.invariant.instants in omega (arith, early)

pub loop-at-preserved : goal.loop-at-preserved
loop-at-preserved c =
    let old : List (ℕ × Row) = c.loop-at.answers in
    let new : List (ℕ × Row) = drop 1 c.loop-at.answers in
    let row : Row = c.in-Some.values.now in
    let early = signed-first old new c.in-Some.at row c.in-Some.ensures.some c.loop-at.invariant.instants in
    let put = rw (to_z_pos w64 c.in-Some.at early) at c.in_ok-push.ensures.ok in
    rw c.pass.ensures (record {
      rows = pushed c.loop-at.rows c.push.new.self old new c.in-Some.at row c.in-Some.ensures.some put ∙ c.loop-at.invariant.rows;
      instants = signed-rest old new c.in-Some.at row c.in-Some.ensures.some c.loop-at.invariant.instants;
    })

pub returns : goal.returns
returns c =
    let none : c.loop-at.answers ≡ [] = search rules in
    sym (append-nil c.loop-at.rows) ∙ ap (λ (es : List (ℕ × Row)). c.loop-at.rows ++ handed es) (sym none) ∙ c.loop-at.invariant.rows
