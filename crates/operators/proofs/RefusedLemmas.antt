-- What holds of a run's result holds of what is said of it.
use Rattle.std.proofs.Common.{◌≡◌, ℕ, OnErr, [], sym, subst}
use Rattle.std.specs.Prelude.{⊤, Result, Ok, Err}
use Rattle.op_queue.specs.Queues.{HasGrown, Waiting}
use Rattle.op_queue.proofs.GainLemmas.{gained-none}
use Rattle.operators.specs.Runs.{none_taken}

pub untaken_err : {E : Type 0} (P : Type 0) (ran : Result ⊤ E) (r : Result ⊤ ℕ) → r ≡ none_taken ran → OnErr ran P → OnErr r P
untaken_err {E} P ran r is h = subst (λ (x : Result ⊤ ℕ). OnErr x P) (sym is) (go ran h)
  where
    go : (ran : Result ⊤ E) → OnErr ran P → OnErr (none_taken ran) P
    go (Ok u) h = tt
    go (Err e) h = h

-- a queue that is as it was has grown by nothing
pub grown_none : (old new : Waiting) → new ≡ old → HasGrown old new
grown_none old new same = subst (λ w. HasGrown old w) (sym same) (0, [], gained-none old)

pub untaken_grown : {E : Type 0} (old new : Waiting) (ran : Result ⊤ E) (r : Result ⊤ ℕ) → r ≡ none_taken ran → OnErr ran (new ≡ old) → OnErr r (HasGrown old new)
untaken_grown {E} old new ran r is h = subst (λ (x : Result ⊤ ℕ). OnErr x (HasGrown old new)) (sym is) (go ran h)
  where
    go : (ran : Result ⊤ E) → OnErr ran (new ≡ old) → OnErr (none_taken ran) (HasGrown old new)
    go (Ok u) h = tt
    go (Err e) h = grown_none old new h
