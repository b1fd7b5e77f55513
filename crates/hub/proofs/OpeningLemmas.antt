-- The openings that accepted commands lead to.
use Rattle.std.proofs.Common.{◌≡◌, ◌∙◌, ℕ, ◌+◌, List, [], ◌∷◌, length, refl, sym, ap, arith}
use Rattle.reference.specs.Machine.{Machine, empty}
use Rattle.laws_engine.specs.Engines.{PlainEngine}
use Rattle.laws_engine.specs.Openings.{forgotten}
use Rattle.laws_engine.specs.Promises.{KeepsItsPromises}
use Rattle.histories.specs.Histories.{Entry, Replays}
use Rattle.hub.specs.Reached.{IsReachedBy}
use Rattle.hub.specs.Steps.{OpensAt}

pub reached_nothing : (m : Machine) → m ≡ empty → IsReachedBy 0 m
reached_nothing m h = record { stretches = []; lead = h; count = refl }

-- one forget more
pub reached_further : (first many : ℕ) (m next : Machine) (es : List Entry) (e : PlainEngine) → IsReachedBy first m → Replays m es e.machine → KeepsItsPromises e → next ≡ (forgotten e).machine → many ≡ first + length es → IsReachedBy many next
reached_further first many m next es e h run promises is all = record {
  stretches = es ∷ h.stretches;
  lead = (m, e, h.lead, run, promises, is);
  count = ap (λ (n : ℕ). n + length es) h.count ∙ sym all;
}

-- an opening that replaces no entry is still that of the machine that received nothing: so was the one before it
pub opens_still : (first len : ℕ) (m last next : Machine) (es : List Entry) → (first ≡ 0 → m ≡ empty) → Replays m es last → len ≡ length es → (last ≡ empty → next ≡ empty) → OpensAt (first + len) next
opens_still first len m last next [] opens run many after = record { nought = λ is. after (run ∙ opens (omega (arith, is))) }
opens_still first len m last next (e ∷ es) opens run many after = record { nought = λ is. absurd (omega (arith, is, many)) }
