-- What a forgetting walks over, as far as the code counts.
use Rattle.std.proofs.Common.{◌≡◌, ◌∙◌, ◌<◌, ◌≤◌, ◌+◌, ◌-◌, ◌^◌, inl, inr, ℕ, List, Option, length, take, get_or, slice_get, unwrap_or, min, ap, sym, arith}
use Rattle.std.specs.List.{sum_by}
use Rattle.std.specs.Option.{option_map}
use Rattle.std.proofs.lemmas.List.{length-map, take_all}
use Rattle.std.proofs.lemmas.List.Sums.{sum_by_more}
use Rattle.std.proofs.lemmas.Option.{slice_get_cases}
use Rattle.reference.specs.Machine.{Stream}
use Rattle.leases.specs.Forgets.{counted, walked_in}
use Rattle.leases.specs.Shown.{engine_in}
use Rattle.leases.specs.Views.{query_of}
use Rattle.leases.specs.declared.state.EngineState.{EngineState}

-- the queries, and the rows of the first streams
abbrev pub walked_first : EngineState → ℕ → ℕ
walked_first s k = length s.registered.items + sum_by (λ (t : Stream). length t.elements) (take k s.streams)

-- the rows of one stream more
pub walked_next : (s : EngineState) (k walked : ℕ) (kept : Option ℕ) (rows next : ℕ) → k < length s.streams → walked ≡ counted (walked_first s k) → kept ≡ option_map (λ (t : Stream). length t.elements) (slice_get s.streams k) → rows ≡ unwrap_or kept 0 → next ≡ min (walked + rows) (2 ^ 64 - 1)
    → next ≡ counted (walked_first s (k + 1))
walked_next s k walked kept rows next lt was is here gives =
    elim (slice_get_cases s.streams k).1 [
      | inl t ↦
          let sum = sum_by_more (λ (x : Stream). length x.elements) s.streams k t.0 lt in
          let one : length t.0.elements ≡ length (get_or s.streams k t.0).elements = ap (λ (x : Stream). length x.elements) (sym t.3) in
          let many : rows ≡ length t.0.elements = here ∙ ap (λ (o : Option ℕ). unwrap_or o 0) (is ∙ ap (option_map (λ (x : Stream). length x.elements)) t.2) in
          omega (arith, sum, one, many, was, gives)
      | inr n ↦ absurd (omega (arith, n.0, lt))
    ]

-- after the last stream it is all
pub walked_all : (s : EngineState) (k walked : ℕ) → length s.streams ≤ k → walked ≡ counted (walked_first s k) → walked ≡ counted (walked_in (engine_in s))
walked_all s k walked le is =
    is ∙ ap (λ (l : List Stream). counted (length s.registered.items + sum_by (λ (t : Stream). length t.elements) l)) (take_all k s.streams le)
    ∙ ap (λ n. counted (n + sum_by (λ (t : Stream). length t.elements) s.streams)) (sym (length-map s.registered.items query_of))
