use Rattle.std.proofs.Common.{◌≡◌, ℕ, ◌+◌, ◌-◌, ◌*◌, ◌<◌, ◌≤◌, List, [], ◌∷◌, sym, ap, ◌∙◌, drop, get_or, length, arith, min, inl, inr}
use Rattle.std.proofs.lemmas.List.{at_drop_more, at_drop_all}
use Rattle.std.proofs.lemmas.Bool.{cases_lt}
use Rattle.cql_reader.specs.Lexis.{decimal}

decimal_above : (n : ℕ) (ds : List ℕ) → n ≤ decimal n ds
unfolding decimal
decimal_above n [] = omega arith
decimal_above n (d ∷ ds) = let h = decimal_above (10 * n + (d - 48)) ds in omega arith

-- cutting off on the way changes nothing
cut_off : (n limit : ℕ) (ds : List ℕ) → min (decimal (min n limit) ds) limit ≡ min (decimal n ds) limit
cut_off n limit ds = elim (cases_lt limit n) [
  | inl l ↦ (let e : min n limit ≡ limit = omega arith in
      let a = decimal_above limit ds in
      let b = decimal_above n ds in
      ap (λ (v : ℕ). min (decimal v ds) limit) e ∙ omega arith)
  | inr g ↦ (let e : min n limit ≡ n = omega arith in ap (λ (v : ℕ). min (decimal v ds) limit) e)
]

pub decimal_step : (ds : List ℕ) (i n limit : ℕ) → i < length ds → min (decimal n (drop i ds)) limit ≡ min (decimal (min (10 * n + (get_or ds i 0 - 48)) limit) (drop (i + 1) ds)) limit
unfolding decimal
decimal_step ds i n limit h =
    ap (λ (v : ℕ). min v limit) (at_drop_more (decimal n) ds i 0 h) ∙ sym (cut_off (10 * n + (get_or ds i 0 - 48)) limit (drop (i + 1) ds))

pub decimal_end : (ds : List ℕ) (i n : ℕ) → length ds ≤ i → decimal n (drop i ds) ≡ n
unfolding decimal
decimal_end ds i n h = at_drop_all (decimal n) ds i h
