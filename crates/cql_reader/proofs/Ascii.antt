-- Bytes of ASCII.
use Rattle.std.proofs.Common.{◌≡◌, ℕ, zero, suc, ◌+◌, ◌<◌, ◌≤◌, Bool, true, false, ◌&&◌, List, [], ◌∷◌, sym, drop, get_or, length, arith, nat_lt, inl, inr}
use Rattle.std.proofs.lemmas.List.{at_drop_more, at_drop_all}
use Rattle.std.proofs.lemmas.Bool.{and_parts, ltb-true, ltb-false, false≢true, cases_Bool}
use Rattle.std.specs.Str.{IsAscii, IsNotAscii}
use Rattle.cql_reader.specs.Lexis.{all_word, is_word}
use Rattle.cql_reader.specs.Scanning.{all_ascii}

pub each_ascii : (bs : List ℕ) → all_ascii bs ≡ true → IsAscii bs
unfolding all_ascii
each_ascii [] e i = omega arith
each_ascii (b ∷ bs) e zero = ltb-true b 128 (and_parts (nat_lt b 128) (all_ascii bs) e).0
each_ascii (b ∷ bs) e (suc i) = each_ascii bs (and_parts (nat_lt b 128) (all_ascii bs) e).1 i

true_tail : (a b : Bool) → a ≡ true → (a && b) ≡ false → b ≡ false
true_tail true b h e = e
true_tail false b h e = absurd (false≢true h)

pub some_not_ascii : (bs : List ℕ) → all_ascii bs ≡ false → IsNotAscii bs
unfolding all_ascii
some_not_ascii [] e = absurd (false≢true (sym e))
some_not_ascii (b ∷ bs) e = elim (cases_Bool (nat_lt b 128)) [
  | inl h ↦ (let f : all_ascii bs ≡ false = true_tail (nat_lt b 128) (all_ascii bs) h e in let r = some_not_ascii bs f in (suc r.0, r.1))
  | inr h ↦ (zero, ltb-false b 128 h)
]

pub ascii_step : (bs : List ℕ) (i : ℕ) → i < length bs → all_ascii (drop i bs) ≡ (nat_lt (get_or bs i 0) 128 && all_ascii (drop (i + 1) bs))
unfolding all_ascii
ascii_step bs i h = at_drop_more all_ascii bs i 0 h

pub ascii_end : (bs : List ℕ) (i : ℕ) → length bs ≤ i → all_ascii (drop i bs) ≡ true
unfolding all_ascii
ascii_end bs i h = at_drop_all all_ascii bs i h

pub words_step : (bs : List ℕ) (i : ℕ) → i < length bs → all_word (drop i bs) ≡ (is_word (get_or bs i 0) && all_word (drop (i + 1) bs))
unfolding all_word
words_step bs i h = at_drop_more all_word bs i 0 h

pub words_end : (bs : List ℕ) (i : ℕ) → length bs ≤ i → all_word (drop i bs) ≡ true
unfolding all_word
words_end bs i h = at_drop_all all_word bs i h
