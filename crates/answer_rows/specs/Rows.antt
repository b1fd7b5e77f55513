-- Answers in one list: each has an instant, and so many of the values.
use Rattle.std.specs.Prelude.{◌≡◌, ℕ, zero, suc, ℤ, ◌≤◌, ◌+◌, ◌-◌, Option, List, [], ◌∷◌, length}
use Rattle.std.specs.Prelude.{take, drop, map}
use Rattle.arrayvec.specs.ArrayVec.{ArrayVec}
use Rattle.values.specs.declared.TheConstants.{MAX_COLUMNS}
use Rattle.answer_rows.specs.declared.AnswerHead.{AnswerHead}

-- the answers of these heads, whose values these are; the first one's values begin at `start`
abbrev pub rows_from : ℕ → List AnswerHead → List (Option ℤ) → List (ℤ × List (Option ℤ))
rows_from start [] values = []
rows_from start (h ∷ hs) values =
    (h.instant, take (h.end - start) (drop start values)) ∷ rows_from h.end hs values

-- each head ends where the next one's values begin, and the last
-- one at this end; none has more values than a row may have
abbrev pub AreEnded : ℕ → List AnswerHead → ℕ → Type 0
AreEnded start [] all = start ≡ all
AreEnded start (h ∷ hs) all =
    (start ≤ h.end) × (h.end ≤ start + MAX_COLUMNS) × AreEnded h.end hs all

-- where the values of the answer of a number begin
abbrev pub starts_at : ℕ → List AnswerHead → ℕ → ℕ
starts_at start hs zero = start
starts_at start [] (suc number) = start
starts_at start (h ∷ hs) (suc number) = starts_at h.end hs number

-- what the answers take in memory, in words of eight bytes: two each, and one for each value
abbrev pub words_of : List (ℤ × List (Option ℤ)) → ℕ
words_of [] = 0
words_of (a ∷ answers) = 2 + length a.1 + words_of answers

-- answers, without the array that holds the values of each
abbrev pub rows_in : List (ℤ × ArrayVec (Option ℤ)) → List (ℤ × List (Option ℤ))
rows_in rows = map (λ a. (a.0, a.1.items)) rows
