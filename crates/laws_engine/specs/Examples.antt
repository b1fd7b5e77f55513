-- The definitions at worked texts: how many truths a
-- condition needs that has as many brackets open as it may.
use Rattle.std.specs.Prelude.{◌≡◌, ℕ, zero, suc, List, [], ◌++◌, Option, Some, None, Result, Ok}
use Rattle.std.specs.Prelude.{Err, codes, refl}
use Rattle.cql_reader.specs.Lexis.{decimal, kind_in, number_of, reserved, same_bytes}
use Rattle.cql_reader.specs.Lexis.{same_letters, token_at, word_kind}
use Rattle.cql_reader.specs.Scanning.{all_ascii, scan}
use Rattle.cql_reader.specs.Query.{Query, WrittenCondition}
use Rattle.cql_reader.specs.Grammar.{alternatives, deepens, did, in_range, kind_of, took}
use Rattle.cql_reader.specs.Fault.{Fault, TooDeep}
use Rattle.cql_reader.specs.Prediction.{chosen, count, ends, first, firsts, has, nullable, parsed}
use Rattle.cql_reader.specs.Prediction.{pick, run}
use Rattle.cql_reader.specs.Judging.{reading}
use Rattle.names.specs.Resolved.{condition_of}
use Rattle.row_nodes.specs.Steps.{truths_needed}

abbrev truths_in : Option WrittenCondition → ℕ
truths_in None = 0
truths_in (Some c) = truths_needed (condition_of [] c)

abbrev truths_read : Result Query Fault → ℕ
truths_read (Ok q) = truths_in q.condition
truths_read (Err fault) = 0

no_bracket : truths_read (reading (codes "Select Istream(*) From S Where a=1 Or a=1 And a=1")) ≡ 3
unfolding reading all_ascii parsed scan token_at word_kind kind_in reserved same_letters same_bytes
    run count chosen pick firsts ends has first nullable alternatives kind_of in_range deepens took
    did decimal number_of
no_bracket = refl

one_bracket : truths_read (reading
    (codes "Select Istream(*) From S Where a=1 Or a=1 And (a=1 Or a=1 And a=1)")) ≡ 5
unfolding reading all_ascii parsed scan token_at word_kind kind_in reserved same_letters same_bytes
    run count chosen pick firsts ends has first nullable alternatives kind_of in_range deepens took
    did decimal number_of
one_bracket = refl

-- chains need no more, however long
a_chain : truths_read (reading
    (codes "Select Istream(*) From S Where a=1 Or a=1 Or a=1 Or a=1 And a=1 And a=1 And a=1")) ≡ 3
unfolding reading all_ascii parsed scan token_at word_kind kind_in reserved same_letters same_bytes
    run count chosen pick firsts ends has first nullable alternatives kind_of in_range deepens took
    did decimal number_of
a_chain = refl

-- a condition with so many brackets open
abbrev nested : ℕ → List ℕ
nested zero = codes "a=1 Or a=1 And a=1"
nested (suc n) = codes "a=1 Or a=1 And (" ++ nested n ++ codes ")"

-- the most that a text can need
most_brackets : truths_read (reading (codes "Select Istream(*) From S Where " ++ nested 32)) ≡ 67
unfolding reading all_ascii parsed scan token_at word_kind kind_in reserved same_letters same_bytes
    run count chosen pick firsts ends has first nullable alternatives kind_of in_range deepens took
    did decimal number_of
most_brackets = refl

-- a condition in so many brackets
abbrev in_brackets : ℕ → List ℕ → List ℕ
in_brackets zero text = text
in_brackets (suc n) text = codes "(" ++ in_brackets n text ++ codes ")"

one_too_many : reading (codes "Select Istream(*) From S Where " ++ in_brackets 33 (codes "a=1"))
    ≡ Err (TooDeep 63)
unfolding reading all_ascii parsed scan token_at word_kind kind_in reserved same_letters same_bytes
    run count chosen pick firsts ends has first nullable alternatives kind_of in_range deepens took
    did decimal number_of
one_too_many = refl
