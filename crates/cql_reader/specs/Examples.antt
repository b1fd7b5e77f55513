-- The definitions at worked texts.
use Rattle.std.specs.Prelude.{◌≡◌, ℕ, zero, suc, List, [], ◌∷◌, ◌++◌, Option, Some, None, Result}
use Rattle.std.specs.Prelude.{Ok, Err, codes, refl, true, false, pos, negsuc}
use Rattle.values.specs.Answers.{StreamOperator, Istream, Dstream, Rstream}
use Rattle.values.specs.declared.reach.Reach.TheVariants.{Last, Steps}
use Rattle.values.specs.declared.resolved.Aggregate.TheVariants.{Sum}
use Rattle.values.specs.declared.resolved.Compare.{Compare}
use Rattle.values.specs.declared.resolved.Compare.TheVariants.{Equals, Differs, Below, AtMost}
use Rattle.values.specs.declared.resolved.Compare.TheVariants.{Above, AtLeast}
use Rattle.cql_reader.specs.Lexis.{is_name, reserved, same_bytes, same_letters, kind_in, word_kind}
use Rattle.cql_reader.specs.Lexis.{all_word, token_at, decimal, number_of}
use Rattle.cql_reader.specs.Scanning.{all_ascii, scan}
use Rattle.cql_reader.specs.Query.{Query, Reference, Column, CountAll, Of, All, Each, WrittenWindow}
use Rattle.cql_reader.specs.Query.{Instants, Rows, Partition, WrittenSource}
use Rattle.cql_reader.specs.Query.{WrittenOperand}
use Rattle.cql_reader.specs.Query.{Named, Number, WrittenCondition, Compared, Not, And, Or}
use Rattle.cql_reader.specs.Grammar.{alternatives, kind_of, in_range, deepens, took, did, unbounded}
use Rattle.cql_reader.specs.Fault.{Fault, BadToken, Unexpected, NumberRange, TooDeep}
use Rattle.cql_reader.specs.Prediction.{first, nullable, has, firsts, ends, pick, chosen, run}
use Rattle.cql_reader.specs.Prediction.{count, parsed}
use Rattle.cql_reader.specs.Judging.{reading}

-- a query of `*`
abbrev all : StreamOperator → List WrittenSource → Option WrittenCondition → Query
all operator sources condition =
    record {
      operator = operator;
      is_distinct = false;
      entries = All;
      sources = sources;
      condition = condition;
      group = [];
    }

-- a source of the stream S
abbrev from_S : WrittenWindow → Option (List ℕ) → WrittenSource
from_S window alias = record { stream = codes "S"; window = window; alias = alias }

abbrev named : List ℕ → Reference
named name = record { qualifier = None; name = name }

abbrev of : List ℕ → List ℕ → Reference
of source name = record { qualifier = Some source; name = name }

-- a column compared
abbrev test : List ℕ → Compare → WrittenOperand → WrittenCondition
test name how operand = Compared (Named (named name)) how operand

abbrev at : (ℕ → Fault) → ℕ → Result Query Fault
at fault place = Err (fault place)

now_window : reading (codes "Select Istream(*) From S [Now]")
    ≡ Ok (all Istream (from_S (Instants (Last 0)) None ∷ []) None)
unfolding reading all_ascii parsed scan token_at word_kind kind_in reserved same_letters same_bytes
    run count chosen pick firsts ends has first nullable alternatives kind_of in_range deepens took
    did decimal number_of
now_window = refl

nothing_between : reading (codes "sELECT rstream(*)FROM S[Range 007]as t;")
    ≡ Ok (all Rstream (from_S (Instants (Last 7)) (Some (codes "t")) ∷ []) None)
unfolding reading all_ascii parsed scan token_at word_kind kind_in reserved same_letters same_bytes
    run count chosen pick firsts ends has first nullable alternatives kind_of in_range deepens took
    did decimal number_of
nothing_between = refl

alias_first : reading (codes "Select Dstream(*) From S t [Range -0]")
    ≡ Ok (all Dstream (from_S (Instants (Last 0)) (Some (codes "t")) ∷ []) None)
unfolding reading all_ascii parsed scan token_at word_kind kind_in reserved same_letters same_bytes
    run count chosen pick firsts ends has first nullable alternatives kind_of in_range deepens took
    did decimal number_of
alias_first = refl

select_within : reading (codes "Rstream(Select * From S [Rows Unbounded], T [Rows 65536])")
    ≡ Ok (all Rstream (from_S unbounded None
    ∷ record { stream = codes "T"; window = Rows 65536; alias = None } ∷ []) None)
unfolding reading all_ascii parsed scan token_at word_kind kind_in reserved same_letters same_bytes
    run count chosen pick firsts ends has first nullable alternatives kind_of in_range deepens took
    did decimal number_of
select_within = refl

a_slide : reading (codes "Select Istream(*) From S [Range 1 Slide 2]")
    ≡ Ok (all Istream (from_S (Instants (Steps 1 2)) None ∷ []) None)
unfolding reading all_ascii parsed scan token_at word_kind kind_in reserved same_letters same_bytes
    run count chosen pick firsts ends has first nullable alternatives kind_of in_range deepens took
    did decimal number_of
a_slide = refl

four_sources : reading (codes "Select Istream(*) From S, S t, S [Now], S")
    ≡ Ok (all Istream (from_S unbounded None ∷ from_S unbounded (Some (codes "t"))
    ∷ from_S (Instants (Last 0)) None ∷ from_S unbounded None ∷ []) None)
unfolding reading all_ascii parsed scan token_at word_kind kind_in reserved same_letters same_bytes
    run count chosen pick firsts ends has first nullable alternatives kind_of in_range deepens took
    did decimal number_of
four_sources = refl

partitioned_by : reading (codes "Select Istream(*) From S [Partition By x.k, n Rows 1]")
    ≡ Ok (all Istream (from_S (Partition (of (codes "x") (codes "k") ∷ named (codes "n") ∷ []) 1)
    None ∷ []) None)
unfolding reading all_ascii parsed scan token_at word_kind kind_in reserved same_letters same_bytes
    run count chosen pick firsts ends has first nullable alternatives kind_of in_range deepens took
    did decimal number_of
partitioned_by = refl

a_list : reading (codes "Select Istream(Distinct k As j, Count(*), Sum(S.v)) From S Group By k, v")
    ≡ Ok (record {
      operator = Istream;
      is_distinct = true;
      entries = Each (Column (named (codes "k")) ∷ CountAll
          ∷ Of Sum (of (codes "S") (codes "v")) ∷ []);
      sources = from_S unbounded None ∷ [];
      condition = None;
      group = named (codes "k") ∷ named (codes "v") ∷ [];
    })
unfolding reading all_ascii parsed scan token_at word_kind kind_in reserved same_letters same_bytes
    run count chosen pick firsts ends has first nullable alternatives kind_of in_range deepens took
    did decimal number_of
a_list = refl

and_before_or : reading (codes "Select Istream(*) From S Where a = 1 Or b <> -2 And c != d")
    ≡ Ok (all Istream (from_S unbounded None ∷ [])
    (Some (Or (test (codes "a") Equals (Number (pos 1)))
    (And (test (codes "b") Differs (Number (negsuc 1)))
    (test (codes "c") Differs (Named (named (codes "d"))))))))
unfolding reading all_ascii parsed scan token_at word_kind kind_in reserved same_letters same_bytes
    run count chosen pick firsts ends has first nullable alternatives kind_of in_range deepens took
    did decimal number_of
and_before_or = refl

from_the_left : reading (codes
    "Select Istream(*) From S Where a < 1 And b <= 1 And Not (c > 1 Or d >= 1)")
    ≡ Ok (all Istream (from_S unbounded None ∷ [])
    (Some (And (And (test (codes "a") Below (Number (pos 1)))
    (test (codes "b") AtMost (Number (pos 1))))
    (Not (Or (test (codes "c") Above (Number (pos 1)))
    (test (codes "d") AtLeast (Number (pos 1))))))))
unfolding reading all_ascii parsed scan token_at word_kind kind_in reserved same_letters same_bytes
    run count chosen pick firsts ends has first nullable alternatives kind_of in_range deepens took
    did decimal number_of
from_the_left = refl

no_operator : reading (codes "Select * From S") ≡ at Unexpected 7
unfolding reading all_ascii parsed scan token_at word_kind kind_in reserved same_letters same_bytes
    run count chosen pick firsts ends has first nullable alternatives kind_of in_range deepens took
    did decimal number_of
no_operator = refl

below_the_range : reading (codes "Select Istream(*) From S [Range -1]") ≡ at NumberRange 32
unfolding reading all_ascii parsed scan token_at word_kind kind_in reserved same_letters same_bytes
    run count chosen pick firsts ends has first nullable alternatives kind_of in_range deepens took
    did decimal number_of
below_the_range = refl

too_early_an_end : reading (codes "Select Istream(*) From S [") ≡ at Unexpected 26
unfolding reading all_ascii parsed scan token_at word_kind kind_in reserved same_letters same_bytes
    run count chosen pick firsts ends has first nullable alternatives kind_of in_range deepens took
    did decimal number_of
too_early_an_end = refl

odd_byte : reading (codes "Select Istream(*) From S [Now] $ Where") ≡ at BadToken 31
unfolding reading all_ascii parsed scan token_at word_kind kind_in reserved same_letters same_bytes
    run count chosen pick firsts ends has first nullable alternatives kind_of in_range deepens took
    did decimal number_of
odd_byte = refl

a_fifth_source : reading (codes "Select Istream(*) From S, S, S, S, S") ≡ at Unexpected 33
unfolding reading all_ascii parsed scan token_at word_kind kind_in reserved same_letters same_bytes
    run count chosen pick firsts ends has first nullable alternatives kind_of in_range deepens took
    did decimal number_of
a_fifth_source = refl

no_step : reading (codes "Select Istream(*) From S [Range 5 Slide 0]") ≡ at NumberRange 40
unfolding reading all_ascii parsed scan token_at word_kind kind_in reserved same_letters same_bytes
    run count chosen pick firsts ends has first nullable alternatives kind_of in_range deepens took
    did decimal number_of
no_step = refl

rows_do_not_slide : reading (codes "Select Istream(*) From S [Rows 5 Slide 1]") ≡ at Unexpected 33
unfolding reading all_ascii parsed scan token_at word_kind kind_in reserved same_letters same_bytes
    run count chosen pick firsts ends has first nullable alternatives kind_of in_range deepens took
    did decimal number_of
rows_do_not_slide = refl

-- a condition in so many brackets
abbrev in_brackets : ℕ → List ℕ → List ℕ
in_brackets zero text = text
in_brackets (suc n) text = codes "(" ++ in_brackets n text ++ codes ")"

room_for_more : reading (codes "Select Istream(a) From S Where " ++ in_brackets 32 (codes "a > 0"))
    ≡ Ok (record {
      operator = Istream;
      is_distinct = false;
      entries = Each (Column (named (codes "a")) ∷ []);
      sources = from_S unbounded None ∷ [];
      condition = Some (test (codes "a") Above (Number (pos 0)));
      group = [];
    })
unfolding reading all_ascii parsed scan token_at word_kind kind_in reserved same_letters same_bytes
    run count chosen pick firsts ends has first nullable alternatives kind_of in_range deepens took
    did decimal number_of
room_for_more = refl

too_deep : reading (codes "Select Istream(a) From S Where (((((((((((((((((((((((((((((((((a > 0")
    ≡ at TooDeep 63
unfolding reading all_ascii parsed scan token_at word_kind kind_in reserved same_letters same_bytes
    run count chosen pick firsts ends has first nullable alternatives kind_of in_range deepens took
    did decimal number_of
too_deep = refl

names : is_name (codes "_room2") ≡ true
unfolding is_name all_word kind_in reserved same_letters same_bytes
names = refl

reserved_in_any_case : is_name (codes "sLIDE") ≡ false
unfolding is_name all_word kind_in reserved same_letters same_bytes
reserved_in_any_case = refl
