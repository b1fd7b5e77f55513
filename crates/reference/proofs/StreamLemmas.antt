-- What the tests of an append let through, and what it makes of a stream.
use Rattle.std.proofs.Common.{◌≡◌, ◌≤◌, ◌+◌, ℕ, ℤ, Bool, true, false, not, ◌||◌, ◌==◌, Option, None, Some, List, [], ◌∷◌, ◌++◌, length, refl, ap, ◌∙◌, pos, int_lt, nat_lt}
use Rattle.std.specs.List.{list_any, list_all}
use Rattle.std.proofs.lemmas.Bool.{ltb-false}
use Rattle.reference.specs.declared.fault.Fault.{Fault}
use Rattle.reference.specs.declared.limits.TheConstants.{MAX_APPENDED, MAX_STREAM_ROWS}
use Rattle.reference.specs.declared.fault.Fault.TheVariants.{TooMany, BadWidth, ValueRange, InstantRange, Late, StreamFull}
use Rattle.names.specs.Faults.{first_of}
use Rattle.reference.specs.Machine.{Registered, Stream}
use Rattle.reference.specs.Commands.{append_tests, crowd_tests, is_crowded, is_stream_value, is_instant, of_stream, rows_tests}

-- where no test fails, the first does not, and none of the others
pub none_first : (b : Bool) (fault : Fault) (tests : List (Bool × Fault)) → first_of ((b, fault) ∷ tests) ≡ None → b ≡ false
none_first true fault tests h = cc
none_first false fault tests h = refl

pub none_later : (b : Bool) (fault : Fault) (tests : List (Bool × Fault)) → first_of ((b, fault) ∷ tests) ≡ None → first_of tests ≡ None
none_later true fault tests h = cc
none_later false fault tests h = h

-- of tests one behind the other
pub first_part : (tests more : List (Bool × Fault)) → first_of (tests ++ more) ≡ None → first_of tests ≡ None
first_part [] more h = refl
first_part ((true, fault) ∷ tests) more h = cc
first_part ((false, fault) ∷ tests) more h = first_part tests more h

pub last_part : (tests more : List (Bool × Fault)) → first_of (tests ++ more) ≡ None → first_of more ≡ None
last_part [] more h = h
last_part ((true, fault) ∷ tests) more h = cc
last_part ((false, fault) ∷ tests) more h = last_part tests more h

pub stopped_there : (tests more : List (Bool × Fault)) (f : Fault) → Some f ≡ first_of tests → Some f ≡ first_of (tests ++ more)
stopped_there [] more f h = cc
stopped_there ((true, fault) ∷ tests) more f h = h
stopped_there ((false, fault) ∷ tests) more f h = stopped_there tests more f h

pub passed_there : (tests more : List (Bool × Fault)) → None ≡ first_of tests → first_of more ≡ first_of (tests ++ more)
passed_there [] more h = refl
passed_there ((true, fault) ∷ tests) more h = cc
passed_there ((false, fault) ∷ tests) more h = passed_there tests more h

-- the tests of rows, one part behind the other
pub refused_rows : (queries : List Registered) (n : ℕ) (rows : List (ℤ × List (Option ℤ))) (s : Stream) (f : Fault) → Some f ≡ first_of (append_tests s rows) → Some f ≡ first_of (rows_tests queries n rows s)
refused_rows queries n rows s f h = stopped_there (append_tests s rows) (crowd_tests queries n (s.arrivals + length rows)) f h

pub passed_rows : (queries : List Registered) (n k : ℕ) (rows : List (ℤ × List (Option ℤ))) (s : Stream) (b : Bool) (o : Option Fault) → None ≡ first_of (append_tests s rows) → k ≡ s.arrivals + length rows
    → b ≡ list_any (is_crowded n k) queries → o ≡ first_of ((b, StreamFull) ∷ []) → o ≡ first_of (rows_tests queries n rows s)
passed_rows queries n k rows s b o h many is e =
    e
    ∙ ap (λ (c : Bool). first_of ((c, StreamFull) ∷ [])) (is ∙ ap (λ (m : ℕ). list_any (is_crowded n m) queries) many)
    ∙ passed_there (append_tests s rows) (crowd_tests queries n (s.arrivals + length rows)) h

-- an append that no test refuses is not refused by those of the stream alone
pub alone : (queries : List Registered) (n : ℕ) (rows : List (ℤ × List (Option ℤ))) (o : Option Stream) → of_stream (rows_tests queries n rows) o ≡ None
    → of_stream (λ s. append_tests s rows) o ≡ None
alone queries n rows None h = cc
alone queries n rows (Some s) h = first_part (append_tests s rows) (crowd_tests queries n (s.arrivals + length rows)) h

-- nor does it crowd a query
pub uncrowded : (queries : List Registered) (n : ℕ) (rows : List (ℤ × List (Option ℤ))) (s : Stream) → first_of (rows_tests queries n rows s) ≡ None
    → list_any (is_crowded n (s.arrivals + length rows)) queries ≡ false
uncrowded queries n rows s h =
    let last : first_of (crowd_tests queries n (s.arrivals + length rows)) ≡ None = last_part (append_tests s rows) (crowd_tests queries n (s.arrivals + length rows)) h in
    none_first (list_any (is_crowded n (s.arrivals + length rows)) queries) StreamFull [] last

pub or_left : (a b : Bool) → (a || b) ≡ false → a ≡ false
or_left true b h = h
or_left false b h = refl

pub or_right : (a b : Bool) → (a || b) ≡ false → b ≡ false
or_right true b h = cc
or_right false b h = h

pub not_false : (b : Bool) → not b ≡ false → b ≡ true
not_false true h = refl
not_false false h = cc

middle : (a b c d e f : Bool) (one two three four five six : Fault)
    → first_of ((a, one) ∷ (b, two) ∷ (c, three) ∷ (d, four) ∷ (e, five) ∷ (f, six) ∷ []) ≡ None → (b ≡ false) × (c ≡ false) × (d ≡ false)
middle a b c d e f one two three four five six h =
    let rest = none_later a one ((b, two) ∷ (c, three) ∷ (d, four) ∷ (e, five) ∷ (f, six) ∷ []) h in
    let more = none_later b two ((c, three) ∷ (d, four) ∷ (e, five) ∷ (f, six) ∷ []) rest in
    let last = none_later c three ((d, four) ∷ (e, five) ∷ (f, six) ∷ []) more in (
      none_first b two ((c, three) ∷ (d, four) ∷ (e, five) ∷ (f, six) ∷ []) rest,
      none_first c three ((d, four) ∷ (e, five) ∷ (f, six) ∷ []) more,
      none_first d four ((e, five) ∷ (f, six) ∷ []) last,
    )

last : (a b c d e f : Bool) (one two three four five six : Fault)
    → first_of ((a, one) ∷ (b, two) ∷ (c, three) ∷ (d, four) ∷ (e, five) ∷ (f, six) ∷ []) ≡ None → f ≡ false
last a b c d e f one two three four five six h =
    let second = none_later a one ((b, two) ∷ (c, three) ∷ (d, four) ∷ (e, five) ∷ (f, six) ∷ []) h in
    let third = none_later b two ((c, three) ∷ (d, four) ∷ (e, five) ∷ (f, six) ∷ []) second in
    let fourth = none_later c three ((d, four) ∷ (e, five) ∷ (f, six) ∷ []) third in
    let fifth = none_later d four ((e, five) ∷ (f, six) ∷ []) fourth in
    none_first f six [] (none_later e five ((f, six) ∷ []) fifth)

-- what an accepted append says of its rows, test by test
pub accepted_each : (s : Stream) (rows : List (ℤ × List (Option ℤ))) → first_of (append_tests s rows) ≡ None
    → (list_any (λ r. not (length r.1 == length s.columns)) rows ≡ false)
    × (list_any (λ r. not (list_all is_stream_value r.1)) rows ≡ false)
    × (list_any (λ r. not (is_instant r.0)) rows ≡ false)
    × (s.arrivals + length rows ≤ 1073741824)
accepted_each s rows h =
    let tests = middle (nat_lt MAX_APPENDED (length rows)) (list_any (λ r. not (length r.1 == length s.columns)) rows)
    (list_any (λ r. not (list_all is_stream_value r.1)) rows) (list_any (λ r. not (is_instant r.0)) rows)
    (list_any (λ r. int_lt r.0 (pos s.first_open)) rows) (nat_lt MAX_STREAM_ROWS (s.arrivals + length rows))
    TooMany BadWidth ValueRange InstantRange Late StreamFull h in
    let full = last (nat_lt MAX_APPENDED (length rows)) (list_any (λ r. not (length r.1 == length s.columns)) rows)
    (list_any (λ r. not (list_all is_stream_value r.1)) rows) (list_any (λ r. not (is_instant r.0)) rows)
    (list_any (λ r. int_lt r.0 (pos s.first_open)) rows) (nat_lt MAX_STREAM_ROWS (s.arrivals + length rows))
    TooMany BadWidth ValueRange InstantRange Late StreamFull h in
    (tests.0, tests.1, tests.2, ltb-false MAX_STREAM_ROWS (s.arrivals + length rows) full)
