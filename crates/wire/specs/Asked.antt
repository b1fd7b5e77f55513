-- TO BELIEVE: the theorem rests on these definitions, and no proof can check them.
-- Which call a JSON value asks for, and none where it asks for none.
use Rattle.std.specs.Prelude.{ℕ, ℤ, List, [], ◌∷◌, Option, Some, None, option_map, option_and_then}
use Rattle.std.specs.Prelude.{codes, if◌then◌else◌, bytes_eq}
use Rattle.serde_json.specs.Data.{Data, null, boolean, number, string, array, object, Items}
use Rattle.serde_json.specs.Data.{no_items, item}
use Rattle.serde_json.specs.Find.{get, as_str, as_number, as_array, as_i64}
use Rattle.reference.specs.Looks.{peek_rows, show_plan, show_status}
use Rattle.wire.specs.Calls.{NewRow, Call, declare, register, append, heartbeat, drain, take_rows}
use Rattle.wire.specs.Calls.{drop_query, forget, look}

-- ---- the kinds of value

abbrev pub integer_of : Data → Option ℤ
integer_of d = option_and_then as_i64 (as_number d)

-- null or a number
abbrev pub value_of : Data → Option (Option ℤ)
value_of null = Some None
value_of (boolean b) = None
value_of (number n) = option_map Some (as_i64 n)
value_of (string s) = None
value_of (array ds) = None
value_of (object ms) = None

-- what f gives for each item, if it gives something for each
abbrev pub each : {A : Type 0} → (Data → Option A) → Items → Option (List A)
each f no_items = Some []
each f (item d ds) = option_and_then (λ a. option_map (λ rest. a ∷ rest) (each f ds)) (f d)

-- a row of an append: its instant, then its values
abbrev pub row_from : Items → Option NewRow
row_from no_items = None
row_from (item d ds) = option_and_then
    (λ at. option_map (λ values. (at, values)) (each value_of ds)) (integer_of d)

abbrev pub row_in : Data → Option NewRow
row_in d = option_and_then row_from (as_array d)

-- a cost and a size
abbrev pub pair_from : Items → Option (ℤ × ℤ)
pair_from (item d (item e no_items)) =
    option_and_then (λ cost. option_map (λ size. (cost, size)) (integer_of e)) (integer_of d)
pair_from _ = None

abbrev pub pair_in : Data → Option (ℤ × ℤ)
pair_in d = option_and_then pair_from (as_array d)

-- what a chart gives for each operator; where the key is missing, nothing
abbrev pub chart_from : Option Data → Option (Option (List (ℤ × ℤ)))
chart_from None = Some None
chart_from (Some d) = option_map Some (option_and_then (each pair_in) (as_array d))

-- ---- the values of keys

abbrev pub text_at : List ℕ → Data → Option (List ℕ)
text_at key d = option_and_then as_str (get key d)

abbrev pub integer_at : List ℕ → Data → Option ℤ
integer_at key d = option_and_then integer_of (get key d)

abbrev pub list_at : List ℕ → Data → Option Items
list_at key d = option_and_then as_array (get key d)

abbrev pub each_at : {A : Type 0} → (Data → Option A) → List ℕ → Data → Option (List A)
each_at f key d = option_and_then (each f) (list_at key d)

-- ---- the requests, each with the keys of its own operation; other keys are ignored

unfoldable pub declare_in : Data → Option Call
declare_in d = option_and_then
    (λ name. option_and_then (λ columns. option_map (λ start. declare name columns start)
    (integer_at (codes "from") d)) (each_at as_str (codes "columns") d)) (text_at (codes "name") d)

unfoldable pub register_in : Data → Option Call
register_in d = option_and_then
    (λ name. option_and_then (λ text. option_map (λ chart. register name text chart)
    (chart_from (get (codes "chart") d))) (text_at (codes "text") d)) (text_at (codes "name") d)

unfoldable pub append_in : Data → Option Call
append_in d = option_and_then (λ stream. option_map (λ rows. append stream rows)
    (each_at row_in (codes "rows") d)) (text_at (codes "stream") d)

unfoldable pub heartbeat_in : Data → Option Call
heartbeat_in d = option_and_then (λ stream. option_map (λ at. heartbeat stream at)
    (integer_at (codes "at") d)) (text_at (codes "stream") d)

unfoldable pub take_in : Data → Option Call
take_in d = option_and_then (λ query. option_map (λ limit. take_rows query limit)
    (integer_at (codes "limit") d)) (text_at (codes "query") d)

unfoldable pub peek_in : Data → Option Call
peek_in d = option_and_then (λ query. option_map (λ limit. look (peek_rows query limit))
    (integer_at (codes "limit") d)) (text_at (codes "query") d)

unfoldable pub drop_query_in : Data → Option Call
drop_query_in d = option_map drop_query (text_at (codes "query") d)

unfoldable pub plan_in : Data → Option Call
plan_in d = option_map (λ query. look (show_plan query)) (text_at (codes "query") d)

unfoldable pub asked_by : List ℕ → Data → Option Call
asked_by op d =
    if bytes_eq op (codes "stream") then declare_in d else (
    if bytes_eq op (codes "query") then register_in d else (
    if bytes_eq op (codes "append") then append_in d else (
    if bytes_eq op (codes "heartbeat") then heartbeat_in d else (
    if bytes_eq op (codes "drain") then Some drain else (
    if bytes_eq op (codes "take") then take_in d else (
    if bytes_eq op (codes "drop") then drop_query_in d else (
    if bytes_eq op (codes "forget") then Some forget else (
    if bytes_eq op (codes "plan") then plan_in d else (
    if bytes_eq op (codes "peek") then peek_in d else (
    if bytes_eq op (codes "status") then Some (look show_status) else None))))))))))

-- the call, or none where the value is no request
unfoldable pub asked : Data → Option Call
asked d = option_and_then (λ op. asked_by op d) (text_at (codes "op") d)
