-- The lines of the usual requests are read as the requests that they write.
use Rattle.std.proofs.Common.{◌≡◌, ℕ, ℤ, pos, negsuc, ◌^◌, ◌≤◌, true, false, cond, List, [], ◌∷◌, ◌++◌, Option, Some, None, option_map, option_and_then, Ok, codes, refl, sym, ap, ap₂, ◌∙◌, arith, append_assoc, append-nil, lt-ltb}
use Rattle.std.specs.List.{AllByRecursion}
use Rattle.std.specs.Fmt.{signed_decimal}
use Rattle.std.specs.Option.{ok_or}
use Rattle.std.specs.Str.{IsUtf8}
use Rattle.std.proofs.lemmas.Str.{IsUtf8-append, IsUtf8-nil, IsUtf8-from_ascii, is_utf8-from_IsUtf8}
use Rattle.std.proofs.lemmas.Fmt.{IsAscii-signed}
use Rattle.json.specs.Token.{Token}
use Rattle.json.specs.Lex.{tokens}
use Rattle.json.specs.Json as json
use Rattle.json.specs.Print.{print, print_from, escape, escape_byte, IsNumber}
use Rattle.json.specs.Tree as tree
use Rattle.json.specs.Tree.{json_tokens, items_tokens}
use Rattle.json.proofs.Printed.Strings.{escape_byte_plain}
use Rattle.json.proofs.Printed.Decimals.{IsNumber-signed_decimal}
use Rattle.json.proofs.Printed.Tokens.{tokens-print}
use Rattle.json.proofs.Printed.Trees.{value-json_tokens, ArePrintable-json_tokens}
use Rattle.json.proofs.Printed.Utf8.{are_ascii, IsUtf8-are_ascii}
use Rattle.serde_json.specs.Data as value
use Rattle.serde_json.specs.Find.{as_i64, of_integer}
use Rattle.serde_json.specs.Read.{number_of, of_json, of_items, max_depth, read}
use Rattle.serde_json.proofs.Numbers.{number_of-decimal, number_of-negative}
use Rattle.reference.specs.Looks.{peek_rows}
use Rattle.wire.specs.Calls.{NewRow, Call, append, heartbeat, take_rows, look, drain}
use Rattle.wire.specs.Asked.{each, value_of, row_in, asked, asked_by, append_in, heartbeat_in, take_in, peek_in}
use Rattle.wire.specs.Printed.{value_text, after_commas, row_text, rows_text}
use Rattle.wire.specs.Requests.{json_of, call_in}
use Rattle.wire.specs.declared.request.WireFault.TheVariants.{BadRequest}
use Rattle.wire.specs.Usual.{IsShort, ValueIsShort, RowIsShort, IsPlain, append_line, heartbeat_line, take_line, peek_line}

-- ---- the values of JSON that the line writes

abbrev value_json : Option ℤ → json.Json
value_json None = json.null
value_json (Some z) = json.number (signed_decimal z)

abbrev values_json : List (Option ℤ) → json.Items
values_json [] = json.no_items
values_json (v ∷ vs) = json.item (value_json v) (values_json vs)

abbrev row_json : NewRow → json.Json
row_json row = json.array (json.item (json.number (signed_decimal row.0)) (values_json row.1))

abbrev rows_json : List NewRow → json.Items
rows_json [] = json.no_items
rows_json (row ∷ rows) = json.item (row_json row) (rows_json rows)

abbrev append_json : List ℕ → List NewRow → json.Json
append_json name rows =
    json.object (json.member (codes "op") (json.string (codes "append")) (json.member (codes "stream") (json.string name)
    (json.member (codes "rows") (json.array (rows_json rows)) json.no_members)))

-- ---- what is printed of their tokens

print_values : (vs : List (Option ℤ)) (ts : List Token) → print_from true (items_tokens (values_json vs) ++ ts) ≡ after_commas value_text vs ++ 93 ∷ print_from true ts
unfolding print_from value_text
print_values [] ts = refl
print_values (None ∷ vs) ts = ap (λ s. 44 ∷ 110 ∷ 117 ∷ 108 ∷ 108 ∷ s) (print_values vs ts)
print_values (Some z ∷ vs) ts =
    ap (λ s. 44 ∷ (signed_decimal z ++ s)) (print_values vs ts) ∙ ap (λ s. 44 ∷ s) (sym (append_assoc (signed_decimal z) (after_commas value_text vs) (93 ∷ print_from true ts)))

-- in front of more text
row_before : (at values rest : List ℕ) → 91 ∷ (at ++ (values ++ 93 ∷ rest)) ≡ (91 ∷ (at ++ values ++ 93 ∷ [])) ++ rest
row_before at values rest = ap (λ s. 91 ∷ s) (simp append_assoc)

print_row : (row : NewRow) (ts : List Token) → print_from false (json_tokens (row_json row) ++ ts) ≡ row_text row ++ print_from true ts
unfolding print_from row_text
print_row row ts =
    ap (λ s. 91 ∷ (signed_decimal row.0 ++ s)) (print_values row.1 ts) ∙ row_before (signed_decimal row.0) (after_commas value_text row.1) (print_from true ts)

print_row_later : (row : NewRow) (ts : List Token) → print_from true (json_tokens (row_json row) ++ ts) ≡ 44 ∷ (row_text row ++ print_from true ts)
unfolding print_from
print_row_later row ts = ap (λ s. 44 ∷ s) (print_row row ts)

print_rows : (rows : List NewRow) (ts : List Token) → print_from true (items_tokens (rows_json rows) ++ ts) ≡ after_commas row_text rows ++ 93 ∷ print_from true ts
unfolding print_from
print_rows [] ts = refl
print_rows (row ∷ rows) ts =
    ap (print_from true) (append_assoc (json_tokens (row_json row)) (items_tokens (rows_json rows)) ts)
    ∙ print_row_later row (items_tokens (rows_json rows) ++ ts)
    ∙ ap (λ s. 44 ∷ (row_text row ++ s)) (print_rows rows ts)
    ∙ ap (λ s. 44 ∷ s) (sym (append_assoc (row_text row) (after_commas row_text rows) (93 ∷ print_from true ts)))

print_all_rows : (rows : List NewRow) (ts : List Token) → print_from false (items_tokens (rows_json rows) ++ ts) ≡ rows_text rows ++ 93 ∷ print_from true ts
unfolding print_from rows_text
print_all_rows [] ts = refl
print_all_rows (row ∷ rows) ts =
    ap (print_from false) (append_assoc (json_tokens (row_json row)) (items_tokens (rows_json rows)) ts)
    ∙ print_row row (items_tokens (rows_json rows) ++ ts)
    ∙ ap (λ s. row_text row ++ s) (print_rows rows ts)
    ∙ sym (append_assoc (row_text row) (after_commas row_text rows) (93 ∷ print_from true ts))

line_around : (name rows : List ℕ) → (name ++ 34 ∷ []) ++ (codes ",\"rows\":[" ++ (rows ++ codes "]}")) ≡ name ++ codes "\",\"rows\":[" ++ rows ++ codes "]}"
line_around name rows = simp append_assoc

print_append : (name : List ℕ) (rows : List NewRow) → escape name ≡ name → print (json_tokens (append_json name rows)) ≡ append_line name rows
unfolding print_from escape_byte
print_append name rows plain =
    ap (λ s. codes "{\"op\":\"append\",\"stream\":\"" ++ s)
    (ap₂ (λ n r. (n ++ 34 ∷ []) ++ (codes ",\"rows\":[" ++ r)) plain (print_all_rows rows (Token.end_object ∷ [])) ∙ line_around name (rows_text rows))

pub escape_plain : (name : List ℕ) → AllByRecursion IsPlain name → escape name ≡ name
escape_plain [] h = refl
escape_plain (x ∷ name) h = ap₂ (λ (a b : List ℕ). a ++ b) (escape_byte_plain x h.0.0 h.0.1 h.0.2) (escape_plain name h.1)

-- ---- they are read

number_short : (z : ℤ) → IsShort z → IsNumber (signed_decimal z)
number_short (pos n) h = IsNumber-signed_decimal (pos n) (omega arith)
number_short (negsuc n) h = IsNumber-signed_decimal (negsuc n) (omega arith)

numbers_values : (vs : List (Option ℤ)) → AllByRecursion ValueIsShort vs → tree.ItemsHaveNumbers (values_json vs)
numbers_values [] h = tt
numbers_values (None ∷ vs) h = (tt, numbers_values vs h.1)
numbers_values (Some z ∷ vs) h = (number_short z h.0, numbers_values vs h.1)

numbers_rows : (rows : List NewRow) → AllByRecursion RowIsShort rows → tree.ItemsHaveNumbers (rows_json rows)
numbers_rows [] h = tt
numbers_rows (row ∷ rows) h = ((number_short row.0 h.0.0, numbers_values row.1 h.0.1), numbers_rows rows h.1)

depth_values : (vs : List (Option ℤ)) → tree.items_depth (values_json vs) ≤ 0
depth_values [] = omega arith
depth_values (None ∷ vs) = omega (arith, depth_values vs)
depth_values (Some z ∷ vs) = omega (arith, depth_values vs)

depth_rows : (rows : List NewRow) → tree.items_depth (rows_json rows) ≤ 1
depth_rows [] = omega arith
depth_rows (row ∷ rows) = omega (arith, depth_values row.1, depth_rows rows)

-- ---- the data that they are

abbrev value_data : Option ℤ → value.Data
value_data None = value.null
value_data (Some z) = value.number (of_integer z)

abbrev values_data : List (Option ℤ) → value.Items
values_data [] = value.no_items
values_data (v ∷ vs) = value.item (value_data v) (values_data vs)

abbrev row_data : NewRow → value.Data
row_data row = value.array (value.item (value.number (of_integer row.0)) (values_data row.1))

abbrev rows_data : List NewRow → value.Items
rows_data [] = value.no_items
rows_data (row ∷ rows) = value.item (row_data row) (rows_data rows)

abbrev append_data : List ℕ → List NewRow → value.Data
append_data name rows =
    value.object (value.put (codes "rows") (value.array (rows_data rows)) (value.put (codes "stream") (value.string name)
    (value.put (codes "op") (value.string (codes "append")) value.no_members)))

number_of_short : (z : ℤ) → IsShort z → number_of (signed_decimal z) ≡ Some (of_integer z)
number_of_short (pos n) h = number_of-decimal n (omega arith)
number_of_short (negsuc n) h = number_of-negative n (omega arith)

of_values : (vs : List (Option ℤ)) → AllByRecursion ValueIsShort vs → of_items (values_json vs) ≡ Some (values_data vs)
of_values [] h = refl
of_values (None ∷ vs) h = ap (option_map (value.item value.null)) (of_values vs h.1)
of_values (Some z ∷ vs) h = rw (number_of_short z h.0, of_values vs h.1) refl

of_row : (row : NewRow) → RowIsShort row → of_json (row_json row) ≡ Some (row_data row)
of_row row h = rw (number_of_short row.0 h.0, of_values row.1 h.1) refl

of_rows : (rows : List NewRow) → AllByRecursion RowIsShort rows → of_items (rows_json rows) ≡ Some (rows_data rows)
of_rows [] h = refl
of_rows (row ∷ rows) h =
    ap (λ o. option_and_then (λ d. option_map (value.item d) (of_items (rows_json rows))) o) (of_row row h.0)
    ∙ ap (option_map (value.item (row_data row))) (of_rows rows h.1)

of_append : (name : List ℕ) (rows : List NewRow) → AllByRecursion RowIsShort rows → of_json (append_json name rows) ≡ Some (append_data name rows)
of_append name rows h = rw (of_rows rows h) refl

-- ---- and the call that it asks for

integer_short : (z : ℤ) → IsShort z → as_i64 (of_integer z) ≡ Some z
integer_short (pos n) h = rw (lt-ltb n (2 ^ 63) (omega arith)) refl
integer_short (negsuc n) h = refl

each_value : (vs : List (Option ℤ)) → AllByRecursion ValueIsShort vs → each value_of (values_data vs) ≡ Some vs
each_value [] h = refl
each_value (None ∷ vs) h = rw (each_value vs h.1) refl
each_value (Some z ∷ vs) h = rw (integer_short z h.0, each_value vs h.1) refl

row_read : (row : NewRow) → RowIsShort row → row_in (row_data row) ≡ Some row
row_read row h = rw (integer_short row.0 h.0, each_value row.1 h.1) refl

each_row : (rows : List NewRow) → AllByRecursion RowIsShort rows → each row_in (rows_data rows) ≡ Some rows
each_row [] h = refl
each_row (row ∷ rows) h =
    ap (λ o. option_and_then (λ r. option_map (λ more. r ∷ more) (each row_in (rows_data rows))) o) (row_read row h.0)
    ∙ ap (option_map (λ more. row ∷ more)) (each_row rows h.1)

asked_append : (name : List ℕ) (rows : List NewRow) → AllByRecursion RowIsShort rows → asked (append_data name rows) ≡ Some (append name rows)
unfolding asked asked_by append_in
asked_append name rows h = ap (option_map (append name)) (each_row rows h)

-- ---- the whole line

-- a text that is printed of a value is read as it
read_printed : (text : List ℕ) (j : json.Json) (d : value.Data) → print (json_tokens j) ≡ text → tree.HasNumbers j → tree.depth j ≤ max_depth → of_json j ≡ Some d → read text ≡ Some d
read_printed text j d printed numbers shallow is =
    let found : tokens text ≡ json_tokens j = ap tokens (sym printed) ∙ tokens-print (json_tokens j) (ArePrintable-json_tokens j numbers) in
    let whole : json.value max_depth (tokens text) ≡ Some (j, []) =
    ap (json.value max_depth) (found ∙ sym (append-nil (json_tokens j))) ∙ value-json_tokens j max_depth [] shallow in
    ap (λ o. option_and_then of_json (option_and_then (λ p. json.if_last p.0 p.1) o)) whole ∙ is

-- a line that is read as a value, and the call that the value asks for
call_is_read : (line text : List ℕ) (d : value.Data) (call : Call) → line ≡ text → IsUtf8 text → read text ≡ Some d → asked d ≡ Some call → call_in (json_of line) ≡ Ok call
call_is_read line text d call is known found asks =
    ap (λ t. call_in (json_of t)) is ∙ ap (λ t. call_in (cond t (read text) None)) (is_utf8-from_IsUtf8 text known)
    ∙ ap call_in found ∙ ap (λ o. ok_or o BadRequest) asks

utf8_number : (z : ℤ) → IsShort z → IsUtf8 (signed_decimal z)
utf8_number (pos n) h = IsUtf8-from_ascii (signed_decimal (pos n)) (IsAscii-signed (pos n) (omega arith))
utf8_number (negsuc n) h = IsUtf8-from_ascii (signed_decimal (negsuc n)) (IsAscii-signed (negsuc n) (omega arith))

comma : IsUtf8 (codes ",")
comma = IsUtf8-are_ascii (codes ",") refl

utf8_value : (v : Option ℤ) → ValueIsShort v → IsUtf8 (value_text v)
unfolding value_text
utf8_value None h = IsUtf8-are_ascii (codes "null") refl
utf8_value (Some z) h = utf8_number z h

utf8_values : (vs : List (Option ℤ)) → AllByRecursion ValueIsShort vs → IsUtf8 (after_commas value_text vs)
utf8_values [] h = IsUtf8-nil
utf8_values (v ∷ vs) h = IsUtf8-append (codes "," ++ value_text v) _ (IsUtf8-append (codes ",") _ comma (utf8_value v h.0)) (utf8_values vs h.1)

utf8_row : (row : NewRow) → RowIsShort row → IsUtf8 (row_text row)
unfolding row_text
utf8_row row h =
    let at = IsUtf8-append (codes "[") (signed_decimal row.0) (IsUtf8-are_ascii (codes "[") refl) (utf8_number row.0 h.0) in
    IsUtf8-append _ (codes "]") (IsUtf8-append _ (after_commas value_text row.1) at (utf8_values row.1 h.1)) (IsUtf8-are_ascii (codes "]") refl)

utf8_rows_later : (rows : List NewRow) → AllByRecursion RowIsShort rows → IsUtf8 (after_commas row_text rows)
utf8_rows_later [] h = IsUtf8-nil
utf8_rows_later (row ∷ rows) h = IsUtf8-append (codes "," ++ row_text row) _ (IsUtf8-append (codes ",") _ comma (utf8_row row h.0)) (utf8_rows_later rows h.1)

utf8_rows : (rows : List NewRow) → AllByRecursion RowIsShort rows → IsUtf8 (rows_text rows)
unfolding rows_text
utf8_rows [] h = IsUtf8-nil
utf8_rows (row ∷ rows) h = IsUtf8-append (row_text row) _ (utf8_row row h.0) (utf8_rows_later rows h.1)

utf8_append : (name : List ℕ) (rows : List NewRow) → IsUtf8 name → AllByRecursion RowIsShort rows → IsUtf8 (append_line name rows)
utf8_append name rows known short =
    let front = codes "{\"op\":\"append\",\"stream\":\"" in
    let middle = codes "\",\"rows\":[" in
    let named = IsUtf8-append front name (IsUtf8-are_ascii front refl) known in
    let begun = IsUtf8-append (front ++ name) middle named (IsUtf8-are_ascii middle refl) in
    IsUtf8-append (front ++ name ++ middle ++ rows_text rows) (codes "]}")
    (IsUtf8-append (front ++ name ++ middle) (rows_text rows) begun (utf8_rows rows short)) (IsUtf8-are_ascii (codes "]}") refl)

pub append_is_read : (line name : List ℕ) (rows : List NewRow) → line ≡ append_line name rows → IsUtf8 name → AllByRecursion IsPlain name → AllByRecursion RowIsShort rows
    → call_in (json_of line) ≡ Ok (append name rows)
append_is_read line name rows is known plain short =
    let found = read_printed (append_line name rows) (append_json name rows) (append_data name rows) (print_append name rows (escape_plain name plain))
    (tt, (tt, (numbers_rows rows short, tt))) (omega (arith, depth_rows rows)) (of_append name rows short) in
    call_is_read line (append_line name rows) (append_data name rows) (append name rows) is (utf8_append name rows known short) found (asked_append name rows short)

-- ---- heartbeats

abbrev heartbeat_json : List ℕ → ℤ → json.Json
heartbeat_json name at =
    json.object (json.member (codes "op") (json.string (codes "heartbeat")) (json.member (codes "stream") (json.string name)
    (json.member (codes "at") (json.number (signed_decimal at)) json.no_members)))

abbrev heartbeat_data : List ℕ → ℤ → value.Data
heartbeat_data name at =
    value.object (value.put (codes "at") (value.number (of_integer at)) (value.put (codes "stream") (value.string name)
    (value.put (codes "op") (value.string (codes "heartbeat")) value.no_members)))

heartbeat_around : (name at : List ℕ) → (name ++ 34 ∷ []) ++ (codes ",\"at\":" ++ (at ++ codes "}")) ≡ name ++ codes "\",\"at\":" ++ at ++ codes "}"
heartbeat_around name at = simp append_assoc

print_heartbeat : (name : List ℕ) (at : ℤ) → escape name ≡ name → print (json_tokens (heartbeat_json name at)) ≡ heartbeat_line name at
unfolding print_from escape_byte
print_heartbeat name at plain =
    ap (λ s. codes "{\"op\":\"heartbeat\",\"stream\":\"" ++ s)
    (ap (λ n. (n ++ 34 ∷ []) ++ (codes ",\"at\":" ++ (signed_decimal at ++ codes "}"))) plain ∙ heartbeat_around name (signed_decimal at))

of_heartbeat : (name : List ℕ) (at : ℤ) → IsShort at → of_json (heartbeat_json name at) ≡ Some (heartbeat_data name at)
of_heartbeat name at short = rw (number_of_short at short) refl

asked_heartbeat : (name : List ℕ) (at : ℤ) → IsShort at → asked (heartbeat_data name at) ≡ Some (heartbeat name at)
unfolding asked asked_by heartbeat_in
asked_heartbeat name at short = ap (option_map (heartbeat name)) (integer_short at short)

utf8_named : (front name middle : List ℕ) (z : ℤ) → are_ascii front ≡ true → IsUtf8 name → are_ascii middle ≡ true → IsShort z
    → IsUtf8 (front ++ name ++ middle ++ signed_decimal z ++ codes "}")
utf8_named front name middle z first known second short =
    let named = IsUtf8-append front name (IsUtf8-are_ascii front first) known in
    let begun = IsUtf8-append (front ++ name) middle named (IsUtf8-are_ascii middle second) in
    IsUtf8-append (front ++ name ++ middle ++ signed_decimal z) (codes "}")
    (IsUtf8-append (front ++ name ++ middle) (signed_decimal z) begun (utf8_number z short)) (IsUtf8-are_ascii (codes "}") refl)

pub heartbeat_is_read : (line name : List ℕ) (at : ℤ) → line ≡ heartbeat_line name at → IsUtf8 name → AllByRecursion IsPlain name → IsShort at
    → call_in (json_of line) ≡ Ok (heartbeat name at)
heartbeat_is_read line name at is known plain short =
    let found = read_printed (heartbeat_line name at) (heartbeat_json name at) (heartbeat_data name at) (print_heartbeat name at (escape_plain name plain))
    (tt, (tt, (number_short at short, tt))) (omega arith) (of_heartbeat name at short) in
    let text = utf8_named (codes "{\"op\":\"heartbeat\",\"stream\":\"") name (codes "\",\"at\":") at refl known refl short in
    call_is_read line (heartbeat_line name at) (heartbeat_data name at) (heartbeat name at) is text found (asked_heartbeat name at short)

-- ---- takes

abbrev take_json : List ℕ → ℤ → json.Json
take_json name limit =
    json.object (json.member (codes "op") (json.string (codes "take")) (json.member (codes "query") (json.string name)
    (json.member (codes "limit") (json.number (signed_decimal limit)) json.no_members)))

abbrev take_data : List ℕ → ℤ → value.Data
take_data name limit =
    value.object (value.put (codes "limit") (value.number (of_integer limit)) (value.put (codes "query") (value.string name)
    (value.put (codes "op") (value.string (codes "take")) value.no_members)))

take_around : (name limit : List ℕ) → (name ++ 34 ∷ []) ++ (codes ",\"limit\":" ++ (limit ++ codes "}")) ≡ name ++ codes "\",\"limit\":" ++ limit ++ codes "}"
take_around name limit = simp append_assoc

print_take : (name : List ℕ) (limit : ℤ) → escape name ≡ name → print (json_tokens (take_json name limit)) ≡ take_line name limit
unfolding print_from escape_byte
print_take name limit plain =
    ap (λ s. codes "{\"op\":\"take\",\"query\":\"" ++ s)
    (ap (λ n. (n ++ 34 ∷ []) ++ (codes ",\"limit\":" ++ (signed_decimal limit ++ codes "}"))) plain ∙ take_around name (signed_decimal limit))

of_take : (name : List ℕ) (limit : ℤ) → IsShort limit → of_json (take_json name limit) ≡ Some (take_data name limit)
of_take name limit short = rw (number_of_short limit short) refl

asked_take : (name : List ℕ) (limit : ℤ) → IsShort limit → asked (take_data name limit) ≡ Some (take_rows name limit)
unfolding asked asked_by take_in
asked_take name limit short = ap (option_map (take_rows name)) (integer_short limit short)

pub take_is_read : (line name : List ℕ) (limit : ℤ) → line ≡ take_line name limit → IsUtf8 name → AllByRecursion IsPlain name → IsShort limit
    → call_in (json_of line) ≡ Ok (take_rows name limit)
take_is_read line name limit is known plain short =
    let found = read_printed (take_line name limit) (take_json name limit) (take_data name limit) (print_take name limit (escape_plain name plain))
    (tt, (tt, (number_short limit short, tt))) (omega arith) (of_take name limit short) in
    let text = utf8_named (codes "{\"op\":\"take\",\"query\":\"") name (codes "\",\"limit\":") limit refl known refl short in
    call_is_read line (take_line name limit) (take_data name limit) (take_rows name limit) is text found (asked_take name limit short)

-- ---- peeks

abbrev peek_json : List ℕ → ℤ → json.Json
peek_json name limit =
    json.object (json.member (codes "op") (json.string (codes "peek")) (json.member (codes "query") (json.string name)
    (json.member (codes "limit") (json.number (signed_decimal limit)) json.no_members)))

abbrev peek_data : List ℕ → ℤ → value.Data
peek_data name limit =
    value.object (value.put (codes "limit") (value.number (of_integer limit)) (value.put (codes "query") (value.string name)
    (value.put (codes "op") (value.string (codes "peek")) value.no_members)))

print_peek : (name : List ℕ) (limit : ℤ) → escape name ≡ name → print (json_tokens (peek_json name limit)) ≡ peek_line name limit
unfolding print_from escape_byte
print_peek name limit plain =
    ap (λ s. codes "{\"op\":\"peek\",\"query\":\"" ++ s)
    (ap (λ n. (n ++ 34 ∷ []) ++ (codes ",\"limit\":" ++ (signed_decimal limit ++ codes "}"))) plain ∙ take_around name (signed_decimal limit))

of_peek : (name : List ℕ) (limit : ℤ) → IsShort limit → of_json (peek_json name limit) ≡ Some (peek_data name limit)
of_peek name limit short = rw (number_of_short limit short) refl

asked_peek : (name : List ℕ) (limit : ℤ) → IsShort limit → asked (peek_data name limit) ≡ Some (look (peek_rows name limit))
unfolding asked asked_by peek_in
asked_peek name limit short = ap (option_map (λ z. look (peek_rows name z))) (integer_short limit short)

pub peek_is_read : (line name : List ℕ) (limit : ℤ) → line ≡ peek_line name limit → IsUtf8 name → AllByRecursion IsPlain name → IsShort limit
    → call_in (json_of line) ≡ Ok (look (peek_rows name limit))
peek_is_read line name limit is known plain short =
    let found = read_printed (peek_line name limit) (peek_json name limit) (peek_data name limit) (print_peek name limit (escape_plain name plain))
    (tt, (tt, (number_short limit short, tt))) (omega arith) (of_peek name limit short) in
    let text = utf8_named (codes "{\"op\":\"peek\",\"query\":\"") name (codes "\",\"limit\":") limit refl known refl short in
    call_is_read line (peek_line name limit) (peek_data name limit) (look (peek_rows name limit)) is text found (asked_peek name limit short)

-- ---- drains

abbrev drain_data : value.Data
drain_data = value.object (value.put (codes "op") (value.string (codes "drain")) value.no_members)

asked_drain : asked drain_data ≡ Some drain
unfolding asked asked_by
asked_drain = refl

print_drain : print (json_tokens (json.object (json.member (codes "op") (json.string (codes "drain")) json.no_members))) ≡ codes "{\"op\":\"drain\"}"
unfolding print_from escape_byte
print_drain = refl

pub drain_is_read : (line : List ℕ) → line ≡ codes "{\"op\":\"drain\"}" → call_in (json_of line) ≡ Ok drain
drain_is_read line is =
    let text = codes "{\"op\":\"drain\"}" in
    let found = read_printed text (json.object (json.member (codes "op") (json.string (codes "drain")) json.no_members)) drain_data print_drain (tt, tt) (omega arith) refl in
    call_is_read line text drain_data drain is (IsUtf8-are_ascii text refl) found asked_drain
