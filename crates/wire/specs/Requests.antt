-- TO BELIEVE: the theorem rests on these definitions, and no proof can check them.
-- The requests of a text.
use Rattle.std.specs.Prelude.{ℕ, Bool, List, length, Option, Some, None, Result, Err, ok_or}
use Rattle.std.specs.Prelude.{if◌then◌else◌, nat_lt, ◌==◌, ◌||◌, ◌&&◌, not, filter_map}
use Rattle.std.specs.List.{list_all}
use Rattle.std.specs.Str.{is_utf8}
use Rattle.serde_json.specs.Data.{Data}
use Rattle.serde_json.specs.Read.{read}
use Rattle.wire.specs.Lines.{lines_of, longest_line}
use Rattle.wire.specs.Asked.{asked}
use Rattle.wire.specs.Calls.{Call}
use Rattle.wire.specs.declared.request.WireFault.{WireFault}
use Rattle.wire.specs.declared.request.WireFault.TheVariants.{NotJson, BadRequest, LineTooLong}

abbrev pub is_blank_byte : ℕ → Bool
is_blank_byte b = (b == 32) || (b == 9) || (b == 13)

abbrev pub is_blank : List ℕ → Bool
is_blank line = not (nat_lt longest_line (length line)) && list_all is_blank_byte line

-- the JSON value that a line is
abbrev pub json_of : List ℕ → Option Data
json_of line = if is_utf8 line then read line else None

-- the call of a JSON value, or the fault
abbrev pub call_in : Option Data → Result Call WireFault
call_in None = Err NotJson
call_in (Some d) = ok_or (asked d) BadRequest

-- what a line that is not blank asks for, or its fault
abbrev pub asked_in : List ℕ → Result Call WireFault
asked_in line = if nat_lt longest_line (length line) then Err LineTooLong else call_in
    (json_of line)

abbrev pub request_in : List ℕ → Option (Result Call WireFault)
request_in line = if is_blank line then None else Some (asked_in line)

-- the requests of a text, one for each line that is not blank
abbrev pub requests_of : List ℕ → List (Result Call WireFault)
requests_of text = filter_map request_in (lines_of text)
