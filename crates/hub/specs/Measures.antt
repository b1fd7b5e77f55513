-- How many values a history counts as, and how many an opening holds: what says when to forget.
use Rattle.std.specs.Prelude.{ℕ, ℤ, ◌+◌, ◌-◌, ◌*◌, ◌^◌, Option, List, length, min}
use Rattle.std.specs.List.{sum_by}
use Rattle.answer_rows.specs.Rows.{words_of}
use Rattle.reference.specs.Appended.{values_of}
use Rattle.reference.specs.Commands.{Append, Command}
use Rattle.reference.specs.Machine.{Machine, Registered, Stream}
use Rattle.reference.specs.Replies.{Reply, Rows}
use Rattle.histories.specs.Histories.{Entry}

-- a count, as far as the code counts: at most 2^64 - 1
abbrev pub counted : ℕ → ℕ
counted n = min n (2 ^ 64 - 1)

-- rows of an append: four for the instant of each, and four for each of its columns
abbrev pub values_of_rows : List (ℤ × List (Option ℤ)) → ℕ
values_of_rows rows = (length (values_of rows) + length rows) * 4

-- a command: an append as its rows, any other as nothing
abbrev pub values_of_command : Command → ℕ
values_of_command (Append stream rows) = values_of_rows rows
values_of_command c = 0

-- a reply: answers as two each and one for each column, any other as nothing
abbrev pub values_of_reply : Reply → ℕ
values_of_reply (Rows rows) = words_of rows
values_of_reply r = 0

-- THE VALUES OF AN ENTRY: 16, with those of its command and of its reply
abbrev pub values_of_entry : Entry → ℕ
values_of_entry e = 16 + values_of_command e.command + values_of_reply e.reply

-- what an opening holds of a stream: each row that is kept counts as a row of an append
abbrev pub values_of_stream : Stream → ℕ
values_of_stream s = length s.elements * ((length s.columns + 1) * 4)

-- and of a query: four for each answer that waits
abbrev pub values_of_query : Registered → ℕ
values_of_query q = length q.earlier * 4

-- THE VALUES THAT AN OPENING HOLDS: those of its streams and of its queries
abbrev pub values_held : Machine → ℕ
values_held m = sum_by values_of_stream m.streams + sum_by values_of_query m.queries
