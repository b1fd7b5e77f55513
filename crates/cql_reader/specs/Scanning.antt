-- The tokens of a text, as they are found byte by byte.
use Rattle.std.specs.Prelude.{ℕ, zero, suc, ◌+◌, ◌-◌, Bool, true, false, List, [], ◌∷◌, Option}
use Rattle.std.specs.Prelude.{Some, None, take, drop, ◌&&◌, nat_lt, min, ℤ, pos, negsuc}
use Rattle.cql_reader.specs.declared.tokens.TokenKind.{TokenKind}
use Rattle.cql_reader.specs.Lexis.{is_blank, token_at}
use Rattle.cql_reader.specs.Tokens.{Token}

-- the tokens of a text in order, up to its end or to a byte at which none begins
pub data Scan : Type 0 where
  End : (place : ℕ) → Scan
  Bad : (place : ℕ) → Scan
  Then : (t : Token) → (more : Scan) → Scan

-- how many of the bytes belong to what begins them
abbrev pub width : Bool → Option (TokenKind × ℕ) → ℕ
width true found = 1
width false None = 1
width false (Some found) = found.1

-- what begins the bytes, then the rest
abbrev pub scanned : Bool → Option (TokenKind × ℕ) → ℕ → List ℕ → Scan → Scan
scanned true found place bytes rest = rest
scanned false None place bytes rest = Bad place
scanned false (Some found) place bytes rest =
    Then (record { kind = found.0; bytes = take found.1 bytes; place = place }) rest

-- the tokens of the bytes from a place on, of which the first `passed` belong to the token before
unfoldable pub scan : ℕ → ℕ → List ℕ → Scan
scan place passed [] = End place
scan place (suc passed) (b ∷ bs) = scan (place + 1) passed bs
scan place zero (b ∷ bs) =
    scanned (is_blank b) (token_at (b ∷ bs)) place (b ∷ bs)
    (scan (place + 1) (width (is_blank b) (token_at (b ∷ bs)) - 1) bs)

-- the tokens of a text from a place on
abbrev pub scan_from : List ℕ → ℕ → Scan
scan_from text place = scan place 0 (drop place text)

-- the number, cut off where it is outside each range
unfoldable pub capped : ℤ → ℤ
capped (pos n) = pos (min n 2199023255552)
capped (negsuc n) = negsuc (min n 2199023255551)

-- each byte is at most 127
unfoldable pub all_ascii : List ℕ → Bool
all_ascii [] = true
all_ascii (b ∷ bs) = nat_lt b 128 && all_ascii bs
