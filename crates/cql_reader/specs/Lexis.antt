-- TO BELIEVE: the theorem rests on these definitions, and no proof can check them.
-- The kinds of bytes and of words.
use Rattle.std.specs.Prelude.{ℕ, ◌+◌, ◌-◌, ◌*◌, Bool, true, false, not, ◌&&◌, ◌||◌, List, [], ◌∷◌}
use Rattle.std.specs.Prelude.{Option, Some, None, cond, is_some, nat_le, nat_eq, map, length, min}
use Rattle.std.specs.Prelude.{codes, take, drop, ℤ, pos, neg_ℤ}
use Rattle.std.specs.List.{prefix_len}
use Rattle.std.specs.Char.{to_ascii_lowercase}
use Rattle.cql_reader.specs.declared.tokens.TokenKind.{TokenKind}
use Rattle.cql_reader.specs.declared.tokens.TokenKind.TheVariants as k

-- a space, a tab, a line feed or a carriage return
abbrev pub is_blank : ℕ → Bool
is_blank b = nat_eq b 32 || nat_eq b 9 || nat_eq b 10 || nat_eq b 13

abbrev pub is_digit : ℕ → Bool
is_digit b = nat_le 48 b && nat_le b 57

-- a letter or an underscore
abbrev pub is_letter : ℕ → Bool
is_letter b = (nat_le 97 b && nat_le b 122) || (nat_le 65 b && nat_le b 90) || nat_eq b 95

abbrev pub is_word : ℕ → Bool
is_word b = is_letter b || is_digit b

-- the reserved words
unfoldable pub reserved : List (List ℕ × TokenKind)
reserved =
    (codes "select", k.Select) ∷ (codes "distinct", k.Distinct) ∷ (codes "istream", k.Istream)
    ∷ (codes "dstream", k.Dstream)
    ∷ (codes "rstream", k.Rstream) ∷ (codes "from", k.From) ∷ (codes "as", k.As)
    ∷ (codes "where", k.Where)
    ∷ (codes "group", k.Group) ∷ (codes "by", k.By) ∷ (codes "and", k.And) ∷ (codes "or", k.Or)
    ∷ (codes "not", k.Not)
    ∷ (codes "range", k.Range) ∷ (codes "rows", k.Rows) ∷ (codes "partition", k.Partition)
    ∷ (codes "now", k.Now)
    ∷ (codes "unbounded", k.Unbounded) ∷ (codes "slide", k.Slide) ∷ (codes "count", k.Count)
    ∷ (codes "sum", k.Sum)
    ∷ (codes "min", k.Min) ∷ (codes "max", k.Max) ∷ []

unfoldable pub same_bytes : List ℕ → List ℕ → Bool
same_bytes [] [] = true
same_bytes [] (b ∷ bs) = false
same_bytes (a ∷ more) [] = false
same_bytes (a ∷ more) (b ∷ bs) = nat_eq a b && same_bytes more bs

-- the same in any case of letters
unfoldable pub same_letters : List ℕ → List ℕ → Bool
same_letters a b = same_bytes (map to_ascii_lowercase a) (map to_ascii_lowercase b)

-- the kind that a list of words gives a word
unfoldable pub kind_in : List (List ℕ × TokenKind) → List ℕ → Option TokenKind
kind_in [] word = None
kind_in (entry ∷ entries) word =
    cond (same_letters entry.0 word) (Some entry.1) (kind_in entries word)

-- a reserved word, in any case of letters
abbrev pub is_reserved : List ℕ → Bool
is_reserved word = is_some (kind_in reserved word)

abbrev pub or_name : Option TokenKind → ℕ → TokenKind
or_name (Some kind) len = kind
or_name None len = cond (nat_le len 32) k.Name k.Word

-- a reserved word, a name, or a word that is too long for a name
unfoldable pub word_kind : List ℕ → TokenKind
word_kind word = or_name (kind_in reserved word) (length word)

-- the first byte, or 0
abbrev pub first_byte : List ℕ → ℕ
first_byte [] = 0
first_byte (a ∷ bs) = a

-- the second byte, or 0
abbrev pub second_byte : List ℕ → ℕ
second_byte [] = 0
second_byte (a ∷ []) = 0
second_byte (a ∷ b ∷ bs) = b

-- each byte is a letter, a digit or an underscore
unfoldable pub all_word : List ℕ → Bool
all_word [] = true
all_word (b ∷ bs) = is_word b && all_word bs

-- a letter or an underscore, then letters, digits and
-- underscores, 32 in all at most, and no reserved word
unfoldable pub is_name : List ℕ → Bool
is_name bytes =
    is_letter (first_byte bytes) && all_word bytes && nat_le (length bytes) 32
    && not (is_reserved bytes)

-- a symbol that compares, by its first two bytes, and how many bytes it takes
abbrev pub comparison : ℕ → ℕ → Option (TokenKind × ℕ)
comparison a b =
    cond (nat_eq a 61) (Some (k.Equal, 1)) (
    cond (nat_eq a 60) (cond (nat_eq b 61) (Some (k.AtMost, 2))
    (cond (nat_eq b 62) (Some (k.Unequal, 2)) (Some (k.Less, 1)))) (
    cond (nat_eq a 62) (cond (nat_eq b 61) (Some (k.AtLeast, 2)) (Some (k.Greater, 1))) (
    cond (nat_eq a 33) (cond (nat_eq b 61) (Some (k.Unequal, 2)) None) None)))

-- a symbol by its first two bytes, and how many bytes it takes
abbrev pub symbol : ℕ → ℕ → Option (TokenKind × ℕ)
symbol a b =
    cond (nat_eq a 40) (Some (k.Open, 1)) (
    cond (nat_eq a 41) (Some (k.Close, 1)) (
    cond (nat_eq a 91) (Some (k.Left, 1)) (
    cond (nat_eq a 93) (Some (k.Right, 1)) (
    cond (nat_eq a 44) (Some (k.Comma, 1)) (
    cond (nat_eq a 46) (Some (k.Dot, 1)) (
    cond (nat_eq a 59) (Some (k.Semicolon, 1)) (
    cond (nat_eq a 42) (Some (k.Star, 1)) (comparison a b))))))))

-- the token that begins the bytes, and how many bytes it
-- takes: the longest word, the longest number, or a symbol
unfoldable pub token_at : List ℕ → Option (TokenKind × ℕ)
token_at bytes =
    cond (is_letter (first_byte bytes))
    (Some (word_kind (take (prefix_len is_word bytes) bytes), prefix_len is_word bytes)) (
    cond (is_digit (first_byte bytes)) (Some (k.Number, prefix_len is_digit bytes)) (
    cond (nat_eq (first_byte bytes) 45)
    (cond (nat_eq (prefix_len is_digit (drop 1 bytes)) 0) None
    (Some (k.Number, 1 + prefix_len is_digit (drop 1 bytes)))) (
    symbol (first_byte bytes) (second_byte bytes))))

-- the number that digits write behind the number n
unfoldable pub decimal : ℕ → List ℕ → ℕ
decimal n [] = n
decimal n (d ∷ ds) = decimal (10 * n + (d - 48)) ds

-- the number that digits write, which may stand behind a minus
unfoldable pub number_of : List ℕ → ℤ
number_of bytes = cond (nat_eq (first_byte bytes) 45) (neg_ℤ (pos (decimal 0 (drop 1 bytes))))
    (pos (decimal 0 bytes))
