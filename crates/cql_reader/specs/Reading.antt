-- TO BELIEVE: the theorem rests on these definitions, and no proof can check them.
-- What the reader answers: the query that a text names, or the first fault from the left.
use Rattle.std.specs.Prelude.{◌≡◌, ℕ, ◌<◌, ◌≤◌, ◌⊎◌, List, [], ◌∷◌, ◌++◌, length, Result, Ok, Err}
use Rattle.std.specs.Str.{IsAscii, IsNotAscii}
use Rattle.cql_reader.specs.Tokens.{Token, Tokens, NoToken, end_of}
use Rattle.cql_reader.specs.Query.{Query}
use Rattle.cql_reader.specs.Grammar.{Draft, Level, Shape, Ranged, Strict, IsQuery, Begins, Fails}
use Rattle.cql_reader.specs.Grammar.{finished}
use Rattle.cql_reader.specs.Fault.{Fault, TextTooLong, NotAscii, BadToken, Unexpected, NumberRange}
use Rattle.cql_reader.specs.Fault.{TooDeep}

-- a text that is judged token by token
pub record Fine (text : List ℕ) : Type 0 where
  pub short : length text ≤ 4096
  pub ascii : IsAscii text

-- the tokens are those of the whole text
abbrev pub IsText : List ℕ → List Token → Type 0
IsText text tokens = Tokens text 0 tokens (length text)

-- the tokens of the text are derived, with numbers in range, and the derivation builds the query
pub record Names (text : List ℕ) (query : Query) : Type 0 where
  pub tokens : List Token
  pub draft : Draft
  pub spelled : IsText text tokens
  pub derived : IsQuery Strict tokens draft
  pub built : query ≡ finished draft

-- no token begins at this byte, and the tokens before it begin a query
pub record OddByte (text : List ℕ) (place : ℕ) : Type 0 where
  pub tokens : List Token
  pub spelled : Tokens text 0 tokens place
  pub none : NoToken text place
  pub before : Begins Strict tokens

-- the tokens before the one at this place begin a query, and with it they begin none
pub record OddToken (text : List ℕ) (place : ℕ) : Type 0 where
  pub tokens : List Token
  pub t : Token
  pub spelled : Tokens text 0 (tokens ++ t ∷ []) (end_of t)
  pub here : place ≡ t.place
  pub before : Begins Strict tokens
  pub fault : Fails Shape (tokens ++ t ∷ [])

-- the text begins a query and is none
pub record TooShort (text : List ℕ) (place : ℕ) : Type 0 where
  pub tokens : List Token
  pub spelled : IsText text tokens
  pub here : place ≡ length text
  pub before : Begins Strict tokens
  pub fault : (d : Draft) → IsQuery Shape tokens d → ⊥

-- the tokens before the one at this place begin a query, and
-- with it they still begin one by `fine`, and none by `bad`
pub record Outside (fine bad : Level) (text : List ℕ) (place : ℕ) : Type 0 where
  pub tokens : List Token
  pub t : Token
  pub spelled : Tokens text 0 (tokens ++ t ∷ []) (end_of t)
  pub here : place ≡ t.place
  pub before : Begins Strict tokens
  pub still : Begins fine (tokens ++ t ∷ [])
  pub fault : Fails bad (tokens ++ t ∷ [])

-- the answer is right for the text
abbrev pub IsAnswer : List ℕ → Result Query Fault → Type 0
IsAnswer text (Ok query) = Fine text × Names text query
IsAnswer text (Err TextTooLong) = 4096 < length text
IsAnswer text (Err NotAscii) = (length text ≤ 4096) × IsNotAscii text
IsAnswer text (Err (BadToken place)) = Fine text × OddByte text place
IsAnswer text (Err (Unexpected place)) = Fine text × (OddToken text place ⊎ TooShort text place)
IsAnswer text (Err (NumberRange place)) = Fine text × Outside Shape Ranged text place
IsAnswer text (Err (TooDeep place)) = Fine text × Outside Ranged Strict text place
