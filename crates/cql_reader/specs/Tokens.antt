-- TO BELIEVE: the theorem rests on these definitions, and no proof can check them.
-- The tokens of a text.
use Rattle.std.specs.Prelude.{◌≡◌, ℕ, ◌+◌, ◌<◌, ◌≤◌, true, false, List, [], ◌∷◌, Some, None, length}
use Rattle.std.specs.Prelude.{take, drop, slice_index}
use Rattle.cql_reader.specs.declared.tokens.TokenKind.{TokenKind}
use Rattle.cql_reader.specs.Lexis.{is_blank, token_at}

-- a token: its kind, its bytes, and how many bytes of the text stand before it
pub record Token : Type 0 where
  pub kind : TokenKind
  pub bytes : List ℕ
  pub place : ℕ

-- the place behind a token
abbrev pub end_of : Token → ℕ
end_of t = t.place + length t.bytes

-- only blanks stand from a place up to another
pub record Blank (text : List ℕ) (at end : ℕ) : Type 0 where
  pub order : at ≤ end
  pub each : (i : ℕ) → at ≤ i → i < end → is_blank (slice_index text i) ≡ true

-- the token stands in the text, and no longer one begins there
pub record Stands (text : List ℕ) (t : Token) : Type 0 where
  pub longest : token_at (drop t.place text) ≡ Some (t.kind, length t.bytes)
  pub spelled : t.bytes ≡ take (length t.bytes) (drop t.place text)
  pub forward : 0 < length t.bytes
  pub within : end_of t ≤ length text

-- the tokens stand in the text in order, with only blanks between, before and behind them
abbrev pub Tokens : List ℕ → ℕ → List Token → ℕ → Type 0
Tokens text at [] end = Blank text at end
Tokens text at (t ∷ ts) end = Blank text at t.place × Stands text t × Tokens text (end_of t) ts end

-- no token begins at that byte
pub record NoToken (text : List ℕ) (at : ℕ) : Type 0 where
  pub within : at < length text
  pub ink : is_blank (slice_index text at) ≡ false
  pub none : token_at (drop at text) ≡ None
