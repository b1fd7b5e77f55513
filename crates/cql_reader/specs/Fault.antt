-- TO BELIEVE: the theorem rests on these definitions, and no proof can check them.
-- Why a text is no query.
use Rattle.std.specs.Prelude.{ℕ}

-- the faults, with the place of the token at fault, or the length of a text that ends too early
pub data Fault : Type 0 where
  TextTooLong : Fault
  NotAscii : Fault
  BadToken : (place : ℕ) → Fault
  Unexpected : (place : ℕ) → Fault
  NumberRange : (place : ℕ) → Fault
  TooDeep : (place : ℕ) → Fault
