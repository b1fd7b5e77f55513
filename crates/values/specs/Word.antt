-- A value's one word: the least number of 64 bits, which no answer has, stands for null.
use Rattle.std.specs.Prelude.{ℤ, negsuc, Option, Some, None, cond}
use Rattle.std.specs.Ordering.{int_eq}

abbrev pub null_word : ℤ
null_word = negsuc 0x7fff_ffff_ffff_ffff

abbrev pub value_of_word : ℤ → Option ℤ
value_of_word w = cond (int_eq w null_word) None (Some w)

abbrev pub word_of_value : Option ℤ → ℤ
word_of_value None = null_word
word_of_value (Some n) = n
