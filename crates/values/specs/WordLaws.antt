-- A value goes to its word and back.
use Rattle.std.proofs.Common.{ℤ, ◌≡◌, refl, sym, Some, None, cond, Bool, true, false}
use Rattle.std.specs.Ordering.{int_eq}
use Rattle.std.proofs.lemmas.Bool.Decides.{Decides-int_eq}
use Rattle.values.specs.Word.{null_word, value_of_word, word_of_value}

back : (w : ℤ) (b : Bool) → (b ≡ true → w ≡ null_word) → word_of_value (cond b None (Some w)) ≡ w
back w true h = sym (h refl)
back w false h = refl

pub word_back : (w : ℤ) → word_of_value (value_of_word w) ≡ w
word_back w = back w (int_eq w null_word) (Decides-int_eq w null_word).0
