use Rattle.std.proofs.Common.{◌≡◌, ℕ, ◌+◌, ◌<◌, ◌≤◌, Bool, true, false, not, inl, inr, ◌&&◌, List, [], ◌∷◌, Option, Some, None, refl, sym, ap, ◌∙◌, map, drop, get_or, length, subst}
use Rattle.std.proofs.lemmas.List.{at_drop_more, at_drop_all}
use Rattle.std.proofs.lemmas.Bool.{and_parts, and_from, eqb-true, eq-eqb, false≢true, false_from_ne_true, cond-true, cond-false, cases_Bool}
use denote.Enum.Bare.{sameb, true_same}
use Rattle.cql_reader.specs.contracts.tokens.TokenKind.{the_type}
use Rattle.cql_reader.specs.declared.tokens.TokenKind.TheVariants as k
use Rattle.std.specs.Char.{to_ascii_lowercase}
use Rattle.cql_reader.specs.declared.tokens.TokenKind.{TokenKind}
use Rattle.cql_reader.specs.Lexis.{same_bytes, same_letters, kind_in, reserved, word_kind, or_name}

same_bytes_is : (a b : List ℕ) → same_bytes a b ≡ true → a ≡ b
unfolding same_bytes
same_bytes_is [] [] h = refl
same_bytes_is [] (b ∷ bs) h = absurd (false≢true h)
same_bytes_is (a ∷ as1) [] h = absurd (false≢true h)
same_bytes_is (a ∷ as1) (b ∷ bs) h =
    let both = and_parts _ _ h in
    let e : a ≡ b = eqb-true a b both.0 in
    let f : as1 ≡ bs = same_bytes_is as1 bs both.1 in
    cc

same_bytes_self : (a : List ℕ) → same_bytes a a ≡ true
unfolding same_bytes
same_bytes_self [] = refl
same_bytes_self (a ∷ as1) = and_from _ _ (eq-eqb a a refl) (same_bytes_self as1)

pub same_letters_true : (a b : List ℕ) → map to_ascii_lowercase a ≡ map to_ascii_lowercase b → same_letters a b ≡ true
unfolding same_letters
same_letters_true a b e = subst (λ (v : List ℕ). same_bytes (map to_ascii_lowercase a) v ≡ true) e (same_bytes_self (map to_ascii_lowercase a))

pub same_letters_false : (a b : List ℕ) → (map to_ascii_lowercase a ≡ map to_ascii_lowercase b → ⊥) → same_letters a b ≡ false
unfolding same_letters
same_letters_false a b f = false_from_ne_true (same_bytes (map to_ascii_lowercase a) (map to_ascii_lowercase b)) (λ h. f (same_bytes_is (map to_ascii_lowercase a) (map to_ascii_lowercase b) h))

pub kind_in_yes : {A : Type 0} (view : A → List ℕ × TokenKind) (xs : List A) (word : List ℕ) (i : ℕ) (d : A) → i < length xs → map to_ascii_lowercase (view (get_or xs i d)).0 ≡ map to_ascii_lowercase word → kind_in (map view (drop i xs)) word ≡ Some (view (get_or xs i d)).1
unfolding kind_in
kind_in_yes view xs word i d h e = at_drop_more (λ v. kind_in (map view v) word) xs i d h ∙ cond-true _ _ _ (same_letters_true _ _ e)

pub kind_in_no : {A : Type 0} (view : A → List ℕ × TokenKind) (xs : List A) (word : List ℕ) (i : ℕ) (d : A) → i < length xs → (map to_ascii_lowercase (view (get_or xs i d)).0 ≡ map to_ascii_lowercase word → ⊥) → kind_in (map view (drop i xs)) word ≡ kind_in (map view (drop (i + 1) xs)) word
unfolding kind_in
kind_in_no view xs word i d h e = at_drop_more (λ v. kind_in (map view v) word) xs i d h ∙ cond-false _ _ _ (same_letters_false _ _ e)

pub kind_in_end : {A : Type 0} (view : A → List ℕ × TokenKind) (xs : List A) (word : List ℕ) (i : ℕ) → length xs ≤ i → kind_in (map view (drop i xs)) word ≡ None
unfolding kind_in
kind_in_end view xs word i h = at_drop_all (λ v. kind_in (map view v) word) xs i h

pub word_kind_is : (word : List ℕ) (o : Option TokenKind) (entries : List (List ℕ × TokenKind)) → entries ≡ reserved → o ≡ kind_in entries word → word_kind word ≡ or_name o (length word)
unfolding word_kind
word_kind_is word o entries e h = ap (λ (v : Option TokenKind). or_name v (length word)) (sym (h ∙ ap (λ (v : List (List ℕ × TokenKind)). kind_in v word) e))

-- no reserved word is a name
no_names : List (List ℕ × TokenKind) → Bool
no_names [] = true
no_names (entry ∷ entries) = not (sameb the_type entry.1 k.Name) && no_names entries

kind_in_not_name : (entries : List (List ℕ × TokenKind)) (word : List ℕ) → no_names entries ≡ true → kind_in entries word ≡ Some k.Name → ⊥
unfolding no_names kind_in
kind_in_not_name [] word h e = cc
kind_in_not_name (entry ∷ entries) word h e =
    let both = and_parts (not (sameb the_type entry.1 k.Name)) (no_names entries) h in
    elim (cases_Bool (same_letters entry.0 word)) [
      | inl t ↦ (let a : Some entry.1 ≡ Some k.Name = sym (cond-true (same_letters entry.0 word) (Some entry.1) (kind_in entries word) t) ∙ e in
          let b : entry.1 ≡ k.Name = cc in
          let d : sameb the_type entry.1 k.Name ≡ true = true_same the_type entry.1 k.Name b in
          false≢true (sym (ap not d) ∙ both.0))
      | inr f ↦ kind_in_not_name entries word both.1 (sym (cond-false (same_letters entry.0 word) (Some entry.1) (kind_in entries word) f) ∙ e)
    ]

pub not_name : (entries : List (List ℕ × TokenKind)) (word : List ℕ) → entries ≡ reserved → kind_in entries word ≡ Some k.Name → ⊥
unfolding no_names reserved
not_name entries word e h = kind_in_not_name reserved word refl (ap (λ (v : List (List ℕ × TokenKind)). kind_in v word) (sym e) ∙ h)
