-- The tokens that the scan gives are those of the text.
use Rattle.std.proofs.Common.{◌≡◌, ℕ, zero, suc, ◌+◌, ◌-◌, ◌<◌, ◌≤◌, Bool, true, false, List, [], ◌∷◌, Option, Some, None, refl, sym, ap, ◌∙◌, inl, inr, cond, drop, take, length, arith, subst, slice_index, length-drop, length-take-le, nat_eq}
use Rattle.std.proofs.lemmas.List.{drop-drop, drop_all}
use Rattle.std.proofs.lemmas.List.Sums.{prefix_len-le-length}
use Rattle.std.specs.List.{prefix_len}
use Rattle.std.proofs.lemmas.Bool.{cases_Bool, cases_lt, cond-true, cond-false, or_left, eqb-true, false≢true}
use Rattle.cql_reader.specs.declared.tokens.TokenKind.{TokenKind}
use Rattle.cql_reader.specs.declared.tokens.TokenKind.TheVariants as k
use Rattle.cql_reader.specs.Lexis.{is_blank, is_letter, is_digit, is_word, first_byte, second_byte, symbol, token_at}
use Rattle.cql_reader.specs.Tokens.{Token, end_of, Blank, Stands, NoToken}
use Rattle.cql_reader.specs.Scanning.{Scan, End, Bad, Then, scan, scan_from}
use Rattle.cql_reader.proofs.Scans.{scan_blanks, ink_behind, scan_bad, scan_token}

-- How many bytes a token takes.

-- a token of this width stands in the bytes
record Fits (bytes : List ℕ) (r : TokenKind × ℕ) : Type 0 where
  pub forward : 0 < r.1
  pub within : r.1 ≤ length bytes

none_some : (r : TokenKind × ℕ) → None ≡ Some r → ⊥
none_some r e = cc

by_cond : {A : Type 0} (P : A → Type 0) (b : Bool) (x y : Option A) (r : A) → cond b x y ≡ Some r → (b ≡ true → x ≡ Some r → P r) → (b ≡ false → y ≡ Some r → P r) → P r
by_cond P b x y r e f g = elim (cases_Bool b) [
  | inl h ↦ f h (sym (cond-true b x y h) ∙ e)
  | inr h ↦ g h (sym (cond-false b x y h) ∙ e)
]

one_byte : (bytes : List ℕ) (kind : TokenKind) (r : TokenKind × ℕ) → 0 < length bytes → Some (kind, 1) ≡ Some r → Fits bytes r
one_byte bytes kind r h e =
    let P : Type 0 = TokenKind × ℕ in
    let x : P = (kind, 1) in
    let o : Some x ≡ Some r = e in
    let w : x ≡ r = cc in
    subst (Fits bytes) w (record { forward = omega arith; within = omega arith })

two_long : (bytes : List ℕ) (b : ℕ) → 0 < b → second_byte bytes ≡ b → 2 ≤ length bytes
two_long [] b h e = absurd (omega arith)
two_long (x ∷ []) b h e = absurd (omega arith)
two_long (x ∷ y ∷ bs) b h e = omega arith

two_bytes : (bytes : List ℕ) (b : ℕ) (kind : TokenKind) (r : TokenKind × ℕ) → 0 < b → nat_eq (second_byte bytes) b ≡ true → Some (kind, 2) ≡ Some r → Fits bytes r
two_bytes bytes b kind r h t e =
    let P : Type 0 = TokenKind × ℕ in
    let x : P = (kind, 2) in
    let o : Some x ≡ Some r = e in
    let w : x ≡ r = cc in
    let l = two_long bytes b h (eqb-true (second_byte bytes) b t) in
    subst (Fits bytes) w (record { forward = omega arith; within = omega arith })

symbol_fits : (bytes : List ℕ) (r : TokenKind × ℕ) → 0 < length bytes → symbol (first_byte bytes) (second_byte bytes) ≡ Some r → Fits bytes r
symbol_fits bytes r h e =
    let P : TokenKind × ℕ → Type 0 = λ v. Fits bytes v in
    let a = first_byte bytes in
    let b = second_byte bytes in
    by_cond P (nat_eq a 40) _ _ r e (λ _ q. one_byte bytes k.Open r h q) (λ _ e1.
    by_cond P (nat_eq a 41) _ _ r e1 (λ _ q. one_byte bytes k.Close r h q) (λ _ e2.
    by_cond P (nat_eq a 91) _ _ r e2 (λ _ q. one_byte bytes k.Left r h q) (λ _ e3.
    by_cond P (nat_eq a 93) _ _ r e3 (λ _ q. one_byte bytes k.Right r h q) (λ _ e4.
    by_cond P (nat_eq a 44) _ _ r e4 (λ _ q. one_byte bytes k.Comma r h q) (λ _ e5.
    by_cond P (nat_eq a 46) _ _ r e5 (λ _ q. one_byte bytes k.Dot r h q) (λ _ e6.
    by_cond P (nat_eq a 59) _ _ r e6 (λ _ q. one_byte bytes k.Semicolon r h q) (λ _ e7.
    by_cond P (nat_eq a 42) _ _ r e7 (λ _ q. one_byte bytes k.Star r h q) (λ _ e8.
    by_cond P (nat_eq a 61) _ _ r e8 (λ _ q. one_byte bytes k.Equal r h q) (λ _ e9.
    by_cond P (nat_eq a 60) _ _ r e9 (λ _ less.
    by_cond P (nat_eq b 61) _ _ r less (λ t q. two_bytes bytes 61 k.AtMost r (omega arith) t q) (λ _ other.
    by_cond P (nat_eq b 62) _ _ r other (λ t q. two_bytes bytes 62 k.Unequal r (omega arith) t q) (λ _ q. one_byte bytes k.Less r h q))) (λ _ e10.
    by_cond P (nat_eq a 62) _ _ r e10 (λ _ more.
    by_cond P (nat_eq b 61) _ _ r more (λ t q. two_bytes bytes 61 k.AtLeast r (omega arith) t q) (λ _ q. one_byte bytes k.Greater r h q)) (λ _ e11.
    by_cond P (nat_eq a 33) _ _ r e11 (λ _ other.
    by_cond P (nat_eq b 61) _ _ r other (λ t q. two_bytes bytes 61 k.Unequal r (omega arith) t q) (λ _ q. absurd (none_some r q)))
    (λ _ q. absurd (none_some r q)))))))))))))

fits_by : (bytes : List ℕ) (kind : TokenKind) (n : ℕ) (r : TokenKind × ℕ) → 0 < n → n ≤ length bytes → Some (kind, n) ≡ Some r → Fits bytes r
fits_by bytes kind n r h w e =
    let P : Type 0 = TokenKind × ℕ in
    let x : P = (kind, n) in
    let o : Some x ≡ Some r = e in
    let q : x ≡ r = cc in
    subst (Fits bytes) q (record { forward = h; within = w })

word_forward : (bytes : List ℕ) → is_letter (first_byte bytes) ≡ true → 0 < prefix_len is_word bytes
word_forward [] h = absurd (false≢true h)
word_forward (a ∷ bs) h = let e = cond-true (is_word a) (1 + prefix_len is_word bs) 0 (or_left (is_letter a) (is_digit a) h) in omega (arith, e)

number_forward : (bytes : List ℕ) → is_digit (first_byte bytes) ≡ true → 0 < prefix_len is_digit bytes
number_forward [] h = absurd (false≢true h)
number_forward (a ∷ bs) h = let e = cond-true (is_digit a) (1 + prefix_len is_digit bs) 0 h in omega (arith, e)

token_fits : (bytes : List ℕ) (r : TokenKind × ℕ) → 0 < length bytes → token_at bytes ≡ Some r → Fits bytes r
unfolding token_at
token_fits bytes r h e =
    let P : TokenKind × ℕ → Type 0 = λ v. Fits bytes v in
    by_cond P (is_letter (first_byte bytes)) _ _ r e (λ t q. fits_by bytes _ (prefix_len is_word bytes) r (word_forward bytes t) (prefix_len-le-length is_word bytes) q) (λ _ e1.
    by_cond P (is_digit (first_byte bytes)) _ _ r e1 (λ t q. fits_by bytes _ (prefix_len is_digit bytes) r (number_forward bytes t) (prefix_len-le-length is_digit bytes) q) (λ _ e2.
    by_cond P (nat_eq (first_byte bytes) 45) _ _ r e2 (λ _ minus. by_cond P (nat_eq (prefix_len is_digit (drop 1 bytes)) 0) _ _ r minus (λ _ q. absurd (none_some r q)) (λ _ q.
    fits_by bytes _ (1 + prefix_len is_digit (drop 1 bytes)) r (omega arith) (omega (arith, prefix_len-le-length is_digit (drop 1 bytes), length-drop 1 bytes)) q)) (λ _ e3.
    symbol_fits bytes r h e3)))

-- The scan.

-- the tokens stand in the text from a place on, up to where the scan ends
abbrev pub Scanned : List ℕ → ℕ → Scan → Type 0
Scanned text at (End place) = Blank text at place × (place ≡ length text)
Scanned text at (Bad place) = Blank text at place × NoToken text place
Scanned text at (Then t more) = Blank text at t.place × Stands text t × Scanned text (end_of t) more

index_first : (text : List ℕ) (i : ℕ) → slice_index text i ≡ first_byte (drop i text)
index_first [] zero = refl
index_first [] (suc i) = refl
index_first (b ∷ bs) zero = refl
index_first (b ∷ bs) (suc i) = index_first bs i

blanks_each : (bs : List ℕ) (i : ℕ) → i < prefix_len is_blank bs → is_blank (slice_index bs i) ≡ true
blanks_each [] i h = absurd (omega arith)
blanks_each (b ∷ bs) zero h = elim (cases_Bool (is_blank b)) [
  | inl t ↦ t
  | inr f ↦ (let e = cond-false (is_blank b) (1 + prefix_len is_blank bs) 0 f in absurd (omega (arith, e)))
]
blanks_each (b ∷ bs) (suc i) h = elim (cases_Bool (is_blank b)) [
  | inl t ↦ (let e = cond-true (is_blank b) (1 + prefix_len is_blank bs) 0 t in blanks_each bs i (omega (arith, e)))
  | inr f ↦ (let e = cond-false (is_blank b) (1 + prefix_len is_blank bs) 0 f in absurd (omega (arith, e)))
]

index_behind : (text : List ℕ) (i j : ℕ) → slice_index (drop i text) j ≡ slice_index text (i + j)
index_behind text i j = index_first (drop i text) j ∙ ap first_byte (drop-drop j i text) ∙ sym (index_first text (i + j))

blank_stands : (text : List ℕ) (at : ℕ) → Blank text at (at + prefix_len is_blank (drop at text))
blank_stands text at = record {
  order = omega arith;
  each = λ i a b.
      let j = i - at in
      let e : at + j ≡ i = omega arith in
      subst (λ (v : ℕ). is_blank (slice_index text v) ≡ true) e
      (subst (λ (v : ℕ). is_blank v ≡ true) (index_behind text at j) (blanks_each (drop at text) j (omega arith)));
}

-- a token that is found stands in the text
found_stands : (text : List ℕ) (i : ℕ) (kind : TokenKind) (n : ℕ) → i < length text → token_at (drop i text) ≡ Some (kind, n) → 0 < n → n ≤ length (drop i text) → length (take n (drop i text)) ≡ n → Stands text (record { kind = kind; bytes = take n (drop i text); place = i })
found_stands text i kind n h e p w l = record {
  longest = e ∙ ap (λ (v : ℕ). Some (kind, v)) (sym l);
  spelled = ap (λ (v : ℕ). take v (drop i text)) (sym l);
  forward = omega (arith, l);
  within = omega (arith, l, length-drop i text);
}

scanned_token : (text : List ℕ) (at i : ℕ) → Blank text at i → i < length text → is_blank (first_byte (drop i text)) ≡ false → ((j : ℕ) → i < j → j ≤ length text → Scanned text j (scan_from text j)) → (o : Option (TokenKind × ℕ)) → token_at (drop i text) ≡ o → Scanned text at (scan_from text i)
scanned_token text at i b h ink more None e =
    subst (Scanned text at) (sym (scan_bad i (drop i text) (omega (arith, length-drop i text)) ink e))
    (b, record { within = h; ink = ap is_blank (index_first text i) ∙ ink; none = e })
scanned_token text at i b h ink more (Some r) e =
    let n = r.1 in
    let fits = token_fits (drop i text) r (omega (arith, length-drop i text)) e in
    let p : 0 < n = fits.forward in
    let w : n ≤ length (drop i text) = fits.within in
    let l : length (take n (drop i text)) ≡ n = length-take-le n (drop i text) w in
    let t : Token = record { kind = r.0; bytes = take n (drop i text); place = i } in
    let s : Stands text t = found_stands text i r.0 n h e p w l in
    let j : end_of t ≡ i + n = omega (arith, l) in
    let q : scan_from text i ≡ Then t (scan_from text (i + n)) = scan_token i (drop i text) r.0 n ink e p w ∙ ap (λ (v : List ℕ). Then t (scan (i + n) 0 v)) (drop-drop n i text) in
    let m : Scanned text (end_of t) (scan_from text (i + n)) = subst (λ (v : ℕ). Scanned text v (scan_from text (i + n))) (sym j) (more (i + n) (omega arith) (omega (arith, length-drop i text))) in
    subst (Scanned text at) (sym q) (b, s, m)

ends_at : (text : List ℕ) (i : ℕ) → length text ≤ i → scan_from text i ≡ End i
unfolding scan
ends_at text i h = ap (scan i 0) (drop_all i text h)

scanned_by : (n : ℕ) (text : List ℕ) (at : ℕ) → at ≤ length text → length text - at < n → Scanned text at (scan_from text at)
scanned_by zero text at w m = absurd (omega arith)
scanned_by (suc n) text at w m =
    let p = prefix_len is_blank (drop at text) in
    let i = at + p in
    let g : drop p (drop at text) ≡ drop i text = drop-drop p at text in
    let e : scan_from text at ≡ scan_from text i = scan_blanks at (drop at text) ∙ ap (λ (v : List ℕ). scan i 0 v) g in
    let l : i ≤ length text = omega (arith, prefix_len-le-length is_blank (drop at text), length-drop at text) in
    subst (Scanned text at) (sym e) (elim (cases_lt i (length text)) [
      | inl h ↦ (let d : is_blank (first_byte (drop p (drop at text))) ≡ false = ink_behind (drop at text) (omega (arith, length-drop at text)) in
          scanned_token text at i (blank_stands text at) h (subst (λ (v : List ℕ). is_blank (first_byte v) ≡ false) g d)
          (λ j a b. scanned_by n text j b (omega arith)) (token_at (drop i text)) refl)
      | inr h ↦ (let q : i ≡ length text = omega arith in
          subst (Scanned text at) (sym (ends_at text i h)) (blank_stands text at, q))
    ])

-- the scan of a text gives its tokens
pub scanned_text : (text : List ℕ) → Scanned text 0 (scan_from text 0)
scanned_text text = scanned_by (suc (length text)) text 0 (omega arith) (omega arith)
