-- The tokens of a text from a place on, step by step.
use Rattle.std.proofs.Common.{◌≡◌, ℕ, zero, suc, ◌+◌, ◌-◌, ◌<◌, ◌≤◌, Bool, true, false, List, [], ◌∷◌, Option, Some, None, sym, ap, ◌∙◌, drop, take, length, arith, subst, slice_range, length-drop, inl, inr}
use Rattle.std.proofs.lemmas.List.{take_all, drop_all, drop-drop}
use Rattle.std.specs.List.{prefix_len}
use Rattle.std.proofs.lemmas.Bool.{cases_Bool, cond-true, cond-false}
use Rattle.cql_reader.specs.declared.tokens.TokenKind.{TokenKind}
use Rattle.cql_reader.specs.Lexis.{is_blank, first_byte, token_at}
use Rattle.cql_reader.specs.Tokens.{Token}
use Rattle.cql_reader.specs.Scanning.{Scan, End, Bad, Then, width, scanned, scan, scan_from}

scan_passed : (n place : ℕ) (bs : List ℕ) → n ≤ length bs → scan place n bs ≡ scan (place + n) 0 (drop n bs)
unfolding scan
scan_passed zero place bs h = let e : place ≡ place + 0 = omega arith in ap (λ (v : ℕ). scan v 0 bs) e
scan_passed (suc n) place [] h = absurd (omega arith)
scan_passed (suc n) place (b ∷ bs) h =
    let e : (place + 1) + n ≡ place + suc n = omega arith in
    scan_passed n (place + 1) bs (omega arith) ∙ ap (λ (v : ℕ). scan v 0 (drop n bs)) e

scan_blank : (place b : ℕ) (bs : List ℕ) → is_blank b ≡ true → scan place 0 (b ∷ bs) ≡ scan (place + 1) 0 bs
unfolding scan
scan_blank place b bs h =
    ap (λ (v : Bool). scanned v (token_at (b ∷ bs)) place (b ∷ bs) (scan (place + 1) (width v (token_at (b ∷ bs)) - 1) bs)) h

pub scan_blanks : (place : ℕ) (bs : List ℕ) → scan place 0 bs ≡ scan (place + prefix_len is_blank bs) 0 (drop (prefix_len is_blank bs) bs)
scan_blanks place [] = let e : place ≡ place + 0 = omega arith in ap (λ (v : ℕ). scan v 0 []) e
scan_blanks place (b ∷ bs) = elim (cases_Bool (is_blank b)) [
  | inl h ↦ (let p = prefix_len is_blank bs in
      let n : prefix_len is_blank (b ∷ bs) ≡ 1 + p = cond-true (is_blank b) (1 + p) 0 h in
      let e : (place + 1) + p ≡ place + (1 + p) = omega arith in
      let f : suc p ≡ 1 + p = omega arith in
      scan_blank place b bs h ∙ scan_blanks (place + 1) bs ∙ ap (λ (v : ℕ). scan v 0 (drop p bs)) e
      ∙ ap (λ (v : ℕ). scan (place + (1 + p)) 0 (drop v (b ∷ bs))) f
      ∙ ap (λ (v : ℕ). scan (place + v) 0 (drop v (b ∷ bs))) (sym n))
  | inr h ↦ (let n : prefix_len is_blank (b ∷ bs) ≡ 0 = cond-false (is_blank b) (1 + prefix_len is_blank bs) 0 h in
      let e : place ≡ place + 0 = omega arith in
      ap (λ (v : ℕ). scan v 0 (b ∷ bs)) e ∙ ap (λ (v : ℕ). scan (place + v) 0 (drop v (b ∷ bs))) (sym n))
]

-- no blank stands behind the blanks
pub ink_behind : (bs : List ℕ) → prefix_len is_blank bs < length bs → is_blank (first_byte (drop (prefix_len is_blank bs) bs)) ≡ false
ink_behind [] h = absurd (omega arith)
ink_behind (b ∷ bs) h = elim (cases_Bool (is_blank b)) [
  | inl t ↦ (let p = prefix_len is_blank bs in
      let n : prefix_len is_blank (b ∷ bs) ≡ 1 + p = cond-true (is_blank b) (1 + p) 0 t in
      let m : prefix_len is_blank (b ∷ bs) ≡ suc p = n ∙ omega arith in
      subst (λ (v : ℕ). is_blank (first_byte (drop v (b ∷ bs))) ≡ false) (sym m) (ink_behind bs (omega arith)))
  | inr f ↦ (let n : prefix_len is_blank (b ∷ bs) ≡ 0 = cond-false (is_blank b) (1 + prefix_len is_blank bs) 0 f in
      subst (λ (v : ℕ). is_blank (first_byte (drop v (b ∷ bs))) ≡ false) (sym n) f)
]

pub scan_bad : (place : ℕ) (bs : List ℕ) → 0 < length bs → is_blank (first_byte bs) ≡ false → token_at bs ≡ None → scan place 0 bs ≡ Bad place
unfolding scan
scan_bad place [] w h e = absurd (omega arith)
scan_bad place (b ∷ bs) w h e =
    let f : Bool → Option (TokenKind × ℕ) → Scan = λ v t. scanned v t place (b ∷ bs) (scan (place + 1) (width v t - 1) bs) in
    ap (λ (v : Bool). f v (token_at (b ∷ bs))) h ∙ ap (λ (t : Option (TokenKind × ℕ)). f false t) e

pub scan_token : (place : ℕ) (bs : List ℕ) (kind : TokenKind) (n : ℕ) → is_blank (first_byte bs) ≡ false → token_at bs ≡ Some (kind, n) → 0 < n → n ≤ length bs → scan place 0 bs ≡ Then (record { kind = kind; bytes = take n bs; place = place }) (scan (place + n) 0 (drop n bs))
unfolding scan
scan_token place [] kind n h e p w = absurd (omega arith)
scan_token place (b ∷ bs) kind zero h e p w = absurd (omega arith)
scan_token place (b ∷ bs) kind (suc n) h e p w =
    let f : Bool → Option (TokenKind × ℕ) → Scan = λ v t. scanned v t place (b ∷ bs) (scan (place + 1) (width v t - 1) bs) in
    let t : Token = record { kind = kind; bytes = take (suc n) (b ∷ bs); place = place } in
    let m : suc n - 1 ≡ n = omega arith in
    let q : (place + 1) + n ≡ place + suc n = omega arith in
    ap (λ (v : Bool). f v (token_at (b ∷ bs))) h ∙ ap (λ (t : Option (TokenKind × ℕ)). f false t) e
    ∙ ap (λ (v : ℕ). Then t (scan (place + 1) v bs)) m
    ∙ ap (λ (v : Scan). Then t v) (scan_passed n (place + 1) bs (omega arith))
    ∙ ap (λ (v : ℕ). Then t (scan v 0 (drop n bs))) q

rest_is : (text : List ℕ) (i : ℕ) → take (length text - i) (drop i text) ≡ drop i text
rest_is text i = take_all (length text - i) (drop i text) (omega (arith, length-drop i text))

-- behind the blanks
after_blanks : (text : List ℕ) (place n : ℕ) → n ≡ prefix_len is_blank (take (length text - place) (drop place text)) → scan_from text place ≡ scan_from text (place + n)
after_blanks text place n e =
    let p = prefix_len is_blank (drop place text) in
    let f : n ≡ p = e ∙ ap (prefix_len is_blank) (rest_is text place) in
    let g : drop p (drop place text) ≡ drop (place + p) text = drop-drop p place text in
    scan_blanks place (drop place text) ∙ ap (λ (v : List ℕ). scan (place + p) 0 v) g ∙ ap (λ (v : ℕ). scan_from text (place + v)) (sym f)

no_blank : (text : List ℕ) (place n : ℕ) → n ≡ prefix_len is_blank (take (length text - place) (drop place text)) → place + n < length text → is_blank (first_byte (drop (place + n) text)) ≡ false
no_blank text place n e h =
    let p = prefix_len is_blank (drop place text) in
    let f : n ≡ p = e ∙ ap (prefix_len is_blank) (rest_is text place) in
    let g : drop p (drop place text) ≡ drop (place + p) text = drop-drop p place text in
    let w : is_blank (first_byte (drop p (drop place text))) ≡ false = ink_behind (drop place text) (omega (arith, length-drop place text)) in
    subst (λ (v : ℕ). is_blank (first_byte (drop (place + v) text)) ≡ false) (sym f) (subst (λ (v : List ℕ). is_blank (first_byte v) ≡ false) g w)

pub next_end : (text : List ℕ) (place n : ℕ) → n ≡ prefix_len is_blank (take (length text - place) (drop place text)) → place + n ≡ length text → scan_from text place ≡ End (length text)
unfolding scan
next_end text place n e h = after_blanks text place n e ∙ ap (scan (place + n) 0) (drop_all (place + n) text (omega arith)) ∙ ap End h

pub next_bad : (text : List ℕ) (place n : ℕ) → n ≡ prefix_len is_blank (take (length text - place) (drop place text)) → place + n < length text → token_at (take (length text - (place + n)) (drop (place + n) text)) ≡ None → scan_from text place ≡ Bad (place + n)
next_bad text place n e h q =
    after_blanks text place n e
    ∙ scan_bad (place + n) (drop (place + n) text) (omega (arith, length-drop (place + n) text)) (no_blank text place n e h) (ap token_at (sym (rest_is text (place + n))) ∙ q)

pub next_found : (text : List ℕ) (place n : ℕ) (kind : TokenKind) (len : ℕ) → n ≡ prefix_len is_blank (take (length text - place) (drop place text)) → place + n < length text → token_at (take (length text - (place + n)) (drop (place + n) text)) ≡ Some (kind, len) → 0 < len → len ≤ length (take (length text - (place + n)) (drop (place + n) text)) → scan_from text place ≡ Then (record { kind = kind; bytes = slice_range text (place + n) ((place + n) + len); place = place + n }) (scan_from text ((place + n) + len))
next_found text place n kind len e h q p w =
    let i = place + n in
    let l : len ≤ length (drop i text) = subst (λ (v : List ℕ). len ≤ length v) (rest_is text i) w in
    let g : drop len (drop i text) ≡ drop (i + len) text = drop-drop len i text in
    let m : len ≡ (i + len) - i = omega arith in
    after_blanks text place n e
    ∙ scan_token i (drop i text) kind len (no_blank text place n e h) (ap token_at (sym (rest_is text i)) ∙ q) p l
    ∙ ap (λ (v : ℕ). Then (record { kind = kind; bytes = take v (drop i text); place = i }) (scan (i + len) 0 (drop len (drop i text)))) m
    ∙ ap (λ (v : List ℕ). Then (record { kind = kind; bytes = slice_range text i (i + len); place = i }) (scan (i + len) 0 v)) g

pub behind_within : (text : List ℕ) (place n : ℕ) → n ≤ length (take (length text - place) (drop place text)) → place ≤ length text → (place + n ≡ length text → ⊥) → place + n < length text
behind_within text place n w p h =
    let l : length (take (length text - place) (drop place text)) ≡ length (drop place text) = ap length (rest_is text place) in
    omega (arith, l, length-drop place text)

pub end_within : (text : List ℕ) (i n : ℕ) → n ≤ length (take (length text - i) (drop i text)) → i ≤ length text → i + n ≤ length text
end_within text i n w p =
    let l : length (take (length text - i) (drop i text)) ≡ length (drop i text) = ap length (rest_is text i) in
    omega (arith, l, length-drop i text)
