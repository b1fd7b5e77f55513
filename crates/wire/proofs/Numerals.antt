-- Digits that are read one by one.
use Rattle.std.proofs.Common.{◌≡◌, ℕ, ◌+◌, ◌-◌, ◌*◌, ◌/◌, ◌%◌, ◌^◌, ◌<◌, ◌≤◌, List, [], ◌∷◌, ◌++◌, length, drop, slice_set, decimal, refl, sym, ap, ap₂, ◌∙◌, arith, append_assoc, length-append}
use Rattle.std.proofs.lemmas.Grind.{drop-set_at}
use Rattle.std.proofs.lemmas.Fmt.{decimal_digit, decimal_step}

-- the first digit of a number
pub first_digit : (text rest : List ℕ) (b n : ℕ) → text ≡ b ∷ rest → 48 + n ≡ b → n < 10 → text ≡ decimal n ++ rest
first_digit text rest b n is value small =
    is ∙ ap (λ x. x ∷ rest) (sym value) ∙ ap (λ front. front ++ rest) (sym (decimal_digit n small))

-- one digit more of a number that is not nought
pub next_digit : (text rest behind : List ℕ) (n b d : ℕ) → text ≡ decimal n ++ rest → rest ≡ b ∷ behind → 48 + d ≡ b → d < 10 → 0 < n → n < 10 ^ 17
    → text ≡ decimal (n * 10 + d) ++ behind
next_digit text rest behind n b d so_far is value small some few =
    let back : (n * 10 + d) / 10 ≡ n = omega arith in
    let last : (n * 10 + d) % 10 ≡ d = omega arith in
    let step : decimal (n * 10 + d) ≡ decimal n ++ (48 + d) ∷ [] =
    decimal_step (n * 10 + d) (omega arith) (omega arith) ∙ ap₂ (λ m e. decimal m ++ (48 + e) ∷ []) back last in
    so_far ∙ ap (λ more. decimal n ++ more) (is ∙ ap (λ x. x ∷ behind) (sym value))
    ∙ sym (ap (λ front. front ++ behind) step ∙ append_assoc (decimal n) ((48 + d) ∷ []) behind)

-- ---- digits that are put one by one, the last one first

pub behind_put : (xs : List ℕ) (at b : ℕ) → 1 ≤ at → at ≤ length xs → drop (at - 1) (slice_set xs (at - 1) b) ≡ b ∷ drop at xs
behind_put xs at b some room =
    let back : at - 1 + 1 ≡ at = omega arith in
    drop-set_at xs (at - 1) (at - 1) b refl (omega arith) ∙ ap (λ n. b ∷ drop n xs) back

-- the first digit
pub put_first : (xs : List ℕ) (at rest number : ℕ) → decimal rest ++ drop at xs ≡ decimal number → 1 ≤ at → at ≤ length xs → rest < 10
    → drop (at - 1) (slice_set xs (at - 1) (48 + rest % 10)) ≡ decimal number
put_first xs at rest number is some room small =
    let last : rest % 10 ≡ rest = omega arith in
    behind_put xs at (48 + rest % 10) some room ∙ ap (λ d. (48 + d) ∷ drop at xs) last
    ∙ ap (λ front. front ++ drop at xs) (sym (decimal_digit rest small)) ∙ is

-- another digit
pub put_next : (xs : List ℕ) (at rest number : ℕ) → decimal rest ++ drop at xs ≡ decimal number → 1 ≤ at → at ≤ length xs → 10 ≤ rest → rest < 2 ^ 64
    → decimal (rest / 10) ++ drop (at - 1) (slice_set xs (at - 1) (48 + rest % 10)) ≡ decimal number
put_next xs at rest number is some room long wide =
    ap (λ behind. decimal (rest / 10) ++ behind) (behind_put xs at (48 + rest % 10) some room)
    ∙ sym (append_assoc (decimal (rest / 10)) ((48 + rest % 10) ∷ []) (drop at xs))
    ∙ ap (λ front. front ++ drop at xs) (sym (decimal_step rest long wide)) ∙ is

pub shorter : (rest at : ℕ) → length (decimal rest) ≤ at → 10 ≤ rest → rest < 2 ^ 64 → length (decimal (rest / 10)) ≤ at - 1
shorter rest at fits long wide =
    let same : length (decimal rest) ≡ length (decimal (rest / 10)) + 1 =
    ap length (decimal_step rest long wide) ∙ length-append (decimal (rest / 10)) ((48 + rest % 10) ∷ []) in
    omega (arith, same)
