-- Answers kept flat are a list of answers.
use Rattle.std.proofs.Common.{◌≡◌, ℕ, zero, suc, ℤ, ◌<◌, ◌≤◌, ◌+◌, ◌-◌, Option, Some, None, List, [], ◌∷◌, ◌++◌, length, take, drop, get_or, refl, ap, ap₂, sym, subst, ◌∙◌, arith, length-drop}
use Rattle.std.specs.List.{slice_get}
use Rattle.std.proofs.lemmas.Option.{slice_get_past}
use Rattle.std.proofs.lemmas.List.{drop-append-le, take-append-le, take_all, drop_all, drop-drop, length-take-le, take-append-drop, map-append}
use Rattle.values.specs.declared.TheConstants.{MAX_COLUMNS}
use Rattle.answer_rows.specs.declared.AnswerHead.{AnswerHead}
use Rattle.answer_rows.specs.Rows.{rows_from, AreEnded, starts_at, words_of, rows_in}
use Rattle.arrayvec.specs.ArrayVec.{ArrayVec}

abbrev Values : Type 0
Values = List (Option ℤ)

abbrev Answers : Type 0
Answers = List (ℤ × Values)

pub length-rows_from : (s : ℕ) (hs : List AnswerHead) (vs : Values) → length (rows_from s hs vs) ≡ length hs
length-rows_from s [] vs = refl
length-rows_from s (h ∷ hs) vs = ap (λ (n : ℕ). suc n) (length-rows_from h.end hs vs)

pub ends-within : (s : ℕ) (hs : List AnswerHead) (c : ℕ) → AreEnded s hs c → s ≤ c
ends-within s [] c a = omega (arith, a)
ends-within s (h ∷ hs) c a = omega (arith, a.0, ends-within h.end hs c a.2)

-- ONE ANSWER MORE
pub AreEnded-more : (s : ℕ) (hs : List AnswerHead) (c more : ℕ) (h : AnswerHead) → AreEnded s hs c → h.end ≡ c + more → more ≤ MAX_COLUMNS → AreEnded s (hs ++ h ∷ []) (c + more)
AreEnded-more s [] c more h a e few = (omega (arith, a, e), omega (arith, a, e, few), e)
AreEnded-more s (g ∷ hs) c more h a e few = (a.0, a.1, AreEnded-more g.end hs c more h a.2 e few)

drop-length : (vs r : Values) (s : ℕ) → s ≡ length vs → drop s (vs ++ r) ≡ r
drop-length vs r s e = drop-append-le s vs r (omega (arith, e)) ∙ ap (λ (v : Values). v ++ r) (drop_all s vs (omega (arith, e)))

part-more : (s «end» : ℕ) (vs r : Values) → s ≤ «end» → «end» ≤ length vs → take («end» - s) (drop s (vs ++ r)) ≡ take («end» - s) (drop s vs)
part-more s «end» vs r lo hi =
    ap (λ (v : Values). take («end» - s) v) (drop-append-le s vs r (omega (arith, lo, hi)))
    ∙ take-append-le («end» - s) (drop s vs) r (omega (arith, length-drop s vs))

pub rows_from-more : (s : ℕ) (hs : List AnswerHead) (vs r : Values) (h : AnswerHead) → AreEnded s hs (length vs) → h.end ≡ length vs + length r
    → rows_from s (hs ++ h ∷ []) (vs ++ r) ≡ rows_from s hs vs ++ (h.instant, r) ∷ []
rows_from-more s [] vs r h a e =
    ap (λ (v : Values). (h.instant, v) ∷ [])
    (ap (λ (v : Values). take (h.end - s) v) (drop-length vs r s a) ∙ take_all (h.end - s) r (omega (arith, a, e)))
rows_from-more s (g ∷ hs) vs r h a e =
    ap₂ (λ (v : Values) (es : Answers). (g.instant, v) ∷ es) (part-more s g.end vs r a.0 (ends-within g.end hs (length vs) a.2))
    (rows_from-more g.end hs vs r h a.2 e)

-- THE ANSWER OF A NUMBER
pub starts-next : (s : ℕ) (hs : List AnswerHead) (n : ℕ) (d : AnswerHead) → n < length hs → (get_or hs n d).end ≡ starts_at s hs (suc n)
starts-next s [] n d lt = absurd (omega (arith, lt))
starts-next s (h ∷ hs) zero d lt = refl
starts-next s (h ∷ hs) (suc n) d lt = starts-next h.end hs n d (omega (arith, lt))

-- its head, and where its values are
pub record IsAt (s : ℕ) (hs : List AnswerHead) (c n : ℕ) (h : AnswerHead) : Type 0 where
  pub order : starts_at s hs n ≤ h.end
  pub few : h.end ≤ starts_at s hs n + MAX_COLUMNS
  pub within : h.end ≤ c

pub is_at : (s : ℕ) (hs : List AnswerHead) (c n : ℕ) (h : AnswerHead) → AreEnded s hs c → n < length hs → h ≡ get_or hs n h → IsAt s hs c n h
is_at s [] c n h a lt e = absurd (omega (arith, lt))
is_at s (g ∷ hs) c zero h a lt e =
    let same : h.end ≡ g.end = ap (λ (f : AnswerHead). f.end) e in
    record { order = omega (arith, same, a.0); few = omega (arith, same, a.1); within = omega (arith, same, ends-within g.end hs c a.2) }
is_at s (g ∷ hs) c (suc n) h a lt e =
    let more = is_at g.end hs c n h a.2 (omega (arith, lt)) e in
    record { order = more.order; few = more.few; within = more.within }

pub answer-at : (s : ℕ) (hs : List AnswerHead) (vs : Values) (n : ℕ) (h : AnswerHead) → n < length hs → h ≡ get_or hs n h
    → slice_get (rows_from s hs vs) n ≡ Some (h.instant, take (h.end - starts_at s hs n) (drop (starts_at s hs n) vs))
answer-at s [] vs n h lt e = absurd (omega (arith, lt))
answer-at s (g ∷ hs) vs zero h lt e = ap (λ (f : AnswerHead). Some (f.instant, take (f.end - s) (drop s vs))) (sym e)
answer-at s (g ∷ hs) vs (suc n) h lt e = answer-at g.end hs vs n h (omega (arith, lt)) e

pub no-answer : (s : ℕ) (hs : List AnswerHead) (vs : Values) (n : ℕ) → length hs ≤ n → slice_get (rows_from s hs vs) n ≡ None
no-answer s hs vs n le = slice_get_past (rows_from s hs vs) n (omega (arith, le, length-rows_from s hs vs))

-- one answer more of those in front
pub take-at : (es : Answers) (n : ℕ) (e : ℤ × Values) → slice_get es n ≡ Some e → take (n + 1) es ≡ take n es ++ e ∷ []
take-at [] n e h = cc
take-at (a ∷ es) zero e h = cc
take-at (a ∷ es) (suc n) e h = let k : suc n + 1 ≡ suc (n + 1) = omega arith in
    ap (λ (m : ℕ). take m (a ∷ es)) k ∙ ap (λ (rest : Answers). a ∷ rest) (take-at es n e h)

pub rows-pushed : (rows new : List (ℤ × ArrayVec (Option ℤ))) (es : Answers) (n : ℕ) (at : ℤ) (v : Values) (row : ArrayVec (Option ℤ))
    → new ≡ rows ++ (at, row) ∷ [] → row.items ≡ v → rows_in rows ≡ take n es → slice_get es n ≡ Some (at, v) → rows_in new ≡ take (n + 1) es
rows-pushed rows new es n at v row more same before is =
    ap (λ (rs : List (ℤ × ArrayVec (Option ℤ))). rows_in rs) more
    ∙ map-append (λ (a : ℤ × ArrayVec (Option ℤ)). (a.0, a.1.items)) rows ((at, row) ∷ [])
    ∙ ap₂ (λ (xs : Answers) (w : Values). xs ++ (at, w) ∷ []) before same
    ∙ sym (take-at es n (at, v) is)

-- HOW LONG THEY ARE
length-part : (s «end» : ℕ) (vs : Values) → s ≤ «end» → «end» ≤ length vs → length (take («end» - s) (drop s vs)) ≡ «end» - s
length-part s «end» vs lo hi = length-take-le («end» - s) (drop s vs) (omega (arith, lo, hi, length-drop s vs))

pub words-all : (s : ℕ) (hs : List AnswerHead) (vs : Values) → AreEnded s hs (length vs) → words_of (rows_from s hs vs) + s ≡ length hs + length hs + length vs
words-all s [] vs a = omega (arith, a)
words-all s (h ∷ hs) vs a =
    omega (arith, a.0, words-all h.end hs vs a.2, length-part s h.end vs a.0 (ends-within h.end hs (length vs) a.2))

-- EQUAL ANSWERS
two : (v w : Values) (n : ℕ) → take n v ≡ take n w → drop n v ≡ drop n w → v ≡ w
two v w n first rest = sym (take-append-drop n v) ∙ ap₂ (λ (a b : Values). a ++ b) first rest ∙ take-append-drop n w

head-same : (g h : AnswerHead) → g.instant ≡ h.instant → g.end ≡ h.end → g ≡ h
head-same g h at «end» = ap₂ (λ (i : ℤ) (e : ℕ). record { instant = i; end = e }) at «end»

first-of : (a b : ℤ × Values) (xs ys : Answers) → a ∷ xs ≡ b ∷ ys → a ≡ b
first-of a b xs ys e = cc

pub same-parts : (s : ℕ) (hs gs : List AnswerHead) (vs ws : Values) → AreEnded s hs (length vs) → AreEnded s gs (length ws)
    → rows_from s hs vs ≡ rows_from s gs ws → (hs ≡ gs) × (drop s vs ≡ drop s ws)
same-parts s [] [] vs ws a b e = (refl, drop_all s vs (omega (arith, a)) ∙ sym (drop_all s ws (omega (arith, b))))
same-parts s [] (g ∷ gs) vs ws a b e = cc
same-parts s (h ∷ hs) [] vs ws a b e = cc
same-parts s (h ∷ hs) (g ∷ gs) vs ws a b e =
    let first = first-of _ _ _ _ e in
    let at : h.instant ≡ g.instant = ap (λ (a : ℤ × Values). a.0) first in
    let part : take (h.end - s) (drop s vs) ≡ take (g.end - s) (drop s ws) = ap (λ (a : ℤ × Values). a.1) first in
    let long : h.end - s ≡ g.end - s =
    sym (length-part s h.end vs a.0 (ends-within h.end hs (length vs) a.2))
    ∙ ap (λ (v : Values). length v) part ∙ length-part s g.end ws b.0 (ends-within g.end gs (length ws) b.2) in
    let ends : h.end ≡ g.end = omega (arith, long, a.0, b.0) in
    let rests : rows_from h.end hs vs ≡ rows_from g.end gs ws = ap (λ (es : Answers). drop 1 es) e in
    let more = same-parts h.end hs gs vs ws a.2 (subst (λ (n : ℕ). AreEnded n gs (length ws)) (sym ends) b.2)
    (rests ∙ ap (λ (n : ℕ). rows_from n gs ws) (sym ends)) in
    let past : s + (h.end - s) ≡ h.end = omega (arith, a.0) in
    let behind : drop (h.end - s) (drop s vs) ≡ drop (h.end - s) (drop s ws) =
    drop-drop (h.end - s) s vs ∙ ap (λ (n : ℕ). drop n vs) past ∙ more.1 ∙ ap (λ (n : ℕ). drop n ws) (sym past) ∙ sym (drop-drop (h.end - s) s ws) in (
      ap₂ (λ (x : AnswerHead) (xs : List AnswerHead). x ∷ xs) (head-same h g at ends) more.0,
      two (drop s vs) (drop s ws) (h.end - s) (part ∙ ap (λ (n : ℕ). take n (drop s ws)) (sym long)) behind,
    )
