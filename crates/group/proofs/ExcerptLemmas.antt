-- Touched groups, and what groups show from a tick on, kept in lists side by side.
use Rattle.std.proofs.Common.{◌≡◌, ℕ, zero, suc, ◌+◌, ◌≤◌, ◌<◌, ℤ, pos, Bool, false, cond, Option, Some, None, List, [], ◌∷◌, ◌++◌, length, map, take, get_or, refl, ap, ap₂, sym, ◌∙◌, subst, arith, append_assoc, append-nil}
use Rattle.std.specs.Bool.{Decides}
use Rattle.std.specs.Option.{is_some, option_map}
use Rattle.std.proofs.lemmas.Bool.{true≢false}
use Rattle.std.proofs.Math.ListN.{get_or-map}
use Rattle.std.proofs.lemmas.List.{length-map, map-append, take_all, take_more}
use Rattle.std.proofs.lemmas.Bool.Decides.{Decides-like}
use Rattle.values.specs.Row.{Row}
use Rattle.group.specs.Groups.{GroupBy}
use Rattle.group.specs.Cells.{Held, held}
use Rattle.group.specs.Turns.{ShownState, TouchedState, outputs, row_now, shown_now, swap_of}
use Rattle.op_queue.specs.Flat.{FlatState, with_signed}
use Rattle.group.specs.Excerpts.{rows_there, values_of, AreRows, touched_of, ListTouched, no_touched, touched_at, shown_of, ListShown, no_shown, shown_at_place}
use Rattle.group.specs.declared.cells.Figure.{Figure}

-- where a part is not equal, the whole is not
pub differs : {P Q : Type 0} (b r : Bool) → b ≡ false → r ≡ false → Decides b P → (Q → P) → Decides r Q
differs b r f g d h = (λ t. absurd (true≢false (sym t ∙ g)), λ q. absurd (true≢false (sym (d.1 (h q)) ∙ f)))

pub some-map : {X Y : Type 0} (f : X → Y) (o : Option X) → is_some (option_map f o) ≡ is_some o
some-map f None = refl
some-map f (Some x) = refl

-- ROWS THAT MAY BE MISSING
rows-there : (os : List (Option Held)) → rows_there (map is_some os) (map values_of os) ≡ os
rows-there [] = refl
rows-there (None ∷ os) = ap (λ (ps : List (Option Held)). None ∷ ps) (rows-there os)
rows-there (Some h ∷ os) = ap (λ (ps : List (Option Held)). Some h ∷ ps) (rows-there os)

pub rows-are : (bs : List Bool) (rs : List Row) (os : List (Option Held)) → AreRows bs rs os → rows_there bs rs ≡ os
rows-are bs rs os is = ap₂ (λ (cs : List Bool) (qs : List Row). rows_there cs qs) is.there is.values ∙ rows-there os

pub are-rows : (bs : List Bool) (rs : List Row) (os : List (Option Held)) → AreRows bs rs os → AreRows bs rs (rows_there bs rs)
are-rows bs rs os is = subst (AreRows bs rs) (sym (rows-are bs rs os is)) is

pub rows-push : (bs : List Bool) (rs : List Row) (os : List (Option Held)) (o : Option Held) → AreRows bs rs os → AreRows (bs ++ is_some o ∷ []) (rs ++ values_of o ∷ []) (os ++ o ∷ [])
rows-push bs rs os o is = record {
  there = ap (λ (cs : List Bool). cs ++ is_some o ∷ []) is.there ∙ sym (map-append is_some os (o ∷ []));
  values = ap (λ (qs : List Row). qs ++ values_of o ∷ []) is.values ∙ sym (map-append values_of os (o ∷ []));
}

-- the row at a place
pub record RowAtPlace (bs : List Bool) (rs : List Row) (now : List (Option Held)) (k : ℕ) : Type 0 where
  pub marked : k < length bs
  pub within : k < length rs
  pub row : cond (get_or bs k false) (Some (held (get_or rs k []))) None ≡ get_or now k None

row-there : (os : List (Option Held)) (k : ℕ) → cond (get_or (map is_some os) k false) (Some (held (get_or (map values_of os) k []))) None ≡ get_or os k None
row-there [] k = refl
row-there (None ∷ os) zero = refl
row-there (Some h ∷ os) zero = refl
row-there (o ∷ os) (suc k) = row-there os k

pub row-at : (bs : List Bool) (rs : List Row) (now : List (Option Held)) (k : ℕ) → AreRows bs rs (rows_there bs rs) → rows_there bs rs ≡ now → k < length now → RowAtPlace bs rs now k
row-at bs rs now k was view lt =
    let is : AreRows bs rs now = subst (AreRows bs rs) view was in
    record {
      marked = omega (arith, lt, ap length is.there, length-map now is_some);
      within = omega (arith, lt, ap length is.values, length-map now values_of);
      row = ap₂ (λ (cs : List Bool) (qs : List Row). cond (get_or cs k false) (Some (held (get_or qs k []))) None) is.there is.values ∙ row-there now k;
    }

pub same-rows : (bs cs : List Bool) (rs qs : List Row) (os ps : List (Option Held)) (r : Bool) → AreRows bs rs os → AreRows cs qs ps → Decides r ((bs ≡ cs) × (rs ≡ qs)) → Decides r (os ≡ ps)
same-rows bs cs rs qs os ps r is js d =
    Decides-like r (λ e. sym (rows-are bs rs os is) ∙ ap₂ (λ (ds : List Bool) (xs : List Row). rows_there ds xs) e.0 e.1 ∙ rows-are cs qs ps js)
    (λ e. (is.there ∙ ap (map is_some) e ∙ sym js.there, is.values ∙ ap (map values_of) e ∙ sym js.values)) d

-- TOUCHED GROUPS
touched-of : (ts : List TouchedState) → touched_of (map (λ t. t.key.items) ts) (map (λ t. t.shown) ts) (map (λ t. t.rows) ts) (map (λ t. t.figures) ts) ≡ ts
touched-of [] = refl
touched-of (t ∷ ts) = ap (λ (us : List TouchedState). t ∷ us) (touched-of ts)

pub touched-are : (ks : List Row) (ss : List (Option Held)) (rs : List ℤ) (fs : List (List Figure)) (ts : List TouchedState) → ListTouched ks ss rs fs ts → touched_of ks ss rs fs ≡ ts
touched-are ks ss rs fs ts is = (λ i. touched_of (is.keys i) (is.shown i) (is.rows i) (is.figures i)) ∙ touched-of ts

pub are-touched : (ks : List Row) (ss : List (Option Held)) (rs : List ℤ) (fs : List (List Figure)) (ts : List TouchedState) → ListTouched ks ss rs fs ts → ListTouched ks ss rs fs (touched_of ks ss rs fs)
are-touched ks ss rs fs ts is = subst (ListTouched ks ss rs fs) (sym (touched-are ks ss rs fs ts is)) is

pub touched-push : (ks : List Row) (ss : List (Option Held)) (rs : List ℤ) (fs : List (List Figure)) (ts : List TouchedState) (t : TouchedState) → ListTouched ks ss rs fs ts
    → ListTouched (ks ++ t.key.items ∷ []) (ss ++ t.shown ∷ []) (rs ++ t.rows ∷ []) (fs ++ t.figures ∷ []) (ts ++ t ∷ [])
touched-push ks ss rs fs ts t is = record {
  keys = ap (λ (xs : List Row). xs ++ t.key.items ∷ []) is.keys ∙ sym (map-append (λ (u : TouchedState). u.key.items) ts (t ∷ []));
  shown = ap (λ (xs : List (Option Held)). xs ++ t.shown ∷ []) is.shown ∙ sym (map-append (λ (u : TouchedState). u.shown) ts (t ∷ []));
  rows = ap (λ (xs : List ℤ). xs ++ t.rows ∷ []) is.rows ∙ sym (map-append (λ (u : TouchedState). u.rows) ts (t ∷ []));
  figures = ap (λ (xs : List (List Figure)). xs ++ t.figures ∷ []) is.figures ∙ sym (map-append (λ (u : TouchedState). u.figures) ts (t ∷ []));
}

-- how many groups there are, and what there is of the group at a place
pub record TouchedAt (ks : List Row) (ss : List (Option Held)) (rs : List ℤ) (fs : List (List Figure)) (now : List TouchedState) (k : ℕ) : Type 0 where
  pub keys : length ks ≡ length now
  pub shown : length ss ≡ length now
  pub rows : length rs ≡ length now
  pub figures : length fs ≡ length now
  pub key_at : get_or ks k [] ≡ (touched_at now k).key.items
  pub shown_at : get_or ss k None ≡ (touched_at now k).shown
  pub rows_at : get_or rs k (pos 0) ≡ (touched_at now k).rows
  pub figures_at : get_or fs k [] ≡ (touched_at now k).figures

pub touched-at : (ks : List Row) (ss : List (Option Held)) (rs : List ℤ) (fs : List (List Figure)) (now : List TouchedState) (k : ℕ) → ListTouched ks ss rs fs (touched_of ks ss rs fs) → touched_of ks ss rs fs ≡ now → TouchedAt ks ss rs fs now k
touched-at ks ss rs fs now k was view =
    let is : ListTouched ks ss rs fs now = subst (ListTouched ks ss rs fs) view was in
    record {
      keys = ap length is.keys ∙ length-map now (λ (t : TouchedState). t.key.items);
      shown = ap length is.shown ∙ length-map now (λ (t : TouchedState). t.shown);
      rows = ap length is.rows ∙ length-map now (λ (t : TouchedState). t.rows);
      figures = ap length is.figures ∙ length-map now (λ (t : TouchedState). t.figures);
      key_at = ap (λ (xs : List Row). get_or xs k []) is.keys ∙ get_or-map (λ (t : TouchedState). t.key.items) now k no_touched;
      shown_at = ap (λ (xs : List (Option Held)). get_or xs k None) is.shown ∙ get_or-map (λ (t : TouchedState). t.shown) now k no_touched;
      rows_at = ap (λ (xs : List ℤ). get_or xs k (pos 0)) is.rows ∙ get_or-map (λ (t : TouchedState). t.rows) now k no_touched;
      figures_at = ap (λ (xs : List (List Figure)). get_or xs k []) is.figures ∙ get_or-map (λ (t : TouchedState). t.figures) now k no_touched;
    }

pub same-touched : (ks ls : List Row) (ss us : List (Option Held)) (rs qs : List ℤ) (fs gs : List (List Figure)) (ts vs : List TouchedState) (r : Bool) → ListTouched ks ss rs fs ts → ListTouched ls us qs gs vs
    → Decides r ((ks ≡ ls) × ((ss ≡ us) × ((rs ≡ qs) × (fs ≡ gs)))) → Decides r (ts ≡ vs)
same-touched ks ls ss us rs qs fs gs ts vs r is js d =
    Decides-like r
    (λ e. sym (touched-are ks ss rs fs ts is) ∙ (λ i. touched_of (e.0 i) (e.1.0 i) (e.1.1.0 i) (e.1.1.1 i)) ∙ touched-are ls us qs gs vs js)
    (λ e. (
      is.keys ∙ ap (map (λ (t : TouchedState). t.key.items)) e ∙ sym js.keys,
      (
        is.shown ∙ ap (map (λ (t : TouchedState). t.shown)) e ∙ sym js.shown,
        (is.rows ∙ ap (map (λ (t : TouchedState). t.rows)) e ∙ sym js.rows, is.figures ∙ ap (map (λ (t : TouchedState). t.figures)) e ∙ sym js.figures),
      ),
    )) d

-- WHAT GROUPS SHOW
shown-of : (cs : List ShownState) → shown_of (map (λ c. c.key.items) cs) (map (λ c. c.row) cs) ≡ cs
shown-of [] = refl
shown-of (c ∷ cs) = ap (λ (ds : List ShownState). c ∷ ds) (shown-of cs)

pub shown-are : (ks : List Row) (rs : List (Option Held)) (cs : List ShownState) → ListShown ks rs cs → shown_of ks rs ≡ cs
shown-are ks rs cs is = ap₂ (λ (ls : List Row) (qs : List (Option Held)). shown_of ls qs) is.keys is.rows ∙ shown-of cs

pub are-shown : (ks : List Row) (rs : List (Option Held)) (cs : List ShownState) → ListShown ks rs cs → ListShown ks rs (shown_of ks rs)
are-shown ks rs cs is = subst (ListShown ks rs) (sym (shown-are ks rs cs is)) is

pub shown-push : (ks : List Row) (rs : List (Option Held)) (cs : List ShownState) (c : ShownState) → ListShown ks rs cs → ListShown (ks ++ c.key.items ∷ []) (rs ++ c.row ∷ []) (cs ++ c ∷ [])
shown-push ks rs cs c is = record {
  keys = ap (λ (xs : List Row). xs ++ c.key.items ∷ []) is.keys ∙ sym (map-append (λ (d : ShownState). d.key.items) cs (c ∷ []));
  rows = ap (λ (xs : List (Option Held)). xs ++ c.row ∷ []) is.rows ∙ sym (map-append (λ (d : ShownState). d.row) cs (c ∷ []));
}

pub record ShownAtPlace (ks : List Row) (rs : List (Option Held)) (now : List ShownState) (k : ℕ) : Type 0 where
  pub keys : length ks ≡ length now
  pub rows : length rs ≡ length now
  pub key_at : get_or ks k [] ≡ (shown_at_place now k).key.items
  pub row_at : get_or rs k None ≡ (shown_at_place now k).row

pub shown-at : (ks : List Row) (rs : List (Option Held)) (now : List ShownState) (k : ℕ) → ListShown ks rs (shown_of ks rs) → shown_of ks rs ≡ now → ShownAtPlace ks rs now k
shown-at ks rs now k was view =
    let is : ListShown ks rs now = subst (ListShown ks rs) view was in
    record {
      keys = ap length is.keys ∙ length-map now (λ (c : ShownState). c.key.items);
      rows = ap length is.rows ∙ length-map now (λ (c : ShownState). c.row);
      key_at = ap (λ (xs : List Row). get_or xs k []) is.keys ∙ get_or-map (λ (c : ShownState). c.key.items) now k no_shown;
      row_at = ap (λ (xs : List (Option Held)). get_or xs k None) is.rows ∙ get_or-map (λ (c : ShownState). c.row) now k no_shown;
    }

-- A TICK, GROUP BY GROUP
map-more : {X : Type 0} (f : TouchedState → X) (ts : List TouchedState) (k : ℕ) → k < length ts → map f (take k ts) ++ f (touched_at ts k) ∷ [] ≡ map f (take (k + 1) ts)
map-more f ts k lt = sym (map-append f (take k ts) (touched_at ts k ∷ [])) ∙ ap (map f) (sym (take_more ts k no_touched lt))

pub list-more : {X : Type 0} (f : TouchedState → X) (ts : List TouchedState) (k : ℕ) (xs ys : List X) → k < length ts → xs ≡ map f (take k ts) → ys ≡ xs ++ f (touched_at ts k) ∷ [] → ys ≡ map f (take (k + 1) ts)
list-more {X} f ts k xs ys lt is more = more ∙ ap (λ (zs : List X). zs ++ f (touched_at ts k) ∷ []) is ∙ map-more f ts k lt

outputs-append : (g : GroupBy) (ts us : List TouchedState) → outputs g (ts ++ us) ≡ outputs g ts ++ outputs g us
outputs-append g [] us = refl
outputs-append g (t ∷ ts) us =
    let first : List (Bool × Row) = swap_of (length g.items) t.shown (row_now g t) in
    ap (λ (rs : List (Bool × Row)). first ++ rs) (outputs-append g ts us) ∙ sym (append_assoc first (outputs g ts) (outputs g us))

pub rows-more : (g : GroupBy) (o p q : FlatState) (ts : List TouchedState) (k : ℕ) → o.width ≡ length g.items → k < length ts → p ≡ with_signed o (outputs g (take k ts))
    → q ≡ with_signed p (swap_of p.width (touched_at ts k).shown (row_now g (touched_at ts k))) → q ≡ with_signed o (outputs g (take (k + 1) ts))
rows-more g o p q ts k wide lt is more =
    let t = touched_at ts k in
    let done : List (Bool × Row) = outputs g (take k ts) in
    let last : List (Bool × Row) = swap_of (length g.items) t.shown (row_now g t) in
    let all : done ++ last ≡ outputs g (take (k + 1) ts) =
    ap (λ (rs : List (Bool × Row)). done ++ rs) (sym (append-nil last)) ∙ sym (outputs-append g (take k ts) (t ∷ [])) ∙ ap (outputs g) (sym (take_more ts k no_touched lt)) in
    more
    ∙ ap (λ (s : FlatState). with_signed s (swap_of s.width t.shown (row_now g t))) is
    ∙ ap (λ (n : ℕ). with_signed (with_signed o done) (swap_of n t.shown (row_now g t))) wide
    ∙ ap (λ (rs : List (Bool × Row)). record { width = o.width; rows = rs }) (append_assoc o.rows done last ∙ ap (λ (rs : List (Bool × Row)). o.rows ++ rs) all)

keys-shown : (g : GroupBy) (ts : List TouchedState) → map (λ t. t.key.items) ts ≡ map (λ c. c.key.items) (map (shown_now g) ts)
keys-shown g [] = refl
keys-shown g (t ∷ ts) = ap (λ (ks : List Row). t.key.items ∷ ks) (keys-shown g ts)

rows-shown : (g : GroupBy) (ts : List TouchedState) → map (row_now g) ts ≡ map (λ c. c.row) (map (shown_now g) ts)
rows-shown g [] = refl
rows-shown g (t ∷ ts) = ap (λ (rs : List (Option Held)). row_now g t ∷ rs) (rows-shown g ts)

-- after the last group
pub list-shown : (g : GroupBy) (ks : List Row) (rs : List (Option Held)) (ts : List TouchedState) (k : ℕ) → length ts ≤ k → ks ≡ map (λ t. t.key.items) (take k ts) → rs ≡ map (row_now g) (take k ts) → ListShown ks rs (map (shown_now g) ts)
list-shown g ks rs ts k le keys rows =
    let all : take k ts ≡ ts = take_all k ts le in
    record {
      keys = keys ∙ ap (map (λ (t : TouchedState). t.key.items)) all ∙ keys-shown g ts;
      rows = rows ∙ ap (map (row_now g)) all ∙ rows-shown g ts;
    }
