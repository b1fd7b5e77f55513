-- One piece of a line after another, where no more is written once a write has failed.
use Rattle.std.proofs.Common.{◌≡◌, ℕ, Bool, true, false, List, [], ◌++◌, Option, Result, Ok, Err, refl, ap, sym, ◌∙◌, subst, append_assoc}
use Rattle.std.specs.Result.{is_ok}
use Rattle.std.specs.Io.KnownBytes.{Appends}
use Rattle.wire.specs.Devices.{AppendsFront, Rises}
use Rattle.wire.specs.Paged.{Stands, Wrote, Writes, Puts}
use Rattle.wire.specs.declared.page.Page.{Page}
use Rattle.wire.proofs.Sinks.{Appends-both, Appends-nothing, append_nothing}

-- ---- from a page to what it holds, and back

from_page : (start : Option (List ℕ)) (before : ℕ) (now : Option (List ℕ)) (after : ℕ) (page : Page) (text : List ℕ) (is_sound : Bool) (held : List ℕ)
    → page.is_sound ≡ is_sound → page.bytes.items ≡ held → Wrote start before now after page text → Stands start before now after is_sound held text
from_page start before now after page text is_sound held e h w =
    subst (λ (b : Bool). Stands start before now after b held text) e (subst (λ l. Stands start before now after page.is_sound l text) h w)

onto_page : (start : Option (List ℕ)) (before : ℕ) (now : Option (List ℕ)) (after : ℕ) (page : Page) (text : List ℕ) (is_sound : Bool) (held : List ℕ)
    → page.is_sound ≡ is_sound → page.bytes.items ≡ held → Stands start before now after is_sound held text → Wrote start before now after page text
onto_page start before now after page text is_sound held e h w =
    subst (λ l. Stands start before now after page.is_sound l text) (sym h) (subst (λ (b : Bool). Stands start before now after b held text) (sym e) w)

-- ---- bytes that go onto the page

front_more : (start now : Option (List ℕ)) (text bytes : List ℕ) → AppendsFront start now text → AppendsFront start now (text ++ bytes)
front_more start now text bytes f = (f.0, f.1 ++ bytes, ap (λ l. l ++ bytes) f.2 ∙ append_assoc f.0 f.1 bytes, f.3)

stands_more : (start : Option (List ℕ)) (before : ℕ) (now : Option (List ℕ)) (after : ℕ) (is_sound : Bool) (held text bytes : List ℕ)
    → Stands start before now after is_sound held text → Stands start before now after is_sound (held ++ bytes) (text ++ bytes)
stands_more start before now after true held text bytes w = (w.0, ap (λ l. l ++ bytes) w.1 ∙ append_assoc w.0 held bytes, w.2, w.3)
stands_more start before now after false held text bytes w = (front_more start now text bytes w.0, w.1)

pub writes_held : (now : Option (List ℕ)) (fails : ℕ) (page page' : Page) (bytes : List ℕ) → page'.is_sound ≡ page.is_sound → page'.bytes.items ≡ page.bytes.items ++ bytes
    → Writes now fails page now fails page' bytes
writes_held now fails page page' bytes e h = record {
  along = λ start before text w.
      onto_page start before now fails page' (text ++ bytes) page.is_sound (page.bytes.items ++ bytes) e h (stands_more start before now fails page.is_sound page.bytes.items text bytes w);
}

pub writes_stopped : (now : Option (List ℕ)) (fails : ℕ) (page page' : Page) (bytes : List ℕ) → page.is_sound ≡ false → page'.is_sound ≡ false → Writes now fails page now fails page' bytes
writes_stopped now fails page page' bytes e e' = record {
  along = λ start before text w.
      let s = from_page start before now fails page text false page.bytes.items e refl w in
      onto_page start before now fails page' (text ++ bytes) false page'.bytes.items e' refl (front_more start now text bytes s.0, s.1);
}

-- ---- a write of what is held, or of more

stands_put : (start : Option (List ℕ)) (before : ℕ) (old new : Option (List ℕ)) (fails fails' : ℕ) (held text given bytes : List ℕ)
    → Stands start before old fails true held text → held ++ bytes ≡ given → Appends old new given × (fails' ≡ fails) → Stands start before new fails' true [] (text ++ bytes)
stands_put start before old new fails fails' held text given bytes w e p = (
  w.0 ++ given,
  ap (λ l. l ++ bytes) w.1 ∙ append_assoc w.0 held bytes ∙ ap (λ l. w.0 ++ l) e ∙ sym (append_nothing (w.0 ++ given)),
  Appends-both start old new w.0 given w.2 p.0,
  p.1 ∙ w.3,
)

stands_put_failed : (start : Option (List ℕ)) (before : ℕ) (old new : Option (List ℕ)) (fails fails' : ℕ) (held text given bytes after : List ℕ)
    → Stands start before old fails true held text → held ++ bytes ≡ given → AppendsFront old new given × Rises fails fails' → Stands start before new fails' false after (text ++ bytes)
stands_put_failed start before old new fails fails' held text given bytes after w e p =
    let f = p.0 in (
      (
        w.0 ++ f.0,
        f.1,
        ap (λ l. l ++ bytes) w.1 ∙ append_assoc w.0 held bytes ∙ ap (λ l. w.0 ++ l) (e ∙ f.2) ∙ sym (append_assoc w.0 f.0 f.1),
        Appends-both start old new w.0 f.0 w.2 f.3,
      ),
      subst (λ n. Rises n fails') w.3 p.1,
    )

pub writes_put : {T E : Type 0} (old new : Option (List ℕ)) (fails fails' : ℕ) (page page' : Page) (result : Result T E) (given bytes : List ℕ)
    → page.is_sound ≡ true → page.bytes.items ++ bytes ≡ given → page'.is_sound ≡ is_ok result → page'.bytes.items ≡ [] → Puts old new fails fails' result given
    → Writes old fails page new fails' page' bytes
writes_put old new fails fails' page page' (Ok a) given bytes e h e' h' p = record {
  along = λ start before text w.
      onto_page start before new fails' page' (text ++ bytes) true [] e' h'
      (stands_put start before old new fails fails' page.bytes.items text given bytes (from_page start before old fails page text true page.bytes.items e refl w) h p);
}
writes_put old new fails fails' page page' (Err f) given bytes e h e' h' p = record {
  along = λ start before text w.
      onto_page start before new fails' page' (text ++ bytes) false [] e' h'
      (stands_put_failed start before old new fails fails' page.bytes.items text given bytes [] (from_page start before old fails page text true page.bytes.items e refl w) h p);
}

-- ---- one after the other

pub writes_both : {a b c : Option (List ℕ)} {i j k : ℕ} {p q r : Page} {x y : List ℕ} → Writes a i p b j q x → Writes b j q c k r y → Writes a i p c k r (x ++ y)
writes_both {a} {b} {c} {i} {j} {k} {p} {q} {r} {x} {y} one two = record {
  along = λ start before text w.
      subst (λ l. Wrote start before c k r l) (append_assoc text x y) (two.along start before (text ++ x) (one.along start before text w));
}

pub write_text : {a b : Option (List ℕ)} {i j : ℕ} {p q : Page} {x : List ℕ} (y : List ℕ) → x ≡ y → Writes a i p b j q x → Writes a i p b j q y
write_text {a} {b} {i} {j} {p} {q} y e w = subst (λ l. Writes a i p b j q l) e w

-- ---- from an empty page on

pub wrote_nothing : (now : Option (List ℕ)) (fails : ℕ) (page : Page) → page.is_sound ≡ true → page.bytes.items ≡ [] → Wrote now fails now fails page []
wrote_nothing now fails page e h = onto_page now fails now fails page [] true [] e h ([], refl, Appends-nothing now, refl)

pub wrote_more : (start old new : Option (List ℕ)) (before fails fails' : ℕ) (page page' : Page) (text bytes : List ℕ) → Wrote start before old fails page text → Writes old fails page new fails' page' bytes
    → Wrote start before new fails' page' (text ++ bytes)
wrote_more start old new before fails fails' page page' text bytes w m = m.along start before text w

-- a page that is turned
pub wrote_same : (start old new : Option (List ℕ)) (before fails fails' : ℕ) (page page' : Page) (text : List ℕ) → Wrote start before old fails page text → Writes old fails page new fails' page' []
    → Wrote start before new fails' page' text
wrote_same start old new before fails fails' page page' text w m = subst (λ l. Wrote start before new fails' page' l) (append_nothing text) (m.along start before text w)

-- what was given to the sink, or held, without a failure
pub wrote_well : (start now : Option (List ℕ)) (before fails : ℕ) (page : Page) (text : List ℕ) → page.is_sound ≡ true → Wrote start before now fails page text → fails ≡ before
wrote_well start now before fails page text e w = (from_page start before now fails page text true page.bytes.items e refl w).3

pub wrote_all : (start now : Option (List ℕ)) (before fails : ℕ) (page : Page) (text : List ℕ) → page.is_sound ≡ true → page.bytes.items ≡ [] → Wrote start before now fails page text → Appends start now text
wrote_all start now before fails page text e h w =
    let s = from_page start before now fails page text true [] e h w in subst (λ l. Appends start now l) (sym (s.1 ∙ append_nothing s.0)) s.2

pub wrote_failed : (start now : Option (List ℕ)) (before fails : ℕ) (page : Page) (text : List ℕ) → page.is_sound ≡ false → Wrote start before now fails page text → AppendsFront start now text × Rises before fails
wrote_failed start now before fails page text e w = from_page start before now fails page text false page.bytes.items e refl w

-- in any case the sink took a front
front_stands : (start : Option (List ℕ)) (before : ℕ) (now : Option (List ℕ)) (after : ℕ) (is_sound : Bool) (held text : List ℕ) → Stands start before now after is_sound held text → AppendsFront start now text
front_stands start before now after true held text w = (w.0, held, w.1, w.2)
front_stands start before now after false held text w = w.0

pub wrote_front : (start now : Option (List ℕ)) (before fails : ℕ) (page : Page) (text : List ℕ) → Wrote start before now fails page text → AppendsFront start now text
wrote_front start now before fails page text w = front_stands start before now fails page.is_sound page.bytes.items text w

-- ---- a whole line, from an empty page to an empty one

line_so_far : (old new : Option (List ℕ)) (fails fails' : ℕ) (page page' : Page) (line : List ℕ) → page.is_sound ≡ true → page.bytes.items ≡ []
    → Writes old fails page new fails' page' line → Wrote old fails new fails' page' line
line_so_far old new fails fails' page page' line e h w = wrote_more old old new fails fails fails' page page' [] line (wrote_nothing old fails page e h) w

pub line_written : (old new : Option (List ℕ)) (fails fails' : ℕ) (page page' : Page) (line : List ℕ) → page.is_sound ≡ true → page.bytes.items ≡ [] → page'.is_sound ≡ true → page'.bytes.items ≡ []
    → Writes old fails page new fails' page' line → Appends old new line × (fails' ≡ fails)
line_written old new fails fails' page page' line e h e' h' w =
    let s = line_so_far old new fails fails' page page' line e h w in
    (wrote_all old new fails fails' page' line e' h' s, wrote_well old new fails fails' page' line e' s)

pub line_failed : (old new : Option (List ℕ)) (fails fails' : ℕ) (page page' : Page) (line : List ℕ) → page.is_sound ≡ true → page.bytes.items ≡ [] → page'.is_sound ≡ false → page'.bytes.items ≡ []
    → Writes old fails page new fails' page' line → AppendsFront old new line × Rises fails fails'
line_failed old new fails fails' page page' line e h e' h' w = wrote_failed old new fails fails' page' line e' (line_so_far old new fails fails' page page' line e h w)
