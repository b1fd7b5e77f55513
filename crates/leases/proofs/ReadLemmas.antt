-- The sources of a query over a stream, one after the other.
use Rattle.std.proofs.Common.{◌≡◌, ◌≢◌, ◌⊎◌, inl, inr, ℕ, true, false, ◌==◌, cond, List, [], ◌∷◌, ◌++◌, map, length, refl, sym, ap, ◌∙◌, append-nil, append_assoc, arith}
use Rattle.std.proofs.lemmas.Bool.{eq-eqb, ne_eqb}
use Rattle.std.proofs.lemmas.List.{map-append}
use Rattle.values.specs.Resolved.{window_of}
use Rattle.values.specs.declared.resolved.Window.{Window}
use Rattle.reference.specs.Machine.{Registered}
use Rattle.needed_rows.specs.Needed.{PlainReader, reader_in, readers_in}
use Rattle.needed_rows.specs.Queries.{reader_at, readers_of}
use Rattle.leases.specs.Views.{place_of}
use Rattle.leases.specs.declared.registered.SourcePlace.{SourcePlace}
use Rattle.needed_rows.specs.declared.reader.Reader.{Reader}

module _ (n : ℕ) (q : Registered) (next : ℕ) where
  pub more_read : (rs rs2 : List Reader) (r : Reader) (w : Window) (ws ws2 : List Window) (p : SourcePlace) (ps ps2 : List SourcePlace) (all : List PlainReader) → ps ≡ p ∷ ps2 → ws ≡ w ∷ ws2 → p.stream ≡ n → reader_in r ≡ reader_at q next (window_of w) (place_of p)
      → rs2 ≡ rs ++ r ∷ [] → readers_in rs ++ readers_of n q next (map window_of ws) (map place_of ps) ≡ all → readers_in rs2 ++ readers_of n q next (map window_of ws2) (map place_of ps2) ≡ all
  more_read rs rs2 r w ws ws2 p ps ps2 all a b same is made h =
      let later : List PlainReader = readers_of n q next (map window_of ws2) (map place_of ps2) in
      let hit : (p.stream == n) ≡ true = eq-eqb p.stream n same in
      ap (λ l. readers_in l ++ later) made ∙ ap (λ l. l ++ later) (map-append reader_in rs (r ∷ [])) ∙ append_assoc (readers_in rs) (reader_in r ∷ []) later
      ∙ ap (λ x. readers_in rs ++ x ∷ later) is
      ∙ ap (λ c. readers_in rs ++ cond c (reader_at q next (window_of w) (place_of p) ∷ later) later) (sym hit)
      ∙ ap (λ vs. readers_in rs ++ readers_of n q next (map window_of vs) (map place_of (p ∷ ps2))) (sym b)
      ∙ ap (λ vs. readers_in rs ++ readers_of n q next (map window_of ws) (map place_of vs)) (sym a) ∙ h

  pub other_read : (rs : List Reader) (w : Window) (ws ws2 : List Window) (p : SourcePlace) (ps ps2 : List SourcePlace) (all : List PlainReader) → ps ≡ p ∷ ps2 → ws ≡ w ∷ ws2 → p.stream ≢ n
      → readers_in rs ++ readers_of n q next (map window_of ws) (map place_of ps) ≡ all → readers_in rs ++ readers_of n q next (map window_of ws2) (map place_of ps2) ≡ all
  other_read rs w ws ws2 p ps ps2 all a b other h =
      let later : List PlainReader = readers_of n q next (map window_of ws2) (map place_of ps2) in
      let missed : (p.stream == n) ≡ false = ne_eqb p.stream n other in
      ap (λ c. readers_in rs ++ cond c (reader_at q next (window_of w) (place_of p) ∷ later) later) (sym missed)
      ∙ ap (λ vs. readers_in rs ++ readers_of n q next (map window_of vs) (map place_of (p ∷ ps2))) (sym b)
      ∙ ap (λ vs. readers_in rs ++ readers_of n q next (map window_of ws) (map place_of vs)) (sym a) ∙ h

  none_left : (ws : List Window) (ps : List SourcePlace) → (length ps ≡ 0) ⊎ (length ws ≡ 0) → readers_of n q next (map window_of ws) (map place_of ps) ≡ []
  none_left [] ps e = refl
  none_left (w ∷ ws) [] e = refl
  none_left (w ∷ ws) (p ∷ ps) (inl e) = absurd (omega (arith, e))
  none_left (w ∷ ws) (p ∷ ps) (inr e) = absurd (omega (arith, e))

  pub all_read : (rs : List Reader) (ws : List Window) (ps : List SourcePlace) (all : List PlainReader) → (length ps ≡ 0) ⊎ (length ws ≡ 0) → readers_in rs ++ readers_of n q next (map window_of ws) (map place_of ps) ≡ all → readers_in rs ≡ all
  all_read rs ws ps all e h = sym (append-nil (readers_in rs)) ∙ ap (λ l. readers_in rs ++ l) (sym (none_left ws ps e)) ∙ h
