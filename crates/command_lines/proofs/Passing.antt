-- What a parse found of an option passed that option's parser.
use Rattle.std.proofs.Common.{◌++◌, ◌≡◌, ◌∙◌, ◌<◌, ◌||◌, ◌&&◌, not, ap, append-nil, append_assoc, map, ℕ, Bool, true, false, List, [], ◌∷◌, length, Option, Some, None, refl, sym, subst, inl, inr, arith, codes, zero, suc}
use Rattle.std.specs.List.{All, slice_index_or}
use Rattle.std.specs.Str.{bytes_eq}
use Rattle.std.specs.Prelude.{option_map, slice_get}
use Rattle.std.specs.Borrow.{Bor}
use Rattle.std.proofs.lemmas.Slice.Eq.{bytes_eq-Decides}
use Rattle.std.proofs.lemmas.List.Elements.{All-get_or, All-nil}
use Rattle.clap.specs.Facts.{args_of, groups_of, Entry, EntryPasses, PassesArg, HasReading, parser_of, parser_of_value}
use Rattle.clap.specs.Built.{IsPlain, IsPlainArg, IsParsedFrom, IsAuto, AddsArg, AddsInTurn, FitsChain, HasDistinctIds, KeepsList, SameRules}
use Rattle.clap.specs.Matches.{matched_of, one_text, found_of}
use Rattle.clap.specs.Values.{Accepts, read_as, reading_of}
use Rattle.clap.specs.declared.parser.matches.MatchedArg.{MatchedArg}
use Rattle.clap.specs.declared.parser.matches.ArgMatches.{ArgMatches}
use Rattle.clap.specs.declared.builder.value_parser.Reading.{Reading}
use Rattle.clap.specs.declared.builder.value_parser.ValueParser.{ValueParser}
use Rattle.clap.specs.declared.builder.arg.Arg.{Arg}
use Rattle.clap.specs.declared.builder.command.Command.{Command}
use Rattle.clap.specs.declared.builder.command.Command.TheViews.{out-Command}
use Rattle.clap.proofs.CallerLemmas.{entry_by_id, same_rules_by_id, added_plain}

-- ---- one entry

-- a value that the entry has, and how it is read
abbrev Read : Command → List ℕ → List ℕ → Type 0
Read c id t = (v : List ℕ) × (how : Reading) × (t ≡ read_as how v) × HasReading c id how × PassesArg c id v

first_read : (c : Command) (id : List ℕ) (how : Reading) (vs : List (Bor (List ℕ))) (t : List ℕ) → HasReading c id how → All (λ v. PassesArg c id v.now) vs
    → option_map (λ s. read_as how s.now) (slice_get vs 0) ≡ Some t → Read c id t
first_read c id how [] t reads passes e = absurd (cc)
first_read c id how (v ∷ vs) t reads passes e = (v.now, how, cc, reads, All-get_or (λ v. PassesArg c id v.now) (v ∷ vs) 0 v (omega arith) passes)

entry_read : (c : Command) (id : List ℕ) (t : List ℕ) (e : Entry) → groups_of c ≡ [] → (id ≡ [] → ⊥) → e.0.now ≡ id → EntryPasses c e
    → option_map (λ s. read_as e.1.reading s.now) (slice_get e.1.vals.items 0) ≡ Some t → Read c id t
entry_read c id t e no_groups named key pass text =
    let no_group : e.1.is_group ≡ true → ⊥ = λ g. elim (pass.3 g) [
      | inl empty ↦ named (sym key ∙ empty)
      | inr lots ↦
          let bad : 0 < 0 = rw no_groups at lots in
          absurd (omega arith)
    ] in
    let all : All (λ v. PassesArg c id v.now) e.1.vals.items = elim pass.0 [
      | inl g ↦ absurd (no_group g)
      | inr vals ↦ subst (λ (w : List ℕ). All (λ v. PassesArg c w v.now) e.1.vals.items) key vals
    ] in
    let reads : HasReading c id e.1.reading = elim pass.4 [
      | inl g ↦ absurd (no_group g)
      | inr h ↦ subst (λ (w : List ℕ). HasReading c w e.1.reading) key h
    ] in
    first_read c id e.1.reading e.1.vals.items t reads all text

-- ---- the caller's argument

abbrev Only : Command → ℕ → Arg → Type 0
Only old k d = (j : ℕ) (e : Arg) → j < length (args_of old) → bytes_eq (slice_index_or (args_of old) j e).id.now (slice_index_or (args_of old) k d).id.now ≡ true → j ≡ k

-- the text that a parse found of the one argument of an id is a value that passed the argument's parser, read as that parser says
text_passes : (old : Command) (m : ArgMatches) (p : IsParsedFrom old m) → IsPlain old → (out-Command old).has_globals ≡ false
    → (k : ℕ) (d : Arg) → k < length (args_of old) → Only old k d → ((slice_index_or (args_of old) k d).id.now ≡ [] → ⊥) → (IsAuto (slice_index_or (args_of old) k d) → ⊥)
    → (q : ValueParser) → (slice_index_or (args_of old) k d).value_parser ≡ Some q
    → (t : List ℕ) → one_text (found_of m) (slice_index_or (args_of old) k d).id.now ≡ Some t
    → (v : List ℕ) × (t ≡ read_as (reading_of q) v) × Accepts (slice_index_or (args_of old) k d).ignore_case q v
text_passes old m p plain globals k d lt only named own q parser t text = go (matched_of (found_of m) id) refl
  where
    id : List ℕ
    id = (slice_index_or (args_of old) k d).id.now

    -- an argument of that id in the built command has the caller's parser
    same : (j : ℕ) (x : Arg) → j < length (args_of p.built) → slice_index_or (args_of p.built) j x ≡ x → bytes_eq x.id.now id ≡ true → SameRules (slice_index_or (args_of old) k d) x
    same = same_rules_by_id old m p k d lt only own

    finish : Read p.built id t → (v : List ℕ) × (t ≡ read_as (reading_of q) v) × Accepts (slice_index_or (args_of old) k d).ignore_case q v
    finish r =
        let by = r.3 in
        let how_is : reading_of q ≡ r.1 = ap reading_of (sym (ap parser_of_value ((same by.0 by.1 by.2 by.3 by.4.0).parser q parser))) ∙ by.4.1 in
        let pass = r.4 in
        let s = same pass.0 pass.1 pass.2 pass.3 pass.4.0 in
        let is_q : parser_of pass.1 ≡ q = ap parser_of_value (s.parser q parser) in
        let as_q : Accepts pass.1.ignore_case q r.0 = subst (λ (w : ValueParser). Accepts pass.1.ignore_case w r.0) is_q pass.4.1 in (
          r.0,
          r.2 ∙ ap (λ how. read_as how r.0) (sym how_is),
          subst (λ (b : Bool). Accepts b q r.0) s.ignore_case as_q,
        )

    go : (o : Option MatchedArg) → matched_of (found_of m) id ≡ o → (v : List ℕ) × (t ≡ read_as (reading_of q) v) × Accepts (slice_index_or (args_of old) k d).ignore_case q v
    go None e =
        let bad : None ≡ Some t = rw e at text in
        absurd (cc)
    go (Some x) e =
        let parsed = p.parsed (p.from.globals ∙ globals) in
        let got = entry_by_id (EntryPasses p.built) (found_of m).entries.items id x parsed.values e in
        let read : option_map (λ s. read_as x.reading s.now) (slice_get x.vals.items 0) ≡ Some t = rw e at text in
        finish (entry_read p.built id t got.0 (p.from.plain plain).1 named ((bytes_eq-Decides got.0.0.now id).0 got.2) got.3
        (subst (λ (y : MatchedArg). option_map (λ s. read_as y.reading s.now) (slice_get y.vals.items 0) ≡ Some t) (sym got.1) read))

-- ---- a command of a list of arguments

all_rest : {X : Type 0} (P : X → Type 0) (x : X) (xs : List X) → All P (x ∷ xs) → All P xs
all_rest P x xs h = λ k d lt. h (suc k) d (omega arith)

places : (x y : Arg) (xs ys : List Arg) → SameRules x y
    → ((k : ℕ) (e g : Arg) → k < length xs → SameRules (slice_index_or xs k e) (slice_index_or ys k g))
    → (k : ℕ) (e g : Arg) → k < length (x ∷ xs) → SameRules (slice_index_or (x ∷ xs) k e) (slice_index_or (y ∷ ys) k g)
places x y xs ys r rest zero e g lt = r
places x y xs ys r rest (suc n) e g lt = rest n e g (omega arith)

-- a chain of `.arg(..)` calls adds these arguments, place by place, and leaves a command of the same kind
chain : (c d : Command) (xs : List Arg) → AddsInTurn AddsArg c xs d → All FitsChain xs → IsPlain c → (out-Command c).has_globals ≡ false
    → (ys : List Arg) × (args_of d ≡ args_of c ++ ys) × KeepsList xs ys × IsPlain d × ((out-Command d).has_globals ≡ false)
chain c d [] h all plain globals =
    ([], rw h (sym (append-nil _)), (refl, (λ k e f lt. absurd (omega arith))), rw (← h) plain, rw (← h) globals)
chain c d (x ∷ xs) h all plain globals =
    let added = h.1 in
    let fit = all 0 x (omega arith) in
    let plain2 = added_plain c h.0 x added plain fit.0 in
    let globals2 = added.globals ∙ (ap (λ b. b || x.global) globals ∙ ap (λ b. false || b) fit.1) in
    let f = chain h.0 d xs h.2 (all_rest FitsChain x xs all) plain2 globals2 in (
      added.arg ∷ f.0,
      f.1 ∙ (ap (λ l. l ++ f.0) added.args ∙ append_assoc (args_of c) (added.arg ∷ []) f.0),
      (ap suc f.2.0, places x added.arg xs f.0 added.rules f.2.1),
      f.3,
      f.4,
    )

-- the text that a parse found of an argument of such a chain passed that argument's parser
pub chained_passes : (start cmd : Command) (xs : List Arg) (k : ℕ) (d : Arg) (m : ArgMatches) → AddsInTurn AddsArg start xs cmd
    → args_of start ≡ [] → groups_of start ≡ [] → (out-Command start).has_globals ≡ false
    → All FitsChain xs → HasDistinctIds xs → k < length xs → (q : ValueParser) → (slice_index_or xs k d).value_parser ≡ Some q → IsParsedFrom cmd m
    → (t : List ℕ) → one_text (found_of m) (slice_index_or xs k d).id.now ≡ Some t
    → (v : List ℕ) × (t ≡ read_as (reading_of q) v) × Accepts (slice_index_or xs k d).ignore_case q v
chained_passes start cmd xs k d m added args groups globals all distinct lt q parser p t text =
    let start_plain : IsPlain start = (subst (All IsPlainArg) (sym args) (All-nil IsPlainArg), groups) in
    let f = chain start cmd xs added all start_plain globals in
    let list : args_of cmd ≡ f.0 = f.1 ∙ ap (λ l. l ++ f.0) args in
    let a = slice_index_or xs k d in
    let b = slice_index_or (args_of cmd) k d in
    let elem : b ≡ slice_index_or f.0 k d = ap (λ l. slice_index_or l k d) list in
    let rules = f.2.1 k d d lt in
    let fit = all k d lt in
    let len : length (args_of cmd) ≡ length xs = ap length list ∙ f.2.0 in
    let in_cmd : k < length (args_of cmd) = omega arith in
    let same_id : b.id ≡ a.id = ap (λ x. x.id) elem ∙ rules.id in
    let same_now : b.id.now ≡ a.id.now = ap (λ x. x.now) same_id in
    let same_parser : b.value_parser ≡ Some q = ap (λ x. x.value_parser) elem ∙ rules.parser q parser in
    let same_case : b.ignore_case ≡ a.ignore_case = ap (λ x. x.ignore_case) elem ∙ rules.ignore_case in
    let only : Only cmd k d = λ j e low same.
    let in_xs : j < length xs = omega arith in
    let there : (slice_index_or (args_of cmd) j e).id ≡ (slice_index_or xs j e).id =
    ap (λ x. x.id) (ap (λ l. slice_index_or l j e) list) ∙ (f.2.1 j e e in_xs).id in
    distinct j k d e in_xs lt (rw (← ap (λ x. x.now) there, ← same_now) same) in
    let got = text_passes cmd m p f.3 f.4 k d in_cmd only (λ empty. fit.2 (sym same_now ∙ empty))
    (λ auto. fit.3 (elim auto [ inl h ↦ inl (sym same_now ∙ h) | inr h ↦ inr (sym same_now ∙ h) ]))
    q same_parser t (subst (λ (w : List ℕ). one_text (found_of m) w ≡ Some t) (sym same_now) text) in
    (got.0, got.1, subst (λ (x : Bool). Accepts x q got.0) same_case got.2)

-- ---- ids, as they are written out

abbrev apart : List ℕ → List (List ℕ) → Bool
apart x [] = true
apart x (y ∷ ys) = not (bytes_eq x y) && apart x ys

-- no two of them are one
abbrev pub distinct : List (List ℕ) → Bool
distinct [] = true
distinct (x ∷ xs) = apart x xs && distinct xs

-- none is empty, or that of the help or the version flag
abbrev pub ordinary : List (List ℕ) → Bool
ordinary ids = apart [] ids && (apart (codes "help") ids && apart (codes "version") ids)

both : (x y : Bool) → x && y ≡ true → (x ≡ true) × (y ≡ true)
both true true e = (refl, refl)
both true false e = cc
both false y e = cc

is_apart : (x : List ℕ) (ys : List (List ℕ)) → apart x ys ≡ true → (k : ℕ) (d : List ℕ) → k < length ys → x ≡ slice_index_or ys k d → ⊥
is_apart x [] e k d lt same = absurd (omega arith)
is_apart x (y ∷ ys) e zero d lt same =
    let t : bytes_eq x y ≡ true = (bytes_eq-Decides x y).1 same in
    let f = (both (not (bytes_eq x y)) (apart x ys) e).0 in
    let bad : not true ≡ true = rw t at f in
    absurd (cc)
is_apart x (y ∷ ys) e (suc k) d lt same = is_apart x ys (both (not (bytes_eq x y)) (apart x ys) e).1 k d (omega arith) same

is_distinct : (xs : List (List ℕ)) → distinct xs ≡ true → (j k : ℕ) (d e : List ℕ) → j < length xs → k < length xs → slice_index_or xs j e ≡ slice_index_or xs k d → j ≡ k
is_distinct [] is j k d e low high same = absurd (omega arith)
is_distinct (x ∷ xs) is zero zero d e low high same = refl
is_distinct (x ∷ xs) is zero (suc k) d e low high same = absurd (is_apart x xs (both (apart x xs) (distinct xs) is).0 k d (omega arith) same)
is_distinct (x ∷ xs) is (suc j) zero d e low high same = absurd (is_apart x xs (both (apart x xs) (distinct xs) is).0 j e (omega arith) (sym same))
is_distinct (x ∷ xs) is (suc j) (suc k) d e low high same = ap suc (is_distinct xs (both (apart x xs) (distinct xs) is).1 j k d e (omega arith) (omega arith) same)

abbrev pub ids_of : List Arg → List (List ℕ)
ids_of xs = map (λ (a : Arg). a.id.now) xs

id_at : (xs : List Arg) (k : ℕ) (d : Arg) → slice_index_or (ids_of xs) k d.id.now ≡ (slice_index_or xs k d).id.now
id_at [] k d = refl
id_at (x ∷ xs) zero d = refl
id_at (x ∷ xs) (suc k) d = id_at xs k d

ids_many : (xs : List Arg) → length (ids_of xs) ≡ length xs
ids_many [] = refl
ids_many (x ∷ xs) = ap suc (ids_many xs)

-- arguments of distinct ids
pub has_distinct : (xs : List Arg) (ids : List (List ℕ)) → ids_of xs ≡ ids → distinct ids ≡ true → HasDistinctIds xs
has_distinct xs ids is e = λ j k d e' low high same.
    let many = ids_many xs in
    is_distinct (ids_of xs) (ap distinct is ∙ e) j k d.id.now e'.id.now (omega arith) (omega arith)
    (id_at xs j e' ∙ (bytes_eq-Decides _ _).0 same ∙ sym (id_at xs k d))

-- what a chain asks of an argument but for its id
abbrev pub FitsElse : Arg → Type 0
FitsElse a = IsPlainArg a × (a.global ≡ false)

-- arguments of ordinary ids fit a chain
pub fits : (xs : List Arg) (ids : List (List ℕ)) → ids_of xs ≡ ids → ordinary ids ≡ true → All FitsElse xs → All FitsChain xs
fits xs ids is e all = λ k d lt.
    let many = ids_many xs in
    let by = both (apart [] (ids_of xs)) (apart (codes "help") (ids_of xs) && apart (codes "version") (ids_of xs)) (ap ordinary is ∙ e) in
    let auto = both (apart (codes "help") (ids_of xs)) (apart (codes "version") (ids_of xs)) by.1 in
    let at = id_at xs k d in (
      (all k d lt).0,
      (all k d lt).1,
      (λ empty. is_apart [] (ids_of xs) by.0 k d.id.now (omega arith) (sym empty ∙ sym at)),
      (λ own. elim own [
        | inl h ↦ is_apart (codes "help") (ids_of xs) auto.0 k d.id.now (omega arith) (sym h ∙ sym at)
        | inr v ↦ is_apart (codes "version") (ids_of xs) auto.1 k d.id.now (omega arith) (sym v ∙ sym at)
      ]),
    )
