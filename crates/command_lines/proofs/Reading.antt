-- What is read of the options of a command line.
use Rattle.std.proofs.Common.{◌≡◌, ◌∙◌, ◌<◌, ◌^◌, ◌↔◌, ◌≤◌, ap, ℕ, Bool, true, false, List, [], ◌∷◌, length, Option, Some, None, Result, Ok, Err, refl, sym, subst, codes, zero, suc, arith}
use Rattle.std.specs.List.{All, slice_index_or}
use Rattle.std.specs.Prelude.{unwrap_or, option_map, MatchResult, IfOk, IfErr}
use Rattle.std.specs.Str.Parse.{ParsesUnsigned, ParsesBool}
use Rattle.clap.specs.Words.{App, AddsArg, Text, args_of, found_of, groups_of, matches_of, one_of, one_text, rows_of, ReadsOne}
use Rattle.clap.specs.Built.{AddsInTurn, IsParsedFrom}
use Rattle.clap.specs.declared.builder.arg.Arg.{Arg}
use Rattle.clap.specs.declared.builder.command.Command.{Command}
use Rattle.clap.specs.declared.builder.command.Command.TheViews.{out-Command}
use Rattle.clap.specs.declared.parser.matches.ArgMatches.{ArgMatches}
use Rattle.clap.proofs.WalkLemmas.{one_text-rows}
use Rattle.command_lines.specs.CommandLine.{between, number_in, number_or, refusals, run_text, AsksBoth, ForgetsAlone, IsPlain}
use Rattle.command_lines.specs.Faults.{ChoosesBoth, ChoosesToForget, RefusesChoice}
use Rattle.command_lines.specs.Refusals.{RefusesRun}
use Rattle.command_lines.specs.declared.run.RunOptions.{RunOptions}
use Rattle.command_lines.specs.declared.fault.WordsFault.{WordsFault}
use Rattle.command_lines.specs.declared.fault.WordsFault.TheVariants as words_fault
use Rattle.command_lines.proofs.Numbers.{IsNumber, number_is}
use Rattle.command_lines.proofs.Passing.{FitsElse, chained_passes, distinct, fits, has_distinct, ids_of, ordinary}

pub five : {A : Type 0} (P : A → Type 0) (a b c e f : A) → P a → P b → P c → P e → P f → All P (a ∷ b ∷ c ∷ e ∷ f ∷ [])
five P a b c e f x y z w v zero d lt = x
five P a b c e f x y z w v (suc zero) d lt = y
five P a b c e f x y z w v (suc (suc zero)) d lt = z
five P a b c e f x y z w v (suc (suc (suc zero))) d lt = w
five P a b c e f x y z w v (suc (suc (suc (suc zero)))) d lt = v
five P a b c e f x y z w v (suc (suc (suc (suc (suc k))))) d lt = absurd (omega arith)

pub four : {A : Type 0} (P : A → Type 0) (a b c e : A) → P a → P b → P c → P e → All P (a ∷ b ∷ c ∷ e ∷ [])
four P a b c e x y z w zero d lt = x
four P a b c e x y z w (suc zero) d lt = y
four P a b c e x y z w (suc (suc zero)) d lt = z
four P a b c e x y z w (suc (suc (suc zero))) d lt = w
four P a b c e x y z w (suc (suc (suc (suc k)))) d lt = absurd (omega arith)

pub six : {A : Type 0} (P : A → Type 0) (a b c e f h : A) → P a → P b → P c → P e → P f → P h → All P (a ∷ b ∷ c ∷ e ∷ f ∷ h ∷ [])
six P a b c e f h x y z w v u zero d lt = x
six P a b c e f h x y z w v u (suc k) d lt = five P b c e f h y z w v u k d (omega arith)

-- a command of these options, and what a parse of it found
pub record Parsed (cmd : Command) (m : ArgMatches) (app : App) (words : List Text) (xs : List Arg) : Type 0 where
  pub start : Command
  pub added : AddsInTurn AddsArg start xs cmd
  pub args : args_of start ≡ []
  pub groups : groups_of start ≡ []
  pub globals : (out-Command start).has_globals ≡ false
  pub ids : List (List ℕ)
  pub named : ids_of xs ≡ ids
  pub distinct_ids : distinct ids ≡ true
  pub ordinary_ids : ordinary ids ≡ true
  pub each : All FitsElse xs
  pub parsed : IsParsedFrom cmd m
  pub rows : rows_of (found_of m) ≡ matches_of app words

text_is : (cmd : Command) (m : ArgMatches) (app : App) (words : List Text) (xs : List Arg) → Parsed cmd m app words xs → (name : List ℕ)
    → one_text (found_of m) name ≡ one_of name (matches_of app words)
text_is cmd m app words xs p name = one_text-rows (found_of m) name ∙ ap (one_of name) p.rows

-- the number that the k-th of them gives
pub number_at : (cmd : Command) (m : ArgMatches) (app : App) (words : List Text) (xs : List Arg) → Parsed cmd m app words xs
    → (E : Type 0) (G : List ℕ → Result ℕ E → Type 0) (bits least most : ℕ) → most < 2 ^ bits → ((u : List ℕ) (x : Result ℕ E) → G u x → ParsesUnsigned bits 10 u x)
    → (k : ℕ) (d : Arg) → k < length xs → (name : List ℕ) → (slice_index_or xs k d).id.now ≡ name → (slice_index_or xs k d).value_parser ≡ Some (between least most)
    → (r : Option ℕ) → (one_text (found_of m) name ≡ None → r ≡ None) → ((t : List ℕ) → one_text (found_of m) name ≡ Some t → ReadsOne G t r)
    → IsNumber least most (one_of name (matches_of app words)) r
number_at cmd m app words xs p E G bits least most fit parses k d lt name is parser r none value =
    let text = text_is cmd m app words xs p name in
    number_is E G bits least most fit parses (one_of name (matches_of app words)) r
    (λ e. none (text ∙ e))
    (λ t e. value t (text ∙ e))
    (λ t e.
    let v = chained_passes p.start cmd xs k d m p.added p.args p.groups p.globals (fits xs p.ids p.named p.ordinary_ids p.each) (has_distinct xs p.ids p.named p.distinct_ids)
    lt (between least most) parser p.parsed t (ap (one_text (found_of m)) is ∙ text ∙ e) in
    (v.0, v.1, v.2))

-- a flag: on where its text is `true`
flag_reads : {E : Type 0} (G : List ℕ → Result Bool E → Type 0) → ((u : List ℕ) (x : Result Bool E) → G u x → ParsesBool u x) → (o : Option (List ℕ)) (r : Option Bool)
    → (o ≡ None → r ≡ None) → ((t : List ℕ) → o ≡ Some t → ReadsOne G t r) → (unwrap_or r false ≡ true) ↔ (o ≡ Some (codes "true"))
flag_reads G parses None None none value = (λ e. cc, λ e. cc)
flag_reads G parses None (Some b) none value =
    let bad = none refl in
    absurd (cc)
flag_reads G parses (Some t) None none value =
    let err = value t refl in
    let not_true = parses t (Err err.0) err.1 in
    (λ e. cc, λ e. let is : t ≡ codes "true" = cc in absurd (not_true.0 is))
flag_reads G parses (Some t) (Some true) none value =
    let is : t ≡ codes "true" = parses t (Ok true) (value t refl) in
    (λ e. ap Some is, λ e. refl)
flag_reads G parses (Some t) (Some false) none value =
    let is : t ≡ codes "false" = parses t (Ok false) (value t refl) in (
      λ e. cc,
      λ e.
          let other : t ≡ codes "true" = cc in
          let bad : codes "false" ≡ codes "true" = sym is ∙ other in
          absurd (cc),
    )

pub flag_at : (cmd : Command) (m : ArgMatches) (app : App) (words : List Text) (xs : List Arg) → Parsed cmd m app words xs
    → {E : Type 0} (G : List ℕ → Result Bool E → Type 0) → ((u : List ℕ) (x : Result Bool E) → G u x → ParsesBool u x)
    → (name : List ℕ) (r : Option Bool) → (one_text (found_of m) name ≡ None → r ≡ None) → ((t : List ℕ) → one_text (found_of m) name ≡ Some t → ReadsOne G t r)
    → (unwrap_or r false ≡ true) ↔ (one_of name (matches_of app words) ≡ Some (codes "true"))
flag_at cmd m app words xs p G parses name r none value =
    let text = text_is cmd m app words xs p name in
    flag_reads G parses (one_of name (matches_of app words)) r (λ e. none (text ∙ e)) (λ t e. value t (text ∙ e))

-- ---- `cqlrun`

-- the options are those of the words
pub record IsAsked (words : List Text) (o : RunOptions) : Type 0 where
  pub right : refusals words ≡ []
  pub plain : (o.is_plain ≡ true) ↔ IsPlain words
  pub turn : (o.turn ≡ number_or 256 (run_text (codes "turn") words)) × (1 ≤ o.turn) × (o.turn ≤ 1024)
  pub workers : IsNumber 1 64 (run_text (codes "workers") words) o.workers
  pub forget : IsNumber 0 (2 ^ 40) (run_text (codes "forget") words) o.forget

none_of : (o : Option (List ℕ)) (r : Option ℕ) → r ≡ option_map number_in o → (r ≡ None) ↔ (o ≡ None)
none_of None r e = (λ i. refl, λ i. e)
none_of (Some t) r e = (λ i. let bad : Some (number_in t) ≡ None = sym e ∙ i in absurd (cc), λ i. cc)

both_alike : (words : List Text) (o : RunOptions) → IsAsked words o → ChoosesBoth o ↔ AsksBoth words
both_alike words o is =
    let none = none_of (run_text (codes "workers") words) o.workers is.workers.said in (
      λ b. (is.plain.0 b.0, λ absent. b.1 (none.1 absent)),
      λ b. (is.plain.1 b.0, λ absent. b.1 (none.0 absent)),
    )

forget_alike : (words : List Text) (o : RunOptions) → IsAsked words o → ChoosesToForget o ↔ ForgetsAlone words
forget_alike words o is =
    let none = none_of (run_text (codes "workers") words) o.workers is.workers.said in
    let kept = none_of (run_text (codes "forget") words) o.forget is.forget.said in (
      λ b. ((λ absent. b.0 (kept.1 absent)), none.0 b.1),
      λ b. ((λ absent. b.0 (kept.0 absent)), none.1 b.1),
    )

abbrev pub Takes : RunOptions → Result RunOptions WordsFault → Type 0
Takes o r = MatchResult r (λ x. (x ≡ o) × (¬ ChoosesBoth o) × (¬ ChoosesToForget o)) (λ f. RefusesChoice o f)

pub if_asked : (words : List Text) (o : RunOptions) (r : Result RunOptions WordsFault) → IsAsked words o → Takes o r
    → IfOk r (λ x. (refusals words ≡ []) × (¬ AsksBoth words) × (¬ ForgetsAlone words))
if_asked words o (Ok x) is t = (is.right, (λ b. t.1 ((both_alike words o is).1 b)), (λ b. t.2 ((forget_alike words o is).1 b)))
if_asked words o (Err f) is t = tt

refused_so : (words : List Text) (o : RunOptions) (f : WordsFault) → IsAsked words o → RefusesChoice o f → RefusesRun words f
refused_so words o (words_fault.Words e) is t = absurd t
refused_so words o words_fault.PlainWithWorkers is t = (is.right, (both_alike words o is).0 t)
refused_so words o words_fault.ForgetWithoutWorkers is t = (is.right, (forget_alike words o is).0 t)

pub if_refused : (words : List Text) (o : RunOptions) (r : Result RunOptions WordsFault) → IsAsked words o → Takes o r → IfErr r (RefusesRun words)
if_refused words o (Ok x) is t = tt
if_refused words o (Err f) is t = refused_so words o f is t

pub if_taken : (words : List Text) (o : RunOptions) (r : Result RunOptions WordsFault) (P : RunOptions → Type 0) → P o → Takes o r → IfOk r P
if_taken words o (Ok x) P p t = subst P (sym t.0) p
if_taken words o (Err f) P p t = tt
