-- The number that an option gives.
use Rattle.std.proofs.Common.{◌≡◌, ◌≤◌, ◌<◌, ◌^◌, ℕ, List, Option, Some, None, Result, Ok, refl, ap, ◌∙◌, subst}
use Rattle.std.specs.Prelude.{pos, unwrap_or, option_map, IfSome}
use Rattle.std.specs.Str.Parse.{ParsesUnsigned}
use Rattle.clap.specs.Lexer.{without_minus}
use Rattle.clap.specs.Matches.{ReadsOne}
use Rattle.clap.specs.Values.{IsSignedIn}
use Rattle.clap.proofs.CallerReads.{signed_reads}
use Rattle.command_lines.specs.CommandLine.{number_in, number_or}

-- what is read of an option's text, or of its absence: the number that it says, which is in range
pub record IsNumber (least most : ℕ) (o : Option (List ℕ)) (r : Option ℕ) : Type 0 where
  pub said : r ≡ option_map number_in o
  pub within : IfSome r (λ n. (least ≤ n) × (n ≤ most))

module _ (E : Type 0) (G : List ℕ → Result ℕ E → Type 0) (bits least most : ℕ) (fits : most < 2 ^ bits) (parses : (u : List ℕ) (x : Result ℕ E) → G u x → ParsesUnsigned bits 10 u x) where
  by_text : (v t : List ℕ) (r : Option ℕ) → t ≡ without_minus v → IsSignedIn (pos least) (pos most) v → ReadsOne G t r → IsNumber least most (Some t) r
  by_text v t r is passed reads =
      let got = signed_reads E G bits least most v r (subst (λ u. ReadsOne G u r) is reads) parses fits passed in
      let some : ReadsOne G t (Some got.0) = subst (λ o. ReadsOne G t o) got.1 reads in
      let number : got.0 ≡ number_in t = (parses t (Ok got.0) some).1 in
      record { said = got.1 ∙ ap Some number; within = rw got.1 (got.2, got.3) }

  absent : (r : Option ℕ) → r ≡ None → IsNumber least most None r
  absent r e = record { said = e; within = rw e tt }

  pub number_is : (o : Option (List ℕ)) (r : Option ℕ) → (o ≡ None → r ≡ None) → ((t : List ℕ) → o ≡ Some t → ReadsOne G t r)
      → ((t : List ℕ) → o ≡ Some t → (v : List ℕ) × (t ≡ without_minus v) × IsSignedIn (pos least) (pos most) v) → IsNumber least most o r
  number_is None r none reads passes = absent r (none refl)
  number_is (Some t) r none reads passes = let given = passes t refl in by_text given.0 t r given.1 given.2 (reads t refl)

pub or_default : (least most default : ℕ) (o : Option (List ℕ)) (r : Option ℕ) → IsNumber least most o r → unwrap_or r default ≡ number_or default o
or_default least most default None r n = rw n.said refl
or_default least most default (Some t) r n = rw n.said refl

pub default_within : (least most default : ℕ) (o : Option (List ℕ)) (r : Option ℕ) → IsNumber least most o r → least ≤ default → default ≤ most → (least ≤ unwrap_or r default) × (unwrap_or r default ≤ most)
default_within least most default o None n low high = (low, high)
default_within least most default o (Some m) n low high = n.within
