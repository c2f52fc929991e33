-- What reading a text's digits says. Assumes nothing.
use Rattle.std.specs.Prelude.{ℕ, ◌≤◌, ◌≡◌, refl, Bool, true, false, List, leb, take, Ok, Err}
use Rattle.std.proofs.Common.{ap, ◌∙◌, arith}
use borrow.Author.Tests.{leb-true}
use Rattle.std.proofs.Math.ListN.{length}
use Rattle.laws.specs.Put.{put}
use Rattle.laws.specs.PutLaws.{take_put}
use Rattle.laws.specs.TestsLaws.{pick_true, pick-false, and_right}
use Rattle.refusals.specs.declared.Refusal.{Refusal}
use Rattle.refusals.specs.declared.Refusal.TheVariants.{NotLine}
use Rattle.lines.specs.Hex.{is_text, octets_in}
use Rattle.reader.specs.Pairs.{leading}
use Rattle.reader.specs.Answers.{take_text}
use Rattle.reader.specs.AnswersLaws.{take-read}
use Rattle.shown.specs.Line.{is_digits}

module _ (t : List ℕ) where
  when-digits : is_digits t ≡ true → take_text t 263 ≡ Ok (length (octets_in t))
  unfolding take_text is_digits
  when-digits e = pick_true (Ok (length (octets_in t))) (Err NotLine) e

  when-not : is_digits t ≡ false → take_text t 263 ≡ Err NotLine
  unfolding take_text is_digits
  when-not e = pick-false (Ok (length (octets_in t))) (Err NotLine) e

  -- a text that was read: its octets are those at the start
  pub read-digits : (k : ℕ) → take_text t 263 ≡ Ok k → is_digits t ≡ true
  read-digits k e = go (is_digits t) refl
    where
      go : (b : Bool) → is_digits t ≡ b → is_digits t ≡ true
      go true q = q
      go false q = absurd (let p = when-not q in let z : ◌≡◌ {A = ℕ} 0 1 = cc in omega arith)

  pub read-octets : (s : List ℕ) (k : ℕ) → take_text t 263 ≡ Ok k → take k (put s 0 (leading t 0 263)) ≡ octets_in t
  read-octets s k e =
      let w = take-read t 263 k e in
      ap (λ (l : List ℕ). take k (put s 0 l)) w.1 ∙ ap (λ (j : ℕ). take j (put s 0 (octets_in t))) w.2
      ∙ take_put s 0 (octets_in t) (omega arith)

  pub read_short : (k : ℕ) → take_text t 263 ≡ Ok k → k ≤ 263
  unfolding is_digits
  read_short k e =
      let h : length (octets_in t) ≤ 263 =
      leb-true (length (octets_in t)) 263 (and_right (is_text t) (leb (length (octets_in t)) 263) (read-digits k e)) in
      let w = take-read t 263 k e in
      omega (arith, h, w.2)

  -- one that was not
  pub not-digits : (x : Refusal) → take_text t 263 ≡ Err x → is_digits t ≡ false
  not-digits x e = go (is_digits t) refl
    where
      go : (b : Bool) → is_digits t ≡ b → is_digits t ≡ false
      go true q = absurd (let p = when-digits q in let z : ◌≡◌ {A = ℕ} 0 1 = cc in omega arith)
      go false q = q
