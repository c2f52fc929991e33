-- Laws of the definitions in Seen.
use Rattle.std.specs.Prelude.{ℕ, ◌+◌, ◌*◌, ◌<◌, ◌≡◌, Bool, true, false, List, set}
use Rattle.std.proofs.Math.Path.{sym, ap}
use Rattle.std.proofs.Common.{◌∙◌, ne_eqb, get_or-set_other}
use Rattle.std.proofs.Math.Bool.{not}
use native.Mathlib.Omega.{arith}
use Rattle.std.proofs.Math.ListN.{length, get_or}
use Rattle.std.proofs.Math.Seq.{get_or-set_same}
use Rattle.std.proofs.lemmas.Bool.{false≢true}
use Rattle.laws.specs.TestsLaws.{cases_eq}
use Rattle.octets.specs.Numbers.{number_at}
use Rattle.octets.specs.NumbersLaws.{number-of}
use Rattle.soundness.specs.BelowLaws.{below_all}
use Rattle.soundness.specs.Clauses.{key_at, other_test}
use Rattle.soundness.specs.CodePairsLaws.{differs}
use Rattle.model.specs.Layout.{block_size, most_pairs, pair_size, pairs_at}
use Rattle.soundness.specs.Seen.{marks, mark_of, Marked}

pub mark-small : (key : ℕ) → mark_of key < marks
unfolding mark_of
mark-small key = omega arith

pub marked-none : (s : List ℕ) (seen : List Bool) → Marked s 0 seen
unfolding Marked
marked-none s seen j h = absurd (omega arith)

module _ (s : List ℕ) (seen : List Bool) (i : ℕ) (l : length s ≡ block_size) (b : i < most_pairs)
    (n : length seen ≡ marks)
    (h : Marked s i seen)
    {k m : ℕ} (q : k ≡ number_at 8 s (pairs_at + pair_size * i)) (p : m ≡ mark_of k) where
  mark-is : m ≡ mark_of (key_at s i)
  unfolding key_at
  mark-is = p ∙ ap mark_of (number-of 8 s (pairs_at + pair_size * i) q (omega arith))

  -- a mark that was not seen: the key is new
  pub seen-new : get_or seen m false ≡ false → true ≡ other_test s i
  unfolding other_test Marked
  seen-new z =
      sym (below_all (differs s i) i
      (λ j c. ap not (ne_eqb (key_at s i) (key_at s j)
      (λ w. false≢true (sym (ap (λ (x : ℕ). get_or seen (mark_of x) false) (sym w)
      ∙ ap (λ (x : ℕ). get_or seen x false) (sym mark-is) ∙ z) ∙ h j c)))))

  pub marked-new : Marked s (i + 1) (set seen m true)
  unfolding Marked
  marked-new j c =
      let r : m < length seen = let w = mark-small k in omega arith in
      cases_eq (mark_of (key_at s j)) m
      (λ e. rw e (get_or-set_same seen m true false r))
      (λ e. cases_eq j i (λ w. absurd (e (ap (λ (x : ℕ). mark_of (key_at s x)) w ∙ sym mark-is)))
      (λ w. get_or-set_other seen m (mark_of (key_at s j)) true false e ∙ h j (omega arith)))

  pub marked-old : get_or seen m false ≡ true → Marked s (i + 1) seen
  unfolding Marked
  marked-old o j c =
      cases_eq j i
      (λ w. ap (λ (x : ℕ). get_or seen x false) (sym (mark-is ∙ ap (λ (x : ℕ). mark_of (key_at s x)) (sym w))) ∙ o)
      (λ w. h j (omega arith))
