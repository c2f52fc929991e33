-- Laws of the definitions in Sites.
use Rattle.std.specs.Prelude.{ℕ, ◌-◌, ◌%◌, ◌≤◌, ◌<◌, ◌≡◌, false, ltb}
use Rattle.std.proofs.Common.{sym}
use borrow.Author.Tests.{le-leb, lt-leb, lt-ltb, le-ltb, eq-eqb, ne_eqb}
use Rattle.laws.specs.TestsLaws.{pick_true, pick-false}
use Rattle.sheets.specs.Sites.{are_sites}

-- the branches of the test
module _ (first mark words : ℕ) where
  pub mark-before : mark < first → false ≡ are_sites first mark words
  unfolding are_sites
  mark-before h = rw (lt-leb first mark h)

  module _ (h : first ≤ mark) where
    pub half-pair : ((mark - first) % 2 ≡ 0 → ⊥) → false ≡ are_sites first mark words
    unfolding are_sites
    half-pair k = rw (le-leb first mark h, ne_eqb ((mark - first) % 2) 0 k)

    module _ (k : (mark - first) % 2 ≡ 0) where
      pub with-mark : mark < words → ltb 1 (words - mark) ≡ are_sites first mark words
      unfolding are_sites
      with-mark w =
          rw (le-leb first mark h, eq-eqb ((mark - first) % 2) 0 k)
          (sym (pick_true (ltb 1 (words - mark)) (ltb first words) (lt-ltb mark words w)))

      pub no-mark : words ≤ mark → ltb first words ≡ are_sites first mark words
      unfolding are_sites
      no-mark w =
          rw (le-leb first mark h, eq-eqb ((mark - first) % 2) 0 k)
          (sym (pick-false (ltb 1 (words - mark)) (ltb first words) (le-ltb mark words w)))
