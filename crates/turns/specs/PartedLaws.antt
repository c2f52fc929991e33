-- A text of which a replay read some lines: the lines before and behind, in the text. Document 01, Lines. Assumes
-- nothing.
use Rattle.std.specs.Prelude.{ℕ, zero, suc, ◌+◌, ◌-◌, ◌≤◌, ◌<◌, ◌≡◌, refl, length, take, drop}
use Rattle.std.proofs.Common.{sym, ◌∙◌}
use Rattle.std.proofs.Math.Path.{ap, subst}
use mathlib.Core.List.{List, [], ◌∷◌, ◌++◌, append_assoc, append-nil, flatten}
use Rattle.std.proofs.Math.Seq.{take-append_seam, drop-append_seam}
use Rattle.laws.specs.Rows.{flat}
use Rattle.laws.specs.RowsLaws.{flat_append}
use Rattle.sessions.specs.Machine.{NoLF, OneLine}
use Rattle.sessions.specs.Saved.{cut, cut_from}
use Rattle.sessions.proofs.CutsLaws.{AllLines, cut-lines}
use Rattle.replays.proofs.PiecesLaws.{rest, rest-clear, cut-append, flat-cut, drop-lines}
use Rattle.replays.proofs.GoesOnLaws.{all_lines, cut-behind}

flat-flatten : (ls : List (List ℕ)) → flat ls ≡ flatten ls
unfolding flat flatten
flat-flatten [] = refl
flat-flatten (l ∷ ls) = ap (λ (r : List ℕ). l ++ r) (flat-flatten ls)

all-before : (ls ks : List (List ℕ)) → AllLines (ls ++ ks) → AllLines ls
all-before [] ks h = tt
all-before (l ∷ ls) ks h = (h.0, all-before ls ks h.1)

module _ (t : List ℕ) (ls ks : List (List ℕ)) (e : cut t ≡ ls ++ ks) where
  -- the text is the lines read, the lines left and a last piece
  parted : t ≡ flat ls ++ (flat ks ++ rest t)
  parted =
      sym (flat-cut t) ∙ ap (λ (x : List (List ℕ)). flat x ++ rest t) e
      ∙ ap (λ (x : List ℕ). x ++ rest t) (flat_append ls ks)
      ∙ append_assoc (flat ls) (flat ks) (rest t)

  -- the characters read have the lines read
  pub cut-before : cut (take (length (flat ls)) t) ≡ ls
  unfolding cut
  cut-before =
      ap (λ (x : List ℕ). cut (take (length (flat ls)) x)) parted
      ∙ ap cut (take-append_seam (flat ls) (flat ks ++ rest t) ∙ flat-flatten ls)
      ∙ cut-lines ls (all-before ls ks (subst AllLines e (all_lines [] t tt)))

  -- what is left of the text
  behind : drop (length (flat ls)) t ≡ flat ks ++ rest t
  behind = ap (λ (x : List ℕ). drop (length (flat ls)) x) parted ∙ drop-append_seam (flat ls) (flat ks ++ rest t)

  -- it has the last piece of the text
  pub rest-behind : rest (drop (length (flat ls)) t) ≡ rest t
  rest-behind =
      sym (drop-lines (drop (length (flat ls)) t))
      ∙ ap (λ (x : List (List ℕ)). drop (length (flat x)) (drop (length (flat ls)) t)) (cut-behind t ls ks e)
      ∙ ap (λ (x : List ℕ). drop (length (flat ks)) x) behind ∙ drop-append_seam (flat ks) (rest t)

  -- the lines of what is left and a text behind it
  pub cut_left : (v : List ℕ) → cut (drop (length (flat ls)) t ++ v) ≡ ks ++ cut (rest t ++ v)
  cut_left v =
      cut-append (drop (length (flat ls)) t) v
      ∙ ap (λ (x : List (List ℕ)). x ++ cut (rest (drop (length (flat ls)) t) ++ v)) (cut-behind t ls ks e)
      ∙ ap (λ (x : List ℕ). ks ++ cut (x ++ v)) rest-behind

  -- the lines of the whole
  pub cut-whole : (v : List ℕ) → cut (t ++ v) ≡ ls ++ (ks ++ cut (rest t ++ v))
  cut-whole v = cut-append t v ∙ ap (λ (x : List (List ℕ)). x ++ cut (rest t ++ v)) e
      ∙ append_assoc ls ks (cut (rest t ++ v))

  -- where no line is left, what is left is without LF
  pub left-clear : ks ≡ [] → NoLF (drop (length (flat ls)) t)
  unfolding flat rest
  left-clear z =
      subst NoLF (sym (behind ∙ ap (λ (x : List (List ℕ)). flat x ++ rest t) z)) (rest-clear [] t tt)
