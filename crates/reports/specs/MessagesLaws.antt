-- The messages put together, branch by branch, and that none is longer than its room. Assumes nothing.
use Rattle.std.specs.Prelude.{ℕ, ◌-◌, ◌≤◌, ◌<◌, ◌≡◌, Bool, true, false, ◌&&◌, ltb, eqb, length}
use Rattle.std.proofs.Common.{sym, ◌∙◌, arith, eq-eqb, ne_eqb, lt-ltb, le-ltb}
use Rattle.std.proofs.Math.Path.{ap}
use Rattle.std.proofs.Math.Bool.{not}
use mathlib.Core.List.{List, [], ◌++◌, append_assoc}
use Rattle.std.proofs.Math.ListN.{take}
use Rattle.laws.specs.Put.{put}
use Rattle.laws.specs.PutLaws.{take_put}
use Rattle.laws.specs.TestsLaws.{pick_true, pick-false, and-not-left, and-not-right, cases-le}
use Rattle.decimals.specs.Decimals.{decimal}
use Rattle.lines.specs.Frame.{line_room}
use Rattle.reader.specs.Pairs.{leading}
use Rattle.reader.specs.PairsLaws.{leading-room}
use Rattle.turns.specs.Swap.{long_line}
use Rattle.takeover.specs.declared.Next.{Next}
use Rattle.takeover.specs.declared.Flow.{Flow}
use Rattle.texts.specs.Text.{room}
use Rattle.reports.specs.Texts.{next, reason_of, reason_text, gap_text, stop_text, is_ended, size_text, piece_text, counts_text, warns}
use Rattle.names.specs.Refusals.{refusal_name}
use Rattle.model.specs.Quoted.{codes}
use Rattle.texts.specs.JoinedLaws.{joined}

-- a text by another bracketing
recut : (xs ys : List ℕ) {r : List ℕ} → r ≡ take room xs → xs ≡ ys → r ≡ take room ys
recut xs ys e q = e ∙ ap (λ (l : List ℕ). take room l) q

-- the words of a refusal, or none
pub reason-some : (t : List ℕ) (n : ℕ) {name a b r : List ℕ} → name ≡ refusal_name n → (length name ≡ 0 → ⊥)
    → a ≡ take room (t ++ codes " (")
    → b ≡ take room (a ++ name) → r ≡ take room (b ++ codes ")") → r ≡ take room (t ++ reason_of n)
unfolding reason_of
reason-some t n {name} k z e g q =
    let w = joined ((t ++ codes " (") ++ name) (codes ")") (joined (t ++ codes " (") name e g) q in
    recut (((t ++ codes " (") ++ name) ++ codes ")") (t ++ (codes " (" ++ name ++ codes ")")) w (simp append_assoc)
    ∙ ap (λ (l : List ℕ). take room (t ++ (codes " (" ++ l ++ codes ")"))) k
    ∙ ap (λ (l : List ℕ). take room (t ++ l))
    (sym (pick-false [] (codes " (" ++ refusal_name n ++ codes ")")
    (ne_eqb (length (refusal_name n)) 0 (λ x. z (ap length k ∙ x)))))

pub reason-none : (t : List ℕ) (n : ℕ) {name r : List ℕ} → name ≡ refusal_name n → length name ≡ 0
    → r ≡ take room (t ++ []) → r ≡ take room (t ++ reason_of n)
unfolding reason_of
reason-none t n k z e =
    e ∙ ap (λ (l : List ℕ). take room (t ++ l))
    (sym (pick_true [] (codes " (" ++ refusal_name n ++ codes ")")
    (eq-eqb (length (refusal_name n)) 0 (ap length (sym k) ∙ z))))

module _ (t : List ℕ) {r : List ℕ} where
  pub refused-so : (n : ℕ) {s : List ℕ} → s ≡ take room (t ++ (codes ": refused by " ++ decimal n))
      → r ≡ take room (s ++ reason_of n)
      → r ≡ take room (t ++ reason_text n)
  unfolding reason_text
  refused-so n e q =
      recut ((t ++ (codes ": refused by " ++ decimal n)) ++ reason_of n)
      (t ++ (codes ": refused by " ++ (decimal n ++ reason_of n)))
      (joined (t ++ (codes ": refused by " ++ decimal n)) (reason_of n) e q) (simp append_assoc)

  pub gap-so : (n p f d : ℕ) {a b : List ℕ} → n ≡ 2 → d ≡ next p → a ≡ take room (t ++ (codes ": frame " ++ decimal d))
      → b ≡ take room (a ++ (codes " expected, " ++ decimal f)) → r ≡ take room (b ++ codes " found")
      → r ≡ take room (t ++ gap_text n p f)
  unfolding gap_text
  gap-so n p f d k i e g q =
      let z = joined ((t ++ (codes ": frame " ++ decimal d)) ++ (codes " expected, " ++ decimal f)) (codes " found")
      (joined (t ++ (codes ": frame " ++ decimal d)) (codes " expected, " ++ decimal f) e g) q in
      let y = recut (((t ++ (codes ": frame " ++ decimal d)) ++ (codes " expected, " ++ decimal f)) ++ codes " found")
      (t ++ (codes ": frame " ++ (decimal d ++ (codes " expected, " ++ (decimal f ++ codes " found"))))) z
      (simp append_assoc) in
      y ∙ ap (λ (j : ℕ). take room
      (t ++ (codes ": frame " ++ (decimal j ++ (codes " expected, " ++ (decimal f ++ codes " found")))))) i
      ∙ ap (λ (l : List ℕ). take room (t ++ l))
      (sym (pick_true (codes ": frame "
      ++ (decimal (next p) ++ (codes " expected, " ++ (decimal f ++ codes " found")))) [] (eq-eqb n 2 k)))

  pub gap-none : (n p f : ℕ) → (n ≡ 2 → ⊥) → r ≡ take room (t ++ []) → r ≡ take room (t ++ gap_text n p f)
  unfolding gap_text
  gap-none n p f k q =
      q ∙ ap (λ (l : List ℕ). take room (t ++ l))
      (sym (pick-false
      (codes ": frame " ++ (decimal (next p) ++ (codes " expected, " ++ (decimal f ++ codes " found")))) []
      (ne_eqb n 2 k)))

  pub size-so : (n : ℕ) → n < long_line → r ≡ take room (t ++ ([] ++ decimal n)) → r ≡ take room (t ++ size_text n)
  unfolding size_text
  size-so n h q = q
      ∙ ap (λ (l : List ℕ). take room (t ++ l))
      (sym (pick_true (decimal n) (codes "more than " ++ decimal line_room) (lt-ltb n long_line h)))

  pub size-long : (n : ℕ) → long_line ≤ n → r ≡ take room (t ++ (codes "more than " ++ decimal line_room))
      → r ≡ take room (t ++ size_text n)
  unfolding size_text
  size-long n h q =
      q ∙ ap (λ (l : List ℕ). take room (t ++ l))
      (sym (pick-false (decimal n) (codes "more than " ++ decimal line_room) (le-ltb n long_line h)))

  pub piece-so : (n : Next) (size : ℕ) {a b : List ℕ} → (is_ended n && not (eqb size 0)) ≡ true
      → a ≡ take room (t ++ codes "; a last piece of ")
      → b ≡ take room (a ++ size_text size) → r ≡ take room (b ++ codes " octets without LF not read")
      → r ≡ take room (t ++ piece_text n size)
  unfolding piece_text
  piece-so n size k e g q =
      let z = joined ((t ++ codes "; a last piece of ") ++ size_text size) (codes " octets without LF not read")
      (joined (t ++ codes "; a last piece of ") (size_text size) e g) q in
      recut (((t ++ codes "; a last piece of ") ++ size_text size) ++ codes " octets without LF not read")
      (t ++ (codes "; a last piece of " ++ (size_text size ++ codes " octets without LF not read"))) z
      (simp append_assoc)
      ∙ ap (λ (l : List ℕ). take room (t ++ l))
      (sym (pick_true (codes "; a last piece of " ++ (size_text size ++ codes " octets without LF not read")) [] k))

  pub piece-none : (n : Next) (size : ℕ) → (is_ended n && not (eqb size 0)) ≡ false → r ≡ take room (t ++ [])
      → r ≡ take room (t ++ piece_text n size)
  unfolding piece_text
  piece-none n size k q =
      q ∙ ap (λ (l : List ℕ). take room (t ++ l))
      (sym (pick-false (codes "; a last piece of " ++ (size_text size ++ codes " octets without LF not read")) [] k))

-- a stop
pub stop-so : (lines n p f d : ℕ) {s a b c r : List ℕ} → s ≡ [] → d ≡ next lines
    → a ≡ take room (s ++ (codes ":" ++ decimal d))
    → b ≡ take room (a ++ reason_text n) → c ≡ take room (b ++ gap_text n p f) → r ≡ take room (c ++ codes "\n")
    → r ≡ take room (stop_text lines n p f)
unfolding stop_text
stop-so lines n p f d o i e g h q =
    let y : _ ≡ take room (codes ":" ++ decimal d) =
    e ∙ ap (λ (l : List ℕ). take room (l ++ (codes ":" ++ decimal d))) o in
    recut ((((codes ":" ++ decimal d) ++ reason_text n) ++ gap_text n p f) ++ codes "\n")
    (codes ":" ++ (decimal d ++ (reason_text n ++ (gap_text n p f ++ codes "\n"))))
    (joined (((codes ":" ++ decimal d) ++ reason_text n) ++ gap_text n p f) (codes "\n")
    (joined ((codes ":" ++ decimal d) ++ reason_text n) (gap_text n p f)
    (joined (codes ":" ++ decimal d) (reason_text n) y g) h) q) (simp append_assoc)
    ∙ ap (λ (j : ℕ). take room (codes ":" ++ (decimal j ++ (reason_text n ++ (gap_text n p f ++ codes "\n"))))) i

-- counts
pub counts-so : (lines executed position v : ℕ) {s a b c r : List ℕ} → s ≡ [] → v ≡ lines - executed
    → a ≡ take room (s ++ (codes "standby: " ++ decimal lines))
    → b ≡ take room (a ++ (codes " lines read, " ++ decimal executed))
    → c ≡ take room (b ++ (codes " executed, " ++ decimal v))
    → r ≡ take room (c ++ (codes " seen before; position " ++ decimal position))
    → r ≡ take room (counts_text lines executed position)
unfolding counts_text
counts-so lines executed position v o i e g h q =
    let y : _ ≡ take room (codes "standby: " ++ decimal lines) =
    e ∙ ap (λ (l : List ℕ). take room (l ++ (codes "standby: " ++ decimal lines))) o in
    recut ((((codes "standby: " ++ decimal lines) ++ (codes " lines read, " ++ decimal executed))
    ++ (codes " executed, " ++ decimal v)) ++ (codes " seen before; position " ++ decimal position))
    (codes "standby: "
    ++ (decimal lines
    ++ (codes " lines read, "
    ++ (decimal executed
    ++ (codes " executed, " ++ (decimal v ++ (codes " seen before; position " ++ decimal position)))))))
    (joined (((codes "standby: " ++ decimal lines) ++ (codes " lines read, " ++ decimal executed))
    ++ (codes " executed, " ++ decimal v)) (codes " seen before; position " ++ decimal position)
    (joined ((codes "standby: " ++ decimal lines) ++ (codes " lines read, " ++ decimal executed))
    (codes " executed, " ++ decimal v)
    (joined (codes "standby: " ++ decimal lines) (codes " lines read, " ++ decimal executed) y g) h) q)
    (simp append_assoc)
    ∙ ap (λ (j : ℕ). take room
    (codes "standby: "
    ++ (decimal lines
    ++ (codes " lines read, "
    ++ (decimal executed
    ++ (codes " executed, " ++ (decimal j ++ (codes " seen before; position " ++ decimal position)))))))) i

-- a warning
pub warns-so : (f : Flow) (b : Bool) → f.executed ≡ 0 → (f.lines ≡ 0 → ⊥) → b ≡ is_ended f.next → b ≡ warns f
unfolding warns
warns-so f b e h q =
    let l : 0 < f.lines =
    cases-le 1 f.lines (λ (x : 1 ≤ f.lines). omega arith) (λ (x : f.lines < 1). absurd (h (omega arith))) in
    q ∙ rw (eq-eqb f.executed 0 e, lt-ltb 0 f.lines l)

pub warns-some : (f : Flow) → (f.executed ≡ 0 → ⊥) → false ≡ warns f
unfolding warns
warns-some f h =
    sym (and-not-left (eqb f.executed 0 && ltb 0 f.lines) (is_ended f.next)
    (and-not-left (eqb f.executed 0) (ltb 0 f.lines) (ne_eqb f.executed 0 h)))

pub warns-none : (f : Flow) → f.lines ≡ 0 → false ≡ warns f
unfolding warns
warns-none f h =
    sym (and-not-left (eqb f.executed 0 && ltb 0 f.lines) (is_ended f.next)
    (and-not-right (eqb f.executed 0) (ltb 0 f.lines) (le-ltb 0 f.lines (omega arith))))

-- the frame's number of a line
pub found-so : (text lent out : List ℕ) (k : ℕ) → length lent ≡ 4 → (k ≡ length (leading text 2 4))
    × (out ≡ put lent 0 (leading text 2 4))
    → (take k out ≡ leading text 2 4) × (k ≤ 4)
found-so text lent out k l e = (
  ap (λ (j : ℕ). take j out) e.0 ∙ ap (λ (x : List ℕ). take (length (leading text 2 4)) x) e.1
      ∙ take_put lent 0 (leading text 2 4) (omega arith),
  omega (arith, e.0, leading-room text 2 4),
)
