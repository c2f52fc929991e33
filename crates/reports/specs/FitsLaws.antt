-- No message is longer than its room: none is cut. Assumes nothing.
use Rattle.std.specs.Prelude.{ℕ, ◌-◌, ◌/◌, ◌≤◌, ◌<◌, ◌≡◌, Bool, true, false, not, ◌&&◌, ltb, eqb, length, take}
use Rattle.std.proofs.Common.{sym, ap, ◌∙◌, arith, lt-ltb, le-ltb, eq-eqb, ne_eqb, length-append}
use mathlib.Core.List.{List, [], ◌++◌}
use Rattle.laws.specs.Tests.{pick}
use Rattle.laws.specs.TestsLaws.{pick_true, pick-false}
use Rattle.decimals.specs.Decimals.{decimal}
use Rattle.decimals.specs.WritingTurns.{digits-most}
use Rattle.refusals.specs.declared.Refusal.{Refusal}
use Rattle.lines.specs.Frame.{line_room}
use Rattle.refusals.specs.Numbers.{number}
use Rattle.turns.specs.Swap.{long_line}
use Rattle.takeover.specs.declared.Next.{Next}
use Rattle.takeover.specs.declared.Flow.{Flow}
use Rattle.texts.specs.Text.{room}
use Rattle.reports.specs.Texts.{next, reason_of, rest_of, reason_text, gap_text, stop_text, is_ended, size_text, piece_text, counts_text, refused_of, summary_of, warns, warning_of, progress_of, every}
use Rattle.names.specs.Refusals.{refusal_name}
use Rattle.names.specs.RefusalsLaws.{refusal-most}
use Rattle.model.specs.Quoted.{codes}
use Rattle.texts.specs.JoinedLaws.{joined, whole}

digits : (n : ℕ) → length (decimal n) ≤ 20
unfolding decimal
digits n = digits-most 19 n

-- one of two texts
either : (b : Bool) (xs ys : List ℕ) (n : ℕ) → length xs ≤ n → length ys ≤ n → length (pick b xs ys) ≤ n
unfolding pick
either true xs ys n h k = h
either false xs ys n h k = k

reason-most : (n : ℕ) → length (reason_of n) ≤ 50
unfolding reason_of codes
reason-most n = either (eqb (length (refusal_name n)) 0) _ _ 50 (omega arith)
    (simp length-append (omega (arith, refusal-most n)))

text-most : (n : ℕ) → length (reason_text n) ≤ 83
unfolding reason_text codes
text-most n = simp length-append (omega (arith, digits n, reason-most n))

gap-most : (n p f : ℕ) → length (gap_text n p f) ≤ 65
unfolding gap_text codes
gap-most n p f = either (eqb n 2) _ _ 65 (simp length-append (omega (arith, digits (next p), digits f))) (omega arith)

stop-most : (lines n p f : ℕ) → length (stop_text lines n p f) ≤ room
unfolding stop_text codes
stop-most lines n p f = simp length-append (omega (arith, digits (next lines), text-most n, gap-most n p f))

size-most : (n : ℕ) → length (size_text n) ≤ 30
unfolding size_text codes
size-most n = either (ltb n long_line) _ _ 30 (omega (arith, digits n))
    (simp length-append (omega (arith, digits line_room)))

piece-most : (n : Next) (size : ℕ) → length (piece_text n size) ≤ 75
unfolding piece_text codes
piece-most n size =
    either (is_ended n && not (eqb size 0)) _ _ 75 (simp length-append (omega (arith, size-most size))) (omega arith)

counts-most : (lines executed position : ℕ) → length (counts_text lines executed position) ≤ 136
unfolding counts_text codes
counts-most lines executed position =
    simp length-append (omega (arith, digits lines, digits executed, digits (lines - executed), digits position))

-- the messages whole
pub stop-whole : (lines n p f : ℕ) {t : List ℕ} → t ≡ take room (stop_text lines n p f) → t ≡ stop_text lines n p f
stop-whole lines n p f e = whole (stop_text lines n p f) e (stop-most lines n p f)

pub refused-whole : (x : Refusal) (n : ℕ) {s a r : List ℕ} → n ≡ number x → s ≡ [] → a ≡ take room (s ++ reason_text n)
    → r ≡ take room (a ++ codes "\n") → r ≡ refused_of x
unfolding refused_of codes
refused-whole x n i o e q =
    whole (reason_text (number x) ++ codes "\n")
    (joined (reason_text (number x)) (codes "\n")
    (e ∙ ap (λ (l : List ℕ). take room (l ++ reason_text n)) o ∙ ap (λ (j : ℕ). take room (reason_text j)) i) q)
    (simp length-append (omega (arith, text-most (number x))))

pub rest-none : (n : ℕ) {r : List ℕ} → n ≡ 0 → r ≡ [] → r ≡ rest_of n
unfolding rest_of
rest-none n e o = o ∙ sym (pick_true [] (codes ": a last piece without LF not read\n") (eq-eqb n 0 e))

pub rest_some : (n : ℕ) {s r : List ℕ} → (n ≡ 0 → ⊥) → s ≡ []
    → r ≡ take room (s ++ codes ": a last piece without LF not read\n") → r ≡ rest_of n
unfolding rest_of codes
rest_some n e o q =
    q ∙ ap (λ (l : List ℕ). take room (l ++ codes ": a last piece without LF not read\n")) o
    ∙ sym (pick-false [] (codes ": a last piece without LF not read\n") (ne_eqb n 0 e))

pub summary-whole : (f : Flow) (p : ℕ) {a b r : List ℕ} → a ≡ take room (counts_text f.lines f.executed p)
    → b ≡ take room (a ++ piece_text f.next f.held)
    → r ≡ take room (b ++ codes "\n") → r ≡ summary_of f p
unfolding summary_of codes
summary-whole f p e g q =
    let c = counts_text f.lines f.executed p in
    let l = piece_text f.next f.held in
    let z : (c ++ l) ++ codes "\n" ≡ c ++ (l ++ codes "\n") = mathlib.Core.List.append_assoc c l (codes "\n") in
    whole ((c ++ l) ++ codes "\n") (joined (c ++ l) (codes "\n") (joined c l e g) q)
    (simp length-append (omega (arith, counts-most f.lines f.executed p, piece-most f.next f.held))) ∙ z

pub warning-some : (f : Flow) {s r : List ℕ} → warns f ≡ true → s ≡ []
    → r ≡ take room (s
    ++ codes "standby: warning: lines were read and none was executed: is this the journal that belongs to the image?\n") → r ≡ warning_of f
unfolding warning_of codes
warning-some f w o q =
    q ∙ ap (λ (l : List ℕ). take room
    (l ++ codes "standby: warning: lines were read and none was executed: is this the journal that belongs to the image?\n")) o
    ∙ sym (pick_true
    (codes "standby: warning: lines were read and none was executed: is this the journal that belongs to the image?\n") [] w)

pub warning-none : (f : Flow) {r : List ℕ} → warns f ≡ false → r ≡ [] → r ≡ warning_of f
unfolding warning_of
warning-none f w o =
    o ∙ sym (pick-false
    (codes "standby: warning: lines were read and none was executed: is this the journal that belongs to the image?\n") [] w)

pub progress-some : (before after : ℕ) {s a r : List ℕ} → before / every < after / every → s ≡ []
    → a ≡ take room (s ++ (codes "standby: " ++ decimal after))
    → r ≡ take room (a ++ codes " lines read so far\n") → r ≡ progress_of before after
unfolding progress_of codes
progress-some before after h o e q =
    let y = e ∙ ap (λ (l : List ℕ). take room (l ++ (codes "standby: " ++ decimal after))) o in
    let x = codes "standby: " ++ (decimal after ++ codes " lines read so far\n") in
    let z : (codes "standby: " ++ decimal after) ++ codes " lines read so far\n" ≡ x =
    mathlib.Core.List.append_assoc (codes "standby: ") (decimal after) (codes " lines read so far\n") in
    whole ((codes "standby: " ++ decimal after) ++ codes " lines read so far\n")
    (joined (codes "standby: " ++ decimal after) (codes " lines read so far\n") y q)
    (simp length-append (omega (arith, digits after))) ∙ z
    ∙ sym (pick_true x [] (lt-ltb (before / every) (after / every) h))

pub progress-none : (before after : ℕ) {r : List ℕ} → after / every ≤ before / every → r ≡ []
    → r ≡ progress_of before after
unfolding progress_of
progress-none before after h o =
    o ∙ sym (pick-false (codes "standby: " ++ (decimal after ++ codes " lines read so far\n")) []
    (le-ltb (before / every) (after / every) h))
