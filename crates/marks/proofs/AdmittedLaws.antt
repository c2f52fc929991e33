-- Laws of the definitions in Admitted.
use Rattle.std.specs.Prelude.{ℕ, ◌<◌, ◌≡◌, refl, Bool, true, false, List, [], ◌∷◌, eqb, length, drop, get_or}
use Rattle.std.proofs.Common.{sym, ap, ◌∙◌, arith}
use Rattle.laws.specs.Tests.{pick}
use Rattle.laws.specs.Loops.{up_to}
use Rattle.laws.specs.Rows.{row}
use Rattle.laws.specs.RowsLaws.{put_whole}
use Rattle.laws.specs.Put.{put}
use Rattle.laws.specs.PutLaws.{get_d-put-after}
use Rattle.blocks.specs.TablesLaws.{places_same}
use Rattle.model.specs.Types.{Packet}
use Rattle.marks.specs.Marks.{mark_row}
use Rattle.marks.proofs.MarksLaws.{length-singles, get_d-singles}
use Rattle.marks.specs.Monitors.{met_mark}
use Rattle.marks.proofs.MonitorsLaws.{met-admitted}
use Rattle.marks.specs.Asked.{mark_if}
use Rattle.marks.proofs.AskedLaws.{marks_if}
use Rattle.model.specs.Layout.{monitor_size, monitors_at, most_monitors}
use Rattle.marks.specs.Admitted.{admits_at, met_if, admitted}

-- the ends of both loops
pub met-if-end : (asked s : List ℕ) (p : Packet) (l : List ℕ) → length l ≡ most_monitors
    → put l 0 (met_if asked s p) ≡ met_if asked s p
unfolding met_if
met-if-end asked s p l n =
    put_whole l _ (n
    ∙ sym (length-singles (λ h. mark_if (get_or asked h 0) (met_mark (row monitor_size h (drop monitors_at s)) p))
    most_monitors))

pub admitted-end : (k s : List ℕ) (p : Packet) (l : List ℕ) → length l ≡ most_monitors
    → put l 0 (admitted k s p) ≡ admitted k s p
unfolding admitted
admitted-end k s p l n =
    put_whole l _ (n ∙ sym (length-singles (λ h. pick (admits_at s p h) (get_or k h 0) 0) most_monitors))

-- the octet of a turn is still the one that came
pub not_yet : (f : ℕ → ℕ) (l m : List ℕ) (h : ℕ) → m ≡ put l 0 (up_to (λ h. f h ∷ []) h) → get_or m h 0 ≡ get_or l h 0
not_yet f l m h e =
    let n : length (up_to (λ h. f h ∷ []) h) ≡ h = length-singles f h in
    ap (λ (x : List ℕ). get_or x h 0) e ∙ get_d-put-after l 0 (up_to (λ h. f h ∷ []) h) h 0 (omega arith) (omega arith)

-- an octet of 0 stays 0
pub admit-none : (t : Bool) (a : ℕ) → a ≡ 0 → 0 ≡ pick t a 0
unfolding pick
admit-none true a e = sym e
admit-none false a e = refl

swapped : (t u : Bool) (x : ℕ) → pick t (pick u 0 x) 0 ≡ pick u 0 (pick t x 0)
unfolding pick
swapped true true x = refl
swapped true false x = refl
swapped false true x = refl
swapped false false x = refl

-- both passes give the octets of the handles
pub both-passes : (asked s : List ℕ) (p : Packet) → admitted (met_if asked s p) s p ≡ marks_if asked s p
unfolding admitted met_if marks_if mark_if
both-passes asked s p = places_same _ _ most_monitors (λ h b. ap (λ (n : ℕ). n ∷ []) (at h b))
  where
    at : (h : ℕ) → h < most_monitors
        → pick (admits_at s p h) (get_or (met_if asked s p) h 0) 0
        ≡ mark_if (get_or asked h 0) (mark_row (row monitor_size h (drop monitors_at s)) p)
    at h b =
        let r : List ℕ = row monitor_size h (drop monitors_at s) in
        ap (λ (n : ℕ). pick (admits_at s p h) n 0)
        (get_d-singles (λ j. mark_if (get_or asked j 0) (met_mark (row monitor_size j (drop monitors_at s)) p))
        most_monitors h b)
        ∙ swapped (admits_at s p h) (eqb (get_or asked h 0) 0) (met_mark r p)
        ∙ ap (λ (n : ℕ). pick (eqb (get_or asked h 0) 0) 0 n) (sym (met-admitted r p))
