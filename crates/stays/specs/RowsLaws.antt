-- Laws of the definitions in Rows.
use Rattle.std.specs.Prelude.{ℕ, ◌+◌, ◌/◌, ◌%◌, ◌≤◌, ◌<◌, ◌≡◌, List, [], Option, Some, ◌++◌, length, take}
use Rattle.std.proofs.Common.{sym, ap, ◌∙◌, arith, eq-eqb, ne_eqb, length-take-le, take_all}
use Rattle.laws.specs.Tests.{pick}
use Rattle.laws.specs.TestsLaws.{pick_true, pick-false}
use Rattle.decimals.specs.Decimals.{decimal}
use Rattle.model.specs.Quoted.{codes}
use Rattle.texts.specs.Text.{room}
use Rattle.texts.specs.ChainsLaws.{then, same, taken, left}
use Rattle.texts.specs.Words.{address_text, kind_text, time_text, level_text}
use Rattle.visit.specs.Book.{devices, mean_of}
use Rattle.stays.specs.declared.Row.{Row}
use Rattle.stays.specs.declared.Style.{Style}
use Rattle.stays.specs.Rows.{none_text, quote_text, day_text, moment_text, frame_or, moment_or, ended_text, mean_or, lead_of, gap_of, blanks_of, put_text, end_text, cut, row_text}

-- the branches
module _ (t : List ℕ) {r : List ℕ} where
  pub day-none : (n : ℕ) → n ≡ 0 → r ≡ take room (t ++ codes "") → r ≡ take room (t ++ day_text n)
  unfolding day_text
  day-none n k e = taken t (codes "") (codes "+" ++ decimal n) (eq-eqb n 0 k) e

  pub day-some : (n : ℕ) → (n ≡ 0 → ⊥) → r ≡ take room (t ++ (codes "+" ++ decimal n)) → r ≡ take room (t ++ day_text n)
  unfolding day_text
  day-some n k e = left t (codes "") (codes "+" ++ decimal n) (ne_eqb n 0 k) e

  pub moment-given : (from tick : ℕ) {s : List ℕ} → s ≡ take room (t ++ time_text ((from + tick) % 864000))
      → r ≡ take room (s ++ day_text ((from + tick) / 864000)) → r ≡ take room (t ++ moment_text (Some from) tick)
  unfolding moment_text
  moment-given from tick e q = then t (time_text ((from + tick) % 864000)) (day_text ((from + tick) / 864000)) e q

  pub frame-none : (style : Style) (frame : ℕ) → frame ≡ 0 → r ≡ take room (t ++ none_text style)
      → r ≡ take room (t ++ frame_or style frame)
  unfolding frame_or
  frame-none style frame k e = taken t (none_text style) (codes "" ++ decimal frame) (eq-eqb frame 0 k) e

  pub frame-some : (style : Style) (frame : ℕ) → (frame ≡ 0 → ⊥) → r ≡ take room (t ++ (codes "" ++ decimal frame))
      → r ≡ take room (t ++ frame_or style frame)
  unfolding frame_or
  frame-some style frame k e = left t (none_text style) (codes "" ++ decimal frame) (ne_eqb frame 0 k) e

  pub moment-none : (style : Style) (clock : Option ℕ) (frame tick : ℕ) → frame ≡ 0 → r ≡ take room (t ++ none_text style)
      → r ≡ take room (t ++ moment_or style clock frame tick)
  unfolding moment_or
  moment-none style clock frame tick k e =
      taken t (none_text style) (quote_text style ++ moment_text clock tick ++ quote_text style) (eq-eqb frame 0 k) e

  pub moment-some : (style : Style) (clock : Option ℕ) (frame tick : ℕ) {a b : List ℕ} → (frame ≡ 0 → ⊥)
      → a ≡ take room (t ++ quote_text style)
      → b ≡ take room (a ++ moment_text clock tick) → r ≡ take room (b ++ quote_text style)
      → r ≡ take room (t ++ moment_or style clock frame tick)
  unfolding moment_or
  moment-some style clock frame tick k e f g =
      left t (none_text style) (quote_text style ++ moment_text clock tick ++ quote_text style) (ne_eqb frame 0 k)
      (then t (quote_text style ++ moment_text clock tick) (quote_text style)
      (then t (quote_text style) (moment_text clock tick) e f) g)

-- a value put
pub put-so : (t : List ℕ) (style : Style) (csv json : List ℕ) (width : ℕ) (value : List ℕ) (long n : ℕ) {a b r : List ℕ}
    → a ≡ take room (t ++ lead_of style csv json)
    → b ≡ take room (a ++ value) → long ≡ length value → n ≡ gap_of style width long → r ≡ take room (b ++ blanks_of n)
    → r ≡ take room (t ++ put_text style csv json width value)
unfolding put_text
put-so t style csv json width value long n {a} {b} {r} e f g h q =
    let z : n ≡ gap_of style width (length value) = h ∙ ap (gap_of style width) g in
    then t (lead_of style csv json ++ value) (blanks_of (gap_of style width (length value)))
    (then t (lead_of style csv json) value e f) (q ∙ ap (λ (j : ℕ). take room (b ++ blanks_of j)) z)

-- a row
pub row-so : (style : Style) (clock : Option ℕ) (row : Row)
    {o v1 v2 v3 v4 v5 v6 v7 v8 v9 v10 p1 p2 p3 p4 p5 p6 p7 p8 p9 p10 r : List ℕ} → o ≡ []
    → v1 ≡ take room (o ++ (address_text row.visit.key))
    → v2 ≡ take room (o ++ (kind_text row.visit.key))
    → v3 ≡ take room (o ++ (codes "" ++ decimal (row.visit.key / devices)))
    → v4 ≡ take room (o ++ (frame_or style row.visit.frame))
    → v5 ≡ take room (o ++ (moment_or style clock row.visit.frame row.visit.tick))
    → v6 ≡ take room (o ++ (frame_or style row.frame))
    → v7 ≡ take room (o ++ (moment_or style clock row.frame row.tick))
    → v8 ≡ take room (o ++ (ended_text row.how))
    → v9 ≡ take room (o ++ (codes "" ++ decimal row.visit.packets))
    → v10 ≡ take room (o ++ (mean_or style (mean_of row.visit.packets row.visit.sum)))
    → p1 ≡ take room (o ++ put_text style (codes "") (codes "{\"device\":\"") 19 v1)
    → p2 ≡ take room (p1 ++ put_text style (codes ",") (codes "\",\"type\":\"") 8 v2)
    → p3 ≡ take room (p2 ++ put_text style (codes ",") (codes "\",\"monitor\":") 9 v3)
    → p4 ≡ take room (p3 ++ put_text style (codes ",") (codes ",\"start_frame\":") 12 v4)
    → p5 ≡ take room (p4 ++ put_text style (codes ",") (codes ",\"start\":") 15 v5)
    → p6 ≡ take room (p5 ++ put_text style (codes ",") (codes ",\"stop_frame\":") 12 v6)
    → p7 ≡ take room (p6 ++ put_text style (codes ",") (codes ",\"stop\":") 15 v7)
    → p8 ≡ take room (p7 ++ put_text style (codes ",") (codes ",\"ended\":\"") 13 v8)
    → p9 ≡ take room (p8 ++ put_text style (codes ",") (codes "\",\"packets\":") 12 v9)
    → p10 ≡ take room (p9 ++ put_text style (codes ",") (codes ",\"mean_rssi\":") 0 v10)
    → r ≡ take room (p10 ++ end_text style) → r ≡ take room (row_text style clock row)
unfolding row_text cut
row-so style clock row {o} {v1} {v2} {v3} {v4} {v5} {v6} {v7} {v8} {v9} {v10} {p1} {p2} {p3} {p4} {p5} {p6} {p7}
    {p8} {p9} {p10} {r} z a1 a2 a3 a4 a5 a6 a7 a8 a9 a10 b1 b2 b3 b4 b5 b6 b7 b8 b9 b10 c =
    let x1 = put_text style (codes "") (codes "{\"device\":\"") 19 (take room (address_text row.visit.key)) in
    let x2 = put_text style (codes ",") (codes "\",\"type\":\"") 8 (take room (kind_text row.visit.key)) in
    let x3 = put_text style (codes ",")
    (codes "\",\"monitor\":") 9 (take room (codes "" ++ decimal (row.visit.key / devices))) in
    let x4 = put_text style (codes ",") (codes ",\"start_frame\":") 12 (take room (frame_or style row.visit.frame)) in
    let x5 = put_text style (codes ",") (codes ",\"start\":") 15
    (take room (moment_or style clock row.visit.frame row.visit.tick)) in
    let x6 = put_text style (codes ",") (codes ",\"stop_frame\":") 12 (take room (frame_or style row.frame)) in
    let x7 = put_text style (codes ",") (codes ",\"stop\":") 15
    (take room (moment_or style clock row.frame row.tick)) in
    let x8 = put_text style (codes ",") (codes ",\"ended\":\"") 13 (take room (ended_text row.how)) in
    let x9 = put_text style (codes ",")
    (codes "\",\"packets\":") 12 (take room (codes "" ++ decimal row.visit.packets)) in
    let x10 = put_text style (codes ",") (codes ",\"mean_rssi\":") 0
    (take room (mean_or style (mean_of row.visit.packets row.visit.sum))) in
    let d1 : v1 ≡ take room (address_text row.visit.key) =
    a1 ∙ ap (λ (l : List ℕ). take room (l ++ (address_text row.visit.key))) z in
    let d2 : v2 ≡ take room (kind_text row.visit.key) =
    a2 ∙ ap (λ (l : List ℕ). take room (l ++ (kind_text row.visit.key))) z in
    let d3 : v3 ≡ take room (codes "" ++ decimal (row.visit.key / devices)) =
    a3 ∙ ap (λ (l : List ℕ). take room (l ++ (codes "" ++ decimal (row.visit.key / devices)))) z in
    let d4 : v4 ≡ take room (frame_or style row.visit.frame) =
    a4 ∙ ap (λ (l : List ℕ). take room (l ++ (frame_or style row.visit.frame))) z in
    let d5 : v5 ≡ take room (moment_or style clock row.visit.frame row.visit.tick) =
    a5 ∙ ap (λ (l : List ℕ). take room (l ++ (moment_or style clock row.visit.frame row.visit.tick)))
    z in
    let d6 : v6 ≡ take room (frame_or style row.frame) =
    a6 ∙ ap (λ (l : List ℕ). take room (l ++ (frame_or style row.frame))) z in
    let d7 : v7 ≡ take room (moment_or style clock row.frame row.tick) =
    a7 ∙ ap (λ (l : List ℕ). take room (l ++ (moment_or style clock row.frame row.tick))) z in
    let d8 : v8 ≡ take room (ended_text row.how) =
    a8 ∙ ap (λ (l : List ℕ). take room (l ++ (ended_text row.how))) z in
    let d9 : v9 ≡ take room (codes "" ++ decimal row.visit.packets) =
    a9 ∙ ap (λ (l : List ℕ). take room (l ++ (codes "" ++ decimal row.visit.packets))) z in
    let d10 : v10 ≡ take room (mean_or style (mean_of row.visit.packets row.visit.sum)) =
    a10 ∙ ap (λ (l : List ℕ). take room (l ++ (mean_or style (mean_of row.visit.packets row.visit.sum)))) z in
    let e1 : p1 ≡ take room (o ++ x1) =
    b1 ∙ ap (λ (l : List ℕ). take room (o ++ put_text style (codes "") (codes "{\"device\":\"") 19 l)) d1 in
    let e2 : p2 ≡ take room (p1 ++ x2) =
    b2 ∙ ap (λ (l : List ℕ). take room (p1 ++ put_text style (codes ",") (codes "\",\"type\":\"") 8 l)) d2 in
    let e3 : p3 ≡ take room (p2 ++ x3) =
    b3 ∙ ap (λ (l : List ℕ). take room (p2 ++ put_text style (codes ",") (codes "\",\"monitor\":") 9 l)) d3 in
    let e4 : p4 ≡ take room (p3 ++ x4) =
    b4 ∙ ap (λ (l : List ℕ). take room (p3 ++ put_text style (codes ",") (codes ",\"start_frame\":") 12 l)) d4 in
    let e5 : p5 ≡ take room (p4 ++ x5) =
    b5 ∙ ap (λ (l : List ℕ). take room (p4 ++ put_text style (codes ",") (codes ",\"start\":") 15 l)) d5 in
    let e6 : p6 ≡ take room (p5 ++ x6) =
    b6 ∙ ap (λ (l : List ℕ). take room (p5 ++ put_text style (codes ",") (codes ",\"stop_frame\":") 12 l)) d6 in
    let e7 : p7 ≡ take room (p6 ++ x7) =
    b7 ∙ ap (λ (l : List ℕ). take room (p6 ++ put_text style (codes ",") (codes ",\"stop\":") 15 l)) d7 in
    let e8 : p8 ≡ take room (p7 ++ x8) =
    b8 ∙ ap (λ (l : List ℕ). take room (p7 ++ put_text style (codes ",") (codes ",\"ended\":\"") 13 l)) d8 in
    let e9 : p9 ≡ take room (p8 ++ x9) =
    b9 ∙ ap (λ (l : List ℕ). take room (p8 ++ put_text style (codes ",") (codes "\",\"packets\":") 12 l)) d9 in
    let e10 : p10 ≡ take room (p9 ++ x10) =
    b10 ∙ ap (λ (l : List ℕ). take room (p9 ++ put_text style (codes ",") (codes ",\"mean_rssi\":") 0 l)) d10 in
    let f1 : p1 ≡ take room x1 = e1 ∙ ap (λ (l : List ℕ). take room (l ++ x1)) z in
    then [] (x1 ++ x2 ++ x3 ++ x4 ++ x5 ++ x6 ++ x7 ++ x8 ++ x9 ++ x10) (end_text style)
    (then [] (x1 ++ x2 ++ x3 ++ x4 ++ x5 ++ x6 ++ x7 ++ x8 ++ x9) x10
    (then [] (x1 ++ x2 ++ x3 ++ x4 ++ x5 ++ x6 ++ x7 ++ x8) x9
    (then [] (x1 ++ x2 ++ x3 ++ x4 ++ x5 ++ x6 ++ x7) x8
    (then [] (x1 ++ x2 ++ x3 ++ x4 ++ x5 ++ x6) x7
    (then [] (x1 ++ x2 ++ x3 ++ x4 ++ x5) x6
    (then [] (x1 ++ x2 ++ x3 ++ x4) x5
    (then [] (x1 ++ x2 ++ x3) x4 (then [] (x1 ++ x2) x3 (then [] (x1) x2 f1 e2) e3) e4) e5) e6) e7) e8) e9) e10) c

-- a text's characters, however many are counted
pub cut-long : (octets : List ℕ) (count : ℕ) → length octets ≡ room → room < count → take count octets ≡ octets
cut-long octets count l h = take_all count octets (omega arith)

pub long-short : (octets : List ℕ) (count : ℕ) → length octets ≡ room → count ≤ room
    → count ≡ length (take count octets)
long-short octets count l h = sym (length-take-le count octets (omega arith))

pub long-long : (octets : List ℕ) (count : ℕ) → length octets ≡ room → room < count → room ≡ length (take count octets)
long-long octets count l h = sym (ap length (cut-long octets count l h) ∙ l)
