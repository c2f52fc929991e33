-- No line has more words than the room of an output: the words of a line are all written. Assumes nothing.
use Rattle.std.specs.Prelude.{ℕ, ◌+◌, ◌-◌, ◌*◌, ◌≤◌, ◌≡◌, ◌&&◌, ◌||◌, List, leb, ltb, eqb, length, take, drop, Option, Some, None}
use Rattle.std.proofs.Common.{ap, ◌∙◌, arith, leb-true, length-append, length-drop, take_all}
use Rattle.laws.specs.Put.{put}
use Rattle.laws.specs.TestsLaws.{and_right}
use Rattle.octets.specs.Numbers.{number_at}
use Rattle.lines.specs.Hex.{is_text, octets_in}
use Rattle.lines.specs.TextsLaws.{length-hex}
use Rattle.model.specs.Quoted.{codes}
use Rattle.names.specs.RefusalsLaws.{refusal-most}
use Rattle.words.specs.Says.{Says, fitting}
use Rattle.words.specs.Pieces.{part_of, device_of}
use Rattle.shown.specs.Commands.{raw_text, add_text, add2_text, cancel_text, enable_text, parameters_text, command_text, returned_text, complete_text}
use Rattle.shown.specs.Frames.{heard_text, packet_text, scanned_text, frame_text, change_text, report_text}
use Rattle.shown.specs.Image.{head_text, edition_text, added_text, monitor_text, counts_text, pair_text, end_text, image_text, begins}
use Rattle.shown.specs.Line.{is_kind, line_text, no_line, octets_why, said_of, octets_text, is_digits, why_no_text, text_words, refusal_in, is_refusal, refused_text, refused_in, words_of}
use Rattle.lengths.specs.PiecesLaws.{by, digits, number-long, part-most, part-within, parts_within, dbm-most, sum-most, device-most}
use Rattle.lengths.specs.FieldsLaws.{event-most, status-most, sub-most, why-most, switch-most, change-most, prefix-most, structures-most, condition-most, limits-most, peer-most}
use Rattle.fields.specs.declared.terms.Fault.{Fault}

-- commands
raw-most : (s : List ℕ) → length (raw_text s) ≤ 2 * length s + 13
unfolding raw_text codes
raw-most s = by (eqb (length s) 0) _ _ (2 * length s + 13) (λ e. omega arith)
    (λ e. simp (length-append, length-hex) (omega arith))

add_most : (s : List ℕ) → length (add_text s) ≤ 27 * length s + 421
unfolding add_text codes
add_most s =
    by (ltb (length s) 5) _ _ (27 * length s + 421) (λ e. let r = raw-most s in omega arith)
    (λ e. let a = limits-most s in let b = condition-most (number_at 1 s 4) (drop 5 s) in let d = length-drop 5
    s in simp length-append (omega arith))

add2-most : (s : List ℕ) → length (add2_text s) ≤ 27 * length s + 421
unfolding add2_text codes
add2-most s =
    by (ltb (length s) 30) _ _ (27 * length s + 421) (λ e. let r = raw-most s in omega arith)
    (λ e. let a = limits-most s in
    let p = peer-most (drop 4 s) in
    let b = condition-most (number_at 1 s 29) (drop 30 s) in
    let d = length-drop 30 s in
    simp length-append (omega arith))

cancel-most : (s : List ℕ) → length (cancel_text s) ≤ 27 * length s + 421
unfolding cancel_text codes
cancel-most s =
    by (eqb (length s) 1) _ _ (27 * length s + 421)
    (λ e. let a = digits (number_at 1 s 0) in simp length-append (omega arith))
    (λ e. let r = raw-most s in omega arith)

enable-most : (s : List ℕ) → length (enable_text s) ≤ 27 * length s + 421
unfolding enable_text codes
enable-most s =
    by (eqb (length s) 1 && leb (number_at 1 s 0) 1) _ _ (27 * length s + 421)
    (λ e. let a = switch-most (number_at 1 s 0) in simp length-append (omega arith))
    (λ e. let r = raw-most s in omega arith)

parameters-most : (sub : ℕ) (s : List ℕ) → length (parameters_text sub s) ≤ 27 * length s + 421
unfolding parameters_text
parameters-most sub s =
    by (eqb sub 3) _ _ (27 * length s + 421) (λ e. add_most s)
    (λ e. by (eqb sub 15) _ _ (27 * length s + 421) (λ q. add2-most s)
    (λ q. by (eqb sub 4) _ _ (27 * length s + 421) (λ u. cancel-most s)
    (λ u. by (eqb sub 5) _ _ (27 * length s + 421) (λ v. enable-most s) (λ v. let r = raw-most s in omega arith))))

command-most : (s : List ℕ) → length (command_text s) ≤ 27 * length s + 462
unfolding command_text codes
command-most s =
    let a = part-most s 0 2 in
    let b = sub-most (number_at 1 s 3) in
    let c = parameters-most (number_at 1 s 3) (drop 4 s) in
    let d = length-drop 4 s in
    simp (length-append, number-long) (omega arith)

returned-most : (status sub : ℕ) (s : List ℕ) → length (returned_text status sub s) ≤ 2 * length s + 41
unfolding returned_text codes
returned-most status sub s =
    by (eqb status 0) _ _ (2 * length s + 41)
    (λ e. by (eqb sub 3 || eqb sub 15) _ _ (2 * length s + 41)
    (λ q. let a = digits (number_at 1 s 0) in simp length-append (omega arith))
    (λ q. by (eqb sub 0) _ _ (2 * length s + 41)
    (λ u. let a = part-most s 0 8 in let b = prefix-most (drop 9 s) in let d = length-drop 9 s in simp
    (length-append, number-long) (omega arith)) (λ u. omega arith)))
    (λ e. omega arith)

complete-most : (s : List ℕ) → length (complete_text s) ≤ 27 * length s + 500
unfolding complete_text codes
complete-most s =
    let a = part-most s 3 2 in
    let b = sub-most (number_at 1 s 6) in
    let c = status-most (number_at 1 s 5) in
    let e = returned-most (number_at 1 s 5) (number_at 1 s 6) (drop 7 s) in
    let d = length-drop 7 s in
    simp (length-append, number-long) (omega arith)

-- frames and events
heard-most : (s : List ℕ) → length (heard_text s) ≤ 75
unfolding heard_text codes
heard-most s =
    let a = event-most (number_at 1 s 0) in
    let b = device-most (device_of (drop 1 s)) in
    let c = dbm-most (number_at 1 s (length s - 1)) in
    simp length-append (omega arith)

packet-most : (s : List ℕ) → length (packet_text s) ≤ 27 * length (part_of s 9 (number_at 1 s 8)) + 75
unfolding packet_text
packet-most s = let a = heard-most s in let b =
    structures-most (part_of s 9 (number_at 1 s 8)) in simp length-append (omega arith)

scanned-most : (s : List ℕ) → length (scanned_text s) ≤ 27 * length s + 90
unfolding scanned_text codes
scanned-most s =
    let n = number_at 1 s 8 in
    let a = packet-most s in
    let b = structures-most (part_of s (9 + n + 1) (number_at 1 s (9 + n))) in
    let c = parts_within s n (number_at 1 s (9 + n)) in
    simp length-append (omega arith)

frame-most : (s : List ℕ) → length (frame_text s) ≤ 27 * length s + 500
unfolding frame_text codes
frame-most s =
    let n = digits (number_at 4 s 1) in
    let d = length-drop 5 s in
    by (eqb (number_at 1 s 0) 1) _ _ (27 * length s + 500)
    (λ e. let a = command-most (drop 5 s) in simp length-append (omega arith))
    (λ e. by (eqb (number_at 1 s 0) 2) _ _ (27 * length s + 500)
    (λ q. let a = packet-most (drop 5 s) in let b = part-within (drop 5 s) 9 (number_at 1 (drop 5 s) 8) in simp
    length-append (omega arith))
    (λ q. by (eqb (number_at 1 s 0) 4) _ _ (27 * length s + 500)
    (λ u. let a = scanned-most (drop 5 s) in simp length-append (omega arith))
    (λ u. simp length-append (omega arith))))

change-text-most : (s : List ℕ) → length (change_text s) ≤ 27 * length s + 500
unfolding change_text codes
change-text-most s =
    by (ltb (length s) 12) _ _ (27 * length s + 500) (λ e. omega arith)
    (λ e. let a = change-most (number_at 1 s (length s - 1)) in
    let b = device-most (device_of (drop (length s - 9) s)) in
    let c = digits (number_at 1 s (length s - 2)) in
    let p = prefix-most (part_of s 2 (length s - 12)) in
    let w = part-within s 2 (length s - 12) in
    simp length-append (omega arith))

report-most : (s : List ℕ) → length (report_text s) ≤ 27 * length s + 500
unfolding report_text codes
report-most s =
    let a = packet-most (drop 4 s) in
    let b = part-within (drop 4 s) 9 (number_at 1 (drop 4 s) 8) in
    let d = length-drop 4 s in
    simp length-append (omega arith)

-- lines of an image
head-most : (s : List ℕ) → length (head_text s) ≤ 27 * length s + 500
unfolding head_text codes
head-most s =
    let a = digits (number_at 4 s 1) in
    let b = switch-most (number_at 1 s 5) in
    let c = part-most s 6 2 in
    let p = prefix-most (drop 9 s) in
    let d = length-drop 9 s in
    simp (length-append, number-long) (omega arith)

edition-most : (s : List ℕ) → length (edition_text s) ≤ 27 * length s + 500
unfolding edition_text codes
edition-most s =
    let a = digits (number_at 4 s 1) in let p = prefix-most (drop 6 s) in let d =
    length-drop 6 s in simp length-append (omega arith)

added-most : (s : List ℕ) → length (added_text s) ≤ 250
unfolding added_text
added-most s = by (eqb (number_at 1 s 0) 165) _ _ 250 (λ e. peer-most (part_of s (8 + number_at 1 s 7) 25))
    (λ e. omega arith)

monitor-most : (s : List ℕ) → length (monitor_text s) ≤ 27 * length s + 500
unfolding monitor_text codes
monitor-most s =
    let a = digits (number_at 1 s 1) in
    let b = limits-most (drop 2 s) in
    let c = condition-most (number_at 1 s 6) (part_of s 8 (number_at 1 s 7)) in
    let w = part-within s 8 (number_at 1 s 7) in
    let e = added-most s in
    simp length-append (omega arith)

counts-most : (s : List ℕ) → length (counts_text s) ≤ 136
unfolding counts_text codes
counts-most s =
    let a = digits (number_at 2 s 9) in
    let b = digits (number_at 1 s 11) in
    let c = digits (number_at 4 s 12) in
    let e = sum-most (number_at 8 s 16) in
    simp length-append (omega arith)

pair-most : (s : List ℕ) → length (pair_text s) ≤ 27 * length s + 500
unfolding pair_text codes
pair-most s =
    let a = digits (number_at 1 s 1) in
    let b = device-most (device_of (drop 2 s)) in
    let c = counts-most s in
    let l = dbm-most (number_at 1 s 24) in
    let e = event-most (number_at 1 s 25) in
    let f = structures-most (drop 27 s) in
    let d = length-drop 27 s in
    simp length-append (omega arith)

end-most : (s : List ℕ) → length (end_text s) ≤ 27 * length s + 500
unfolding end_text codes
end-most s = let a = digits (number_at 1 s 1) in let b = digits (number_at 1 s 2) in simp length-append (omega arith)

image-most : (s : List ℕ) → length (image_text s) ≤ 27 * length s + 500
unfolding image_text
image-most s =
    by (eqb (number_at 1 s 0) 160) _ _ (27 * length s + 500) (λ e. head-most s)
    (λ e. by (eqb (number_at 1 s 0) 164) _ _ (27 * length s + 500) (λ q. edition-most s)
    (λ q. by (eqb (number_at 1 s 0) 163) _ _ (27 * length s + 500) (λ u. pair-most s)
    (λ u. by (eqb (number_at 1 s 0) 175) _ _ (27 * length s + 500) (λ v. end-most s) (λ v. monitor-most s))))

-- lines
line-most : (s : List ℕ) → length (line_text s) ≤ 27 * length s + 500
unfolding line_text
line-most s =
    by (is_kind (number_at 1 s 0)) _ _ (27 * length s + 500) (λ e. frame-most s)
    (λ e. by (begins (number_at 1 s 0)) _ _ (27 * length s + 500) (λ q. image-most s)
    (λ q. by (eqb (number_at 1 s 0) 14) _ _ (27 * length s + 500) (λ u. complete-most s)
    (λ u. by (eqb (number_at 1 s 0) 255) _ _ (27 * length s + 500) (λ v. change-text-most s) (λ v. report-most s))))

no-line-most : (why : Fault) → length (no_line why) ≤ 42
unfolding no_line codes
no-line-most why = let a = why-most why in simp length-append (omega arith)

said-most : (s : List ℕ) (why : Option Fault) → length (said_of s why) ≤ 27 * length s + 500
unfolding said_of
said-most s None = line-most s
said-most s (Some why) = let a = no-line-most why in omega arith

octets-most : (s : List ℕ) → length (octets_text s) ≤ 27 * length s + 500
unfolding octets_text
octets-most s = said-most s (octets_why s)

refused-most : (x : ℕ) → length (refused_text x) ≤ 76
unfolding refused_text codes
refused-most x = let a = digits x in let b = refusal-most x in simp length-append (omega arith)

refused-in-most : (x : Option ℕ) → length (refused_in x) ≤ 76
unfolding refused_in
refused-in-most None = omega arith
refused-in-most (Some x) = refused-most x

-- a text that is a line has at most 263 octets, so at most 7,601 characters of words
pub words-most : (text : List ℕ) → length (words_of text) ≤ 7601
unfolding words_of text_words is_digits
words-most text =
    by (is_refusal text) _ _ 7601 (λ e. let a = refused-in-most (refusal_in text) in omega arith)
    (λ e. by (is_text text && leb (length (octets_in text)) 263) _ _ 7601
    (λ q. let h = leb-true (length (octets_in text)) 263
    (and_right (is_text text) (leb (length (octets_in text)) 263) q) in let a = octets-most (octets_in text) in omega
    arith)
    (λ q. let a = no-line-most (why_no_text (length text)) in omega arith))

-- so in an output of 8,192 characters all words of a line are written, and counted
pub all-written : (text : List ℕ) {out out' : List ℕ} {r : ℕ} → length out ≡ 8192 → Says out 0 (words_of text) out' r
    → (out' ≡ put out 0 (words_of text)) × (r ≡ length (words_of text))
unfolding fitting
all-written text {out} {out'} {r} l s =
    let m = words-most text in
    let e : take (length out - 0) (words_of text) ≡ words_of text =
    take_all (length out - 0) (words_of text) (omega arith) in (
      s.text ∙ ap (put out 0) e,
      s.end ∙ ap (λ (w : List ℕ). 0 + length w) e
          ∙ native.Mathlib.Nat.zero-add (length (words_of text)),
    )
