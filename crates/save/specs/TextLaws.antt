-- Laws of the definitions in Text.
use Rattle.std.specs.Prelude.{ℕ, ◌+◌, ◌*◌, ◌≤◌, ◌≡◌, Bool, true, false, List, [], ◌∷◌, ◌++◌, eqb, length, take, get_or}
use Rattle.std.proofs.Common.{arith, length-append, length-take}
use Rattle.laws.specs.Tests.{pick}
use Rattle.laws.specs.Loops.{only}
use Rattle.laws.specs.LoopsLaws.{length-up_to, length-when, length-only}
use Rattle.octets.specs.Numbers.{at_most}
use Rattle.octets.specs.NumbersLaws.{at-most}
use Rattle.lines.specs.Hex.{text_of}
use Rattle.lines.specs.TextsLaws.{length-text}
use Rattle.model.specs.Block.{in_use}
use Rattle.blocks.specs.Added.{added_in}
use Rattle.model.specs.Layout.{head_line, monitor_line, pair_line}
use Rattle.sessions.specs.Machine.{core_room}
use Rattle.model.specs.Layout.{condition_at, condition_length_at, count_at, data_at, extra_at, extra_size, head_size, length_at, most_condition, most_data, most_monitors, most_pairs, most_prefix, prefix_at, prefix_length_at}
use Rattle.save.specs.Text.{head_text, fields_of, line_of, monitor_text, pair_text, end_text, monitor_at, pair_at, live_below, monitors_text, pairs_text, pairs_in, rest_text, saved_text}

-- lengths

-- a line of at most n octets of a row, with the octet that names it
pub length-line : (name n k : ℕ) (r : List ℕ) → k ≤ n → length (text_of (name ∷ take k r)) ≤ 2 * n + 3
length-line name n k r h =
    let t : length (take k r) ≤ k = simp length-take (omega arith) in
    let e : length (text_of (name ∷ take k r)) ≡ 2 * length (name ∷ take k r) + 1 = length-text (name ∷ take k r) in
    omega arith

pub length-head_text : (s : List ℕ) → length (head_text s) ≤ head_line
unfolding head_text
length-head_text s =
    length-line 0xA0 head_size (prefix_at + at_most (get_or s prefix_length_at 0) most_prefix) s
    (omega (arith, at-most (get_or s prefix_length_at 0) most_prefix))

length-line_of : (r : List ℕ) → length (line_of r) ≤ 1 + (condition_at + most_condition + extra_size)
unfolding line_of pick
length-line_of r = go (eqb (get_or r extra_at 0) 0)
  where
    f : length (fields_of r) ≤ condition_at + most_condition
    f = simp length-take (omega (arith, at-most (get_or r condition_length_at 0) most_condition))

    a : length (added_in r) ≤ extra_size
    a = simp length-take (omega arith)

    go : (t : Bool) → length (pick t (0xA1 ∷ fields_of r) (0xA5 ∷ (fields_of r ++ added_in r))) ≤ 1 +
        (condition_at + most_condition + extra_size)
    go true = omega (arith, f)
    go false = omega (arith, f, a, length-append (fields_of r) (added_in r))

pub length-monitor_text : (r : List ℕ) → length (monitor_text r) ≤ monitor_line
unfolding monitor_text
length-monitor_text r =
    let n : length (text_of (line_of r)) ≡ 2 * length (line_of r) + 1 = length-text (line_of r) in
    omega (arith, length-line_of r, length-when (in_use r) (text_of (line_of r)))

pub length-pair_text : (r : List ℕ) → length (pair_text r) ≤ pair_line
unfolding pair_text
length-pair_text r =
    length-line 0xA3 (data_at + most_data) (data_at + at_most (get_or r length_at 0) most_data) r
    (omega (arith, at-most (get_or r length_at 0) most_data))

pub length-end_text : (u c : ℕ) → length (end_text u c) ≡ 7
unfolding end_text
length-end_text u c = length-text (0xAF ∷ u ∷ c ∷ [])

pub length-monitors_text : (s : List ℕ) (n : ℕ) → length (monitors_text s n) ≤ monitor_line * n
unfolding monitors_text
length-monitors_text s n =
    length-up_to (λ h. monitor_text (monitor_at s h)) monitor_line (λ h. length-monitor_text (monitor_at s h)) n

pub length-pairs_text : (s : List ℕ) (n : ℕ) → length (pairs_text s n) ≤ pair_line * n
unfolding pairs_text
length-pairs_text s n = length-up_to (λ i. pair_text (pair_at s i)) pair_line (λ i. length-pair_text (pair_at s i)) n

pub length-live_below : (s : List ℕ) (n : ℕ) → length (live_below s n) ≤ n
unfolding live_below
length-live_below s n =
    let b = length-up_to (λ h. only (in_use (monitor_at s h)) h) 1 (λ h. length-only (in_use (monitor_at s h)) h) n in
    omega (arith, b)

pub pairs-most : (s : List ℕ) → pairs_in s ≤ most_pairs
unfolding pairs_in
pairs-most s = at-most (get_or s count_at 0) most_pairs

pub length-rest_text : (s : List ℕ) → length (rest_text s) + head_line ≤ core_room
unfolding rest_text
length-rest_text s =
    let e = length-end_text (length (live_below s most_monitors)) (pairs_in s) in
    simp length-append (omega (
      arith,
      length-monitors_text s most_monitors,
      length-pairs_text s
          (pairs_in s),
      pairs-most s,
    ))

-- "image 10,698": no block has a longer text
pub length-saved_text : (s : List ℕ) → length (saved_text s) ≤ core_room
unfolding saved_text
length-saved_text s = simp length-append (omega (arith, length-head_text s, length-rest_text s))
