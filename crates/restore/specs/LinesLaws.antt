-- Laws of the definitions in Lines.
use Rattle.std.specs.Prelude.{ℕ, ◌+◌, ◌-◌, ◌*◌, ◌≤◌, ◌<◌, ◌≡◌, Bool, true, false, List, [], ◌∷◌, eqb, take, drop, replicate, set}
use Rattle.std.proofs.Math.Path.{sym, ap}
use Rattle.std.proofs.Common.{◌∙◌, arith}
use borrow.Author.Tests.{lt-ltb, le-ltb, eq-eqb, ne_eqb}
use Rattle.std.proofs.Math.ListN.{length, get_or, length-drop, length-replicate}
use Rattle.std.proofs.Math.Seq.{length-take-le}
use Rattle.laws.specs.Tests.{pick}
use Rattle.laws.specs.TestsLaws.{pick_true, pick-false, and_both, and-not-left, and-not-right, cases-le}
use Rattle.laws.specs.Put.{put}
use Rattle.laws.specs.PutLaws.{set-put, length-put}
use Rattle.octets.specs.NumbersLaws.{at-most}
use Rattle.model.specs.Block.{pad_to}
use Rattle.model.specs.Layout.{block_size, condition_length_at, count_at, extra_at, extra_size, handle_at, head_size, line_row, monitor_size, monitors_at, most_condition, most_monitors, most_pairs, pair_size, pairs_at}
use Rattle.restore.specs.Lines.{stored_monitor, stored_pair, second_end, spread_of, stored, stored_in}

-- lines one after another
unfoldable pub stored_all : List ℕ → List (List ℕ) → List ℕ
stored_all s [] = s
stored_all s (r ∷ rs) = stored_all (stored s (pad_to line_row r)) rs

-- the branches of the code

module _ (s r : List ℕ) where
  pub monitor-other : most_monitors ≤ get_or r handle_at 0 → s ≡ stored_monitor s r
  unfolding stored_monitor pick
  monitor-other h = rw (le-ltb (get_or r handle_at 0) most_monitors h)

  pub monitor-own : {t : List ℕ} → get_or r handle_at 0 < most_monitors
      → t ≡ put s (monitors_at + monitor_size * get_or r handle_at 0) r → t ≡ stored_monitor s r
  unfolding stored_monitor pick
  monitor-own h e = rw (lt-ltb (get_or r handle_at 0) most_monitors h) e

  pub pair-full : most_pairs ≤ get_or s count_at 0 → s ≡ stored_pair s r
  unfolding stored_pair pick
  pair-full h = rw (le-ltb (get_or s count_at 0) most_pairs h)

  pub pair-more : {t : List ℕ} → length s ≡ block_size → length r ≡ pair_size → get_or s count_at 0 < most_pairs
      → t ≡ put s (pairs_at + pair_size * get_or s count_at 0) r → set t count_at (get_or s count_at 0 + 1) ≡ stored_pair s r
  unfolding stored_pair pick
  pair-more {t} l k h e =
      let n : length (put s (pairs_at + pair_size * get_or s count_at 0) r) ≡ length s =
      length-put s (pairs_at + pair_size * get_or s count_at 0) r (omega arith) in
      rw (lt-ltb (get_or s count_at 0) most_pairs h, e)
      (set-put (put s (pairs_at + pair_size * get_or s count_at 0) r) count_at (get_or s count_at 0 + 1) (omega arith))

module _ (s l : List ℕ) {t : List ℕ} where
  pub name-head : get_or l 0 0 ≡ 0xA0 → t ≡ put s 0 (take head_size (drop 1 l)) → t ≡ stored s l
  unfolding stored pick
  name-head h e = rw (eq-eqb (get_or l 0 0) 0xA0 h) e

  pub name-monitor : get_or l 0 0 ≡ 0xA1 → t ≡ stored_monitor s (take monitor_size (drop 1 l)) → t ≡ stored s l
  unfolding stored pick
  name-monitor h e =
      rw (ne_eqb (get_or l 0 0) 0xA0 (λ (x : get_or l 0 0 ≡ 0xA0). omega arith), eq-eqb (get_or l 0 0) 0xA1 h) e

  pub name-second : get_or l 0 0 ≡ 0xA5 → t ≡ stored_monitor s (spread_of l) → t ≡ stored s l
  unfolding stored pick
  name-second h e =
      rw (
        ne_eqb (get_or l 0 0) 0xA0 (λ (x : get_or l 0 0 ≡ 0xA0). omega arith),
        ne_eqb (get_or l 0 0) 0xA1 (λ (x : get_or l 0 0 ≡ 0xA1). omega arith),
        eq-eqb (get_or l 0 0) 0xA5 h,
      )
      e

  pub name-pair : get_or l 0 0 ≡ 0xA3 → t ≡ stored_pair s (take pair_size (drop 1 l)) → t ≡ stored s l
  unfolding stored pick
  name-pair h e =
      rw (
        ne_eqb (get_or l 0 0) 0xA0 (λ (x : get_or l 0 0 ≡ 0xA0). omega arith),
        ne_eqb (get_or l 0 0) 0xA1 (λ (x : get_or l 0 0 ≡ 0xA1). omega arith),
        ne_eqb (get_or l 0 0) 0xA5 (λ (x : get_or l 0 0 ≡ 0xA5). omega arith),
        eq-eqb (get_or l 0 0) 0xA3 h,
      )
      e

pub name-other : (s l : List ℕ) → (get_or l 0 0 ≡ 0xA0 → ⊥) → (get_or l 0 0 ≡ 0xA1 → ⊥) → (get_or l 0 0 ≡ 0xA5 → ⊥)
    → (get_or l 0 0 ≡ 0xA3 → ⊥) → s ≡ stored s l
unfolding stored pick
name-other s l a b d c =
    rw (ne_eqb (get_or l 0 0) 0xA0 a, ne_eqb (get_or l 0 0) 0xA1 b, ne_eqb (get_or l 0 0) 0xA5 d, ne_eqb (get_or l 0 0) 0xA3 c)

-- a block keeps its length
length-pick : (b : Bool) (x y : List ℕ) {n : ℕ} → length x ≡ n → length y ≡ n → length (pick b x y) ≡ n
unfolding pick
length-pick true x y p q = p
length-pick false x y p q = q

module _ (s : List ℕ) (n : length s ≡ block_size) where
  length-monitor : (r : List ℕ) → length r ≡ monitor_size → length (stored_monitor s r) ≡ block_size
  unfolding stored_monitor
  length-monitor r k = cases-le most_monitors (get_or r handle_at 0)
      (λ h. ap length (pick-false (put s (monitors_at + monitor_size * get_or r handle_at 0) r) s
      (le-ltb (get_or r handle_at 0) most_monitors h)) ∙ n)
      (λ h. ap length (pick_true (put s (monitors_at + monitor_size * get_or r handle_at 0) r) s
      (lt-ltb (get_or r handle_at 0) most_monitors h))
      ∙ length-put s (monitors_at + monitor_size * get_or r handle_at 0) r (omega arith) ∙ n)

  length-pair : (r : List ℕ) → length r ≡ pair_size → length (stored_pair s r) ≡ block_size
  unfolding stored_pair
  length-pair r k = cases-le most_pairs (get_or s count_at 0)
      (λ h. ap length (pick-false _ s (le-ltb (get_or s count_at 0) most_pairs h)) ∙ n)
      (λ h.
      let a : length (put s (pairs_at + pair_size * get_or s count_at 0) r) ≡ length s =
      length-put s (pairs_at + pair_size * get_or s count_at 0) r (omega arith) in
      ap length (pick_true _ s (lt-ltb (get_or s count_at 0) most_pairs h))
      ∙ length-put (put s (pairs_at + pair_size * get_or s count_at 0) r) count_at ((get_or s count_at 0 + 1) ∷ [])
      (omega arith) ∙ a ∙ n)

  length-spread : (l : List ℕ) → length l ≡ line_row → length (spread_of l) ≡ monitor_size
  unfolding spread_of
  length-spread l k =
      let m = at-most (get_or l (1 + condition_length_at) 0) most_condition in
      let z : length {A = ℕ} (replicate monitor_size 0) ≡ monitor_size = length-replicate {A = ℕ} monitor_size 0 in
      let x : length (take (second_end l - 1) (drop 1 l)) ≡ second_end l - 1 =
      length-take-le (second_end l - 1) (drop 1 l) (simp length-drop (omega arith)) in
      let y : length (take extra_size (drop (second_end l) l)) ≡ extra_size =
      length-take-le extra_size (drop (second_end l) l) (simp length-drop (omega arith)) in
      let a : length (put (replicate monitor_size 0) 0 (take (second_end l - 1) (drop 1 l)))
      ≡ length {A = ℕ} (replicate monitor_size 0) =
      length-put (replicate monitor_size 0) 0 (take (second_end l - 1) (drop 1 l)) (omega arith) in
      length-put (put (replicate monitor_size 0) 0 (take (second_end l - 1) (drop 1 l))) extra_at
      (take extra_size (drop (second_end l) l)) (omega arith) ∙ a ∙ z

  pub length-stored : (l : List ℕ) → length l ≡ line_row → length (stored s l) ≡ block_size
  unfolding stored
  length-stored l k =
      let row_of : (i : ℕ) → i < line_row → length (take i (drop 1 l)) ≡ i =
      λ i h. length-take-le i (drop 1 l) (simp length-drop (omega arith)) in
      length-pick (eqb (get_or l 0 0) 0xA0) _ _
      (length-put s 0 (take head_size (drop 1 l)) (let a = row_of head_size (omega arith) in omega arith) ∙ n)
      (length-pick (eqb (get_or l 0 0) 0xA1) _ _
      (length-monitor (take monitor_size (drop 1 l)) (row_of monitor_size (omega arith)))
      (length-pick (eqb (get_or l 0 0) 0xA5) _ _ (length-monitor (spread_of l) (length-spread l k))
      (length-pick (eqb (get_or l 0 0) 0xA3) _ _ (length-pair (take pair_size (drop 1 l)) (row_of pair_size (omega arith)))
      n)))

-- whatever the lengths are
module _ (s l : List ℕ) where
  pub sized-block : (length s ≡ block_size → ⊥) → s ≡ stored_in s l
  unfolding stored_in
  sized-block h = sym
      (pick-false (stored s l) s
      (and-not-left (eqb (length s) block_size) (eqb (length l) line_row) (ne_eqb (length s) block_size h)))

  pub sized-line : (length l ≡ line_row → ⊥) → s ≡ stored_in s l
  unfolding stored_in
  sized-line h = sym
      (pick-false (stored s l) s
      (and-not-right (eqb (length s) block_size) (eqb (length l) line_row) (ne_eqb (length l) line_row h)))

  pub sized-both : {t : List ℕ} → length s ≡ block_size → length l ≡ line_row → t ≡ stored s l → t ≡ stored_in s l
  unfolding stored_in
  sized-both h k e =
      e ∙ sym (pick_true (stored s l) s (and_both (eq-eqb (length s) block_size h) (eq-eqb (length l) line_row k)))
