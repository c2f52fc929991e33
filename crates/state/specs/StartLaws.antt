-- Laws of the definitions in Start.
use Rattle.std.specs.Prelude.{◌≡◌, ℕ, suc, ◌+◌, ◌-◌, ◌%◌, ◌<◌, ◌≤◌, Bool, true, false, ◌&&◌, List, [], ◌∷◌, ◌++◌, length, take, drop, replicate, ◌==◌, ◌≢◌, nat_le, slice_index, Ok, Err}
use Rattle.std.proofs.Math.Path.{refl, sym, ap}
use Rattle.std.proofs.Common.{◌∙◌, append_assoc, arith, mod-eq_of_lt, length-append, take_at, drop_at, le-leb, lt-ltb, eq-eqb, ne_eqb}
use Rattle.std.proofs.lemmas.List.{length-replicate, replicate-append-replicate}
use Rattle.std.proofs.lemmas.Bool.{lt-leb}
use Rattle.laws.specs.Tests.{pick}
use Rattle.laws.specs.TestsLaws.{pick_true, pick-false, and_both, and-not-left, and-not-right}
use Rattle.laws.specs.Put.{put, put_if}
use Rattle.laws.specs.PutLaws.{put_of, put_then}
use Rattle.laws.specs.Loops.{every}
use Rattle.laws.specs.RowsLaws.{put_whole}
use Rattle.octets.specs.Little.{octets_of, is_octet}
use Rattle.octets.specs.LittleLaws.{length-octets}
use Rattle.refusals.specs.declared.Refusal.TheVariants.{BadSettings}
use Rattle.model.specs.Types.{fresh, blank, with_lists}
use Rattle.model.specs.Sound.{octets_up_to, sound_settings}
use Rattle.model.specs.Image.{head_row}
use Rattle.model.specs.Block.{pad_to, padded}
use Rattle.blocks.specs.LaidLaws.{empty-padded}
use Rattle.model.specs.Engine.{begin}
use Rattle.model.specs.Layout.{block_size, body_size, head_size, most_prefix}
use Rattle.state.specs.Start.{settings_of, settings_row, blank_in, fresh_in}

pub length-settings : (opcode : ℕ) (prefix : List ℕ) → length (settings_row opcode prefix) ≡ 3 + length prefix
length-settings opcode prefix = simp (length-append, length-octets) (omega arith)

-- a part written over zeros
zeros-take : (a n : ℕ) → a ≤ n → take {A = ℕ} a (replicate n 0) ≡ replicate a 0
zeros-take a n h =
    let e : a + (n - a) ≡ n = omega arith in
    ap (λ (k : ℕ). take {A = ℕ} a (replicate k 0)) (sym e)
    ∙ ap (λ (l : List ℕ). take a l) (sym (replicate-append-replicate a (n - a) 0))
    ∙ take_at (replicate a 0) (replicate (n - a) 0) a (length-replicate a 0)

zeros-drop : (a n : ℕ) → a ≤ n → drop {A = ℕ} a (replicate n 0) ≡ replicate (n - a) 0
zeros-drop a n h =
    let e : a + (n - a) ≡ n = omega arith in
    ap (λ (k : ℕ). drop {A = ℕ} a (replicate k 0)) (sym e)
    ∙ ap (λ (l : List ℕ). drop a l) (sym (replicate-append-replicate a (n - a) 0))
    ∙ drop_at (replicate a 0) (replicate (n - a) 0) a (length-replicate a 0)

zeros-put : (n at : ℕ) (ys : List ℕ) → at + length ys ≤ n
    → put (replicate n 0) at ys ≡ replicate at 0 ++ ys ++ replicate (n - (at + length ys)) 0
unfolding put
zeros-put n at ys h = rw (zeros-take at n (omega arith), zeros-drop (at + length ys) n h)

-- zeros behind zeros
zeros-join : (xs : List ℕ) (a b d : ℕ) → a + b ≡ d → xs ++ replicate a 0 ++ replicate b 0 ≡ xs ++ replicate d 0
zeros-join xs a b d e =
    append_assoc xs (replicate a 0) (replicate b 0) ∙ ap (λ (l : List ℕ). xs ++ l) (replicate-append-replicate a b 0)
    ∙ ap (λ (k : ℕ). xs ++ replicate k 0) e

-- the block of a fresh state: zeros, with its settings
front : (opcode : ℕ) (prefix : List ℕ) → head_row (fresh opcode prefix) ≡ replicate 5 0 ++ settings_row opcode prefix
unfolding head_row fresh octets_of
front opcode prefix = refl

whole : (opcode : ℕ) (prefix : List ℕ) → length prefix ≤ most_prefix → padded (fresh opcode prefix)
    ≡ replicate 5 0 ++ settings_row opcode prefix ++ replicate (block_size - (5 + length (settings_row opcode prefix))) 0
unfolding fresh pad_to with_lists
whole opcode prefix h =
    let ys : List ℕ = settings_row opcode prefix in
    let n : length ys ≡ 3 + length prefix = length-settings opcode prefix in
    let r : head_row (fresh opcode prefix) ≡ replicate 5 0 ++ ys = front opcode prefix in
    let l : length (head_row (fresh opcode prefix)) ≡ 5 + length ys = ap (λ (x : List ℕ). length x) r ∙ omega arith in
    let b : List ℕ = head_row (fresh opcode prefix) in
    empty-padded (fresh opcode prefix)
    ∙ zeros-join b (head_size - length b) body_size (block_size - (5 + length ys)) (omega arith)
    ∙ ap (λ (x : List ℕ). x ++ replicate (block_size - (5 + length ys)) 0) r

pub fresh-block : (opcode : ℕ) (prefix : List ℕ) → length prefix ≤ most_prefix
    → put (replicate block_size 0) 5 (settings_row opcode prefix) ≡ padded (fresh opcode prefix)
fresh-block opcode prefix h =
    let n : length (settings_row opcode prefix) ≡ 3 + length prefix = length-settings opcode prefix in
    zeros-put block_size 5 (settings_row opcode prefix) (omega arith) ∙ sym (whole opcode prefix h)

-- settings in range, and out of range
pub octets-known : (l : List ℕ) → ((i : ℕ) → slice_index l i < 256) → every is_octet l ≡ true
unfolding every
octets-known [] h = refl
octets-known (x ∷ l) h = and_both (lt-ltb x 256 (h 0)) (octets-known l (λ i. h (suc i)))

pub settings-in : (opcode : ℕ) (prefix : List ℕ) → 0xFC00 ≤ opcode → opcode ≤ 0xFFFF → length prefix ≤ most_prefix
    → every is_octet prefix ≡ true → sound_settings opcode prefix ≡ true
unfolding sound_settings octets_up_to
settings-in opcode prefix a b c d =
    rw (le-leb 0xFC00 opcode a, le-leb opcode 0xFFFF b, le-leb (length prefix) most_prefix c) d

pub settings-low : (opcode : ℕ) (prefix : List ℕ) → opcode < 0xFC00 → sound_settings opcode prefix ≡ false
unfolding sound_settings
settings-low opcode prefix h = rw (lt-leb 0xFC00 opcode h)

pub settings-long : (opcode : ℕ) (prefix : List ℕ) → most_prefix < length prefix → sound_settings opcode prefix ≡ false
unfolding sound_settings octets_up_to
settings-long opcode prefix h =
    and-not-right (nat_le 0xFC00 opcode && nat_le opcode 0xFFFF) _
    (and-not-left (nat_le (length prefix) most_prefix) _ (lt-leb (length prefix) most_prefix h))

-- what is answered and left, either way
pub started : (opcode : ℕ) (prefix : List ℕ) {l : List ℕ} → sound_settings opcode prefix ≡ true
    → length prefix ≤ most_prefix
    → l ≡ put (replicate block_size 0) 5 (settings_row opcode prefix)
    → ((Ok tt) ≡ settings_of opcode prefix) × (l ≡ begin opcode prefix)
unfolding settings_of begin
started opcode prefix e h q = (
  sym (pick_true (Ok tt) (Err BadSettings) e),
  q ∙ fresh-block opcode prefix h ∙ sym (pick_true (padded (fresh opcode prefix)) (padded blank) e),
)

pub not-started : (opcode : ℕ) (prefix : List ℕ) {l : List ℕ} → sound_settings opcode prefix ≡ false → l ≡ padded blank
    → (Err BadSettings ≡ settings_of opcode prefix) × (l ≡ begin opcode prefix)
unfolding settings_of begin
not-started opcode prefix e q = (
  sym (pick-false (Ok tt) (Err BadSettings) e),
  q ∙ sym (pick-false (padded (fresh opcode prefix)) (padded blank) e),
)

-- the blank state's block: the opcode's high octet is its only octet that is not 0
pub blank-block : {l : List ℕ} → l ≡ put (replicate block_size 0) 5 (settings_row 0xFC00 []) → l ≡ padded blank
unfolding blank
blank-block q = q ∙ fresh-block 0xFC00 [] (omega arith)

pub blank-not : (s : List ℕ) → (length s ≢ block_size) → s ≡ blank_in s
unfolding blank_in
blank-not s n = sym (pick-false (padded blank) s (ne_eqb (length s) block_size n))

pub blank-is : (s : List ℕ) → length s ≡ block_size → blank_in s ≡ padded blank
unfolding blank_in
blank-is s h = pick_true (padded blank) s (eq-eqb (length s) block_size h)

pub blank-put : (s : List ℕ) {l m : List ℕ} {b : Bool} → length s ≡ block_size → b ≡ nat_le (0 + block_size) (length s)
    → l ≡ put_if b s 0 (replicate block_size 0) → m ≡ put l 5 (settings_row 0xFC00 []) → m ≡ blank_in s
blank-put s {l} {m} h e q r =
    let zeros : List ℕ = replicate block_size 0 in
    let n : length zeros ≡ block_size = length-replicate {A = ℕ} block_size 0 in
    let w : l ≡ replicate block_size 0 =
    put_of s 0 (replicate block_size 0) block_size (length s) e (omega arith) q ∙ put_whole s zeros (h ∙ sym n) in
    blank-block (r ∙ ap (λ (x : List ℕ). put x 5 (settings_row 0xFC00 [])) w) ∙ sym (blank-is s h)

module _ (s : List ℕ) (opcode : ℕ) (prefix : List ℕ) where
  pub fresh-is : length s ≡ block_size → fresh_in s opcode prefix ≡ begin opcode prefix
  unfolding fresh_in
  fresh-is h = pick_true (begin opcode prefix) s (eq-eqb (length s) block_size h)

  pub refused-in : {l : List ℕ} → sound_settings opcode prefix ≡ false → l ≡ blank_in s
      → (Err BadSettings ≡ settings_of opcode prefix) × (l ≡ fresh_in s opcode prefix)
  unfolding fresh_in blank_in
  refused-in e q =
      let w = not-started opcode prefix e refl in
      (w.0, q ∙ ap (λ (x : List ℕ). pick (length s == block_size) x s) w.1)

  pub fresh-not : sound_settings opcode prefix ≡ true → (length s ≢ block_size)
      → ((Ok tt) ≡ settings_of opcode prefix) × (s ≡ fresh_in s opcode prefix)
  unfolding fresh_in settings_of
  fresh-not e n = (
    sym (pick_true (Ok tt) (Err BadSettings) e),
    sym
        (pick-false (begin opcode prefix) s (ne_eqb (length s) block_size n)),
  )

  pub fresh_in_lem : {l m : List ℕ} {b : Bool} → sound_settings opcode prefix ≡ true → length prefix ≤ most_prefix
      → length s ≡ block_size
      → b ≡ nat_le (0 + block_size) (length s) → l ≡ put_if b s 0 (replicate block_size 0)
      → m ≡ put l 5 (settings_row opcode prefix)
      → ((Ok tt) ≡ settings_of opcode prefix) × (m ≡ fresh_in s opcode prefix)
  fresh_in_lem {l} {m} {b} e k h x q r =
      let zeros : List ℕ = replicate block_size 0 in
      let n : length zeros ≡ block_size = length-replicate {A = ℕ} block_size 0 in
      let w : l ≡ replicate block_size 0 =
      put_of s 0 (replicate block_size 0) block_size (length s) x (omega arith) q ∙ put_whole s zeros (h ∙ sym n) in
      let y = started opcode prefix e k (r ∙ ap (λ (x : List ℕ). put x 5 (settings_row opcode prefix)) w) in
      (y.0, y.1 ∙ sym (fresh-is h))

-- opcode, prefix length and prefix, written one after another
pub settings-put : (l : List ℕ) (opcode : ℕ) (prefix : List ℕ) {m n o : List ℕ} {a b c : Bool}
    → length prefix ≤ most_prefix
    → head_size ≤ length l
    → length m ≡ length l → length n ≡ length l
    → a ≡ nat_le (5 + 2) (length l) → m ≡ put_if a l 5 (octets_of 2 opcode)
    → b ≡ nat_le (7 + 1) (length m) → n ≡ put_if b m 7 (octets_of 1 (length prefix))
    → c ≡ nat_le (8 + length prefix) (length n) → o ≡ put_if c n 8 prefix
    → o ≡ put l 5 (settings_row opcode prefix)
unfolding octets_of
settings-put l opcode prefix {m} {n} {o} h k lm ln a p b q c r =
    let w : (length prefix % 256) ∷ [] ≡ length prefix ∷ [] = ap (λ (x : ℕ). x ∷ []) (mod-eq_of_lt (omega arith)) in
    let p1 : m ≡ put l 5 (octets_of 2 opcode) = put_of l 5 (octets_of 2 opcode) 2 (length l) a (omega arith) p in
    let q1 : n ≡ put m 7 ((length prefix % 256) ∷ []) =
    put_of m 7 ((length prefix % 256) ∷ []) 1 (length m) b (omega arith) q in
    let r1 : o ≡ put n 8 prefix = put_of n 8 prefix (length prefix) (length n) c (omega arith) r in
    let q2 : n ≡ put l 5 (octets_of 2 opcode ++ (length prefix ∷ [])) =
    put_then l 5 (octets_of 2 opcode) 7 ((length prefix % 256) ∷ []) (omega arith) p1 refl q1
    (ap (λ (x : List ℕ). octets_of 2 opcode ++ x) w) in
    put_then l 5 (octets_of 2 opcode ++ (length prefix ∷ [])) 8 prefix (omega arith) q2 refl r1 refl
