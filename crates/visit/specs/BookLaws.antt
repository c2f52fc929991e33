-- Laws of the definitions in Book.
use Rattle.std.specs.Prelude.{◌≡◌, ℕ, zero, suc, ◌+◌, ◌-◌, ◌/◌, ◌%◌, ◌^◌, ◌<◌, ◌≤◌, Bool, true, false, ◌&&◌, List, [], ◌∷◌, Option, None, Some, map, length, take, ◌==◌, ◌≢◌, nat_eq, nat_lt, slice_index_or, slice_set, position}
use Rattle.std.specs.List.{position_or_len}
use Rattle.std.proofs.lemmas.List.Recursion.{is_position_or_len}
use Rattle.std.proofs.Math.Path.{refl, sym, ap}
use Rattle.std.proofs.Common.{◌∙◌, arith, take_all, cond, ltb-true, ltb-false}
use borrow.Author.Tests.{lt-ltb, le-ltb, eq-eqb, ne_eqb}
use Rattle.laws.specs.Put.{put}
use Rattle.laws.specs.RowsLaws.{put_whole}
use Rattle.laws.specs.Tests.{pick}
use Rattle.laws.specs.TestsLaws.{pick_true, pick-false}
use Rattle.octets.specs.Numbers.{number_at}
use Rattle.visit.specs.declared.Visit.{Visit}
use Rattle.visit.specs.declared.News.{News}
use Rattle.visit.specs.declared.News.TheVariants.{Start, Stop, Other}
use Rattle.visit.specs.Book.{devices, told_of, is_in, place_of, place_in, is_free, free_in, begun_at, started_in, is_found, rows_without, visit_out, heard_by, heard_row, heard_in, mean_of}

-- the branches of an event
module _ (e : List ℕ) where
  pub told-short : length e < 12 → Other ≡ told_of e
  unfolding told_of
  told-short h = sym (pick_true Other _ (lt-ltb (length e) 12 h))

  module _ (c : ℕ) (h : 12 ≤ length e) (q : c ≡ number_at 1 e 0) where
    pub told-other : (c ≢ 255) → Other ≡ told_of e
    unfolding told_of
    told-other k =
        sym (pick-false Other _ (le-ltb (length e) 12 h)
        ∙ pick-false _ Other (ap (λ (x : ℕ). nat_eq x 255) (sym q) ∙ ne_eqb c 255 k))

    pub told-stop : (s k : ℕ) → c ≡ 255 → k ≡ number_at 8 e (length e - 9) → s ≡ number_at 1 e (length e - 1) → s ≡ 0
        → Stop k ≡ told_of e
    unfolding told_of
    told-stop s k a b d z =
        ap Stop b ∙ sym (pick-false Other _ (le-ltb (length e) 12 h)
        ∙ pick_true _ Other (ap (λ (x : ℕ). nat_eq x 255) (sym q) ∙ eq-eqb c 255 a)
        ∙ pick_true (Stop (number_at 8 e (length e - 9))) _ (ap (λ (x : ℕ). nat_eq x 0) (sym d) ∙ eq-eqb s 0 z))

    pub told-start : (s k : ℕ) → c ≡ 255 → k ≡ number_at 8 e (length e - 9) → s ≡ number_at 1 e (length e - 1)
        → (s ≢ 0) → Start k ≡ told_of e
    unfolding told_of
    told-start s k a b d z =
        ap Start b ∙ sym
        (pick-false Other _ (le-ltb (length e) 12 h)
        ∙ pick_true _ Other (ap (λ (x : ℕ). nat_eq x 255) (sym q) ∙ eq-eqb c 255 a)
        ∙ pick-false (Stop (number_at 8 e (length e - 9))) _ (ap (λ (x : ℕ). nat_eq x 0) (sym d) ∙ ne_eqb s 0 z))

-- a place that a search found, and none
place-len : (f : Option Visit → Bool) (rows : List (Option Visit)) → place_of f rows ≡ position_or_len f rows
unfolding place_of pick
place-len f rows = is_position_or_len (place_of f) f none some rows
  where
    none : place_of f [] ≡ 0
    none = refl

    some : (x : Option Visit) (xs : List (Option Visit)) → place_of f (x ∷ xs) ≡ cond (f x) 0 (1 + place_of f xs)
    some x xs = go (f x)
      where
        go : (b : Bool) → pick b 0 (suc (place_of f xs)) ≡ cond b 0 (1 + place_of f xs)
        go true = refl
        go false = omega arith

module _ (f : Option Visit → Bool) (rows : List (Option Visit)) (l : length rows ≡ 64) where
  pub place_some : (i : ℕ) → position f rows ≡ Some i → (i ≡ place_of f rows) × (i < 64)
  place_some i e = rw (place-len f rows) (go (nat_lt (position_or_len f rows) (length rows)) refl e)
    where
      go : (b : Bool) → nat_lt (position_or_len f rows) (length rows) ≡ b → cond b (Some (position_or_len f rows)) None ≡ Some i
          → (i ≡ position_or_len f rows) × (i < 64)
      go true k q = let h = ltb-true (position_or_len f rows) (length rows) k in
          let z : position_or_len f rows ≡ i = cc in (sym z, omega (arith, h))
      go false k q = absurd (cc)

  pub place_none : position f rows ≡ None → 64 ≤ place_of f rows
  place_none e = rw (place-len f rows) (go (nat_lt (position_or_len f rows) (length rows)) refl e)
    where
      go : (b : Bool) → nat_lt (position_or_len f rows) (length rows) ≡ b → cond b (Some (position_or_len f rows)) None ≡ None
          → 64 ≤ position_or_len f rows
      go true k q = absurd (cc)
      go false k q = omega (arith, ltb-false (position_or_len f rows) (length rows) k)

-- a visit begun
module _ (rows : List (Option Visit)) (key frame tick : ℕ) (l : length rows ≡ 64) where
  pub start-some : (i : ℕ) → position is_free rows ≡ Some i
      → slice_set rows i (Some (begun_at key frame tick)) ≡ started_in rows key frame tick
  unfolding started_in free_in
  start-some i e =
      let w = place_some is_free rows l i e in
      ap (λ (j : ℕ). slice_set rows j (Some (begun_at key frame tick))) w.0
      ∙ sym (pick_true (slice_set rows (place_of is_free rows) (Some (begun_at key frame tick))) rows
      (ap (λ (j : ℕ). nat_lt j 64) (sym w.0) ∙ lt-ltb i 64 w.1))

  pub start_none : position is_free rows ≡ None → rows ≡ started_in rows key frame tick
  unfolding started_in free_in
  start_none e =
      sym (pick-false (slice_set rows (place_of is_free rows) (Some (begun_at key frame tick))) rows
      (le-ltb (place_of is_free rows) 64 (place_none is_free rows l e)))

-- what stands at an index of a list, whatever would stand behind its end
get_d_any : (l : List (Option Visit)) (i : ℕ) (d e : Option Visit) → i < length l
    → slice_index_or l i d ≡ slice_index_or l i e
get_d_any [] i d e h = absurd (omega arith)
get_d_any (v ∷ l) zero d e h = refl
get_d_any (v ∷ l) (suc i) d e h = get_d_any l i d e (omega arith)

-- a visit closed
module _ (rows : List (Option Visit)) (low high : ℕ) (l : length rows ≡ 64) where
  pub close-some : (i : ℕ) (d : Option Visit) → position (is_in low high) rows ≡ Some i
      → (slice_set rows i None ≡ rows_without low high rows)
      × (slice_index_or rows i d ≡ visit_out low high rows)
  unfolding rows_without visit_out is_found place_in
  close-some i d e =
      let w = place_some (is_in low high) rows l i e in
      let p = place_of (is_in low high) rows in
      let t : nat_lt p 64 ≡ true = ap (λ (j : ℕ). nat_lt j 64) (sym w.0) ∙ lt-ltb i 64 w.1 in (
        ap (λ (j : ℕ). slice_set rows j None) w.0 ∙ sym (pick_true (slice_set rows p None) rows t),
        get_d_any rows i d None (omega (arith, w.1))
            ∙ ap (λ (j : ℕ). slice_index_or rows j None) w.0 ∙ sym (pick_true (slice_index_or rows p None) None t),
      )

  pub close-none : position (is_in low high) rows ≡ None
      → (rows ≡ rows_without low high rows) × (None ≡ visit_out low high rows)
  unfolding rows_without visit_out is_found place_in
  close-none e =
      let p = place_of (is_in low high) rows in
      let t : nat_lt p 64 ≡ false = le-ltb p 64 (place_none (is_in low high) rows l e) in (
        sym (pick-false (slice_set rows p None) rows t),
        sym (pick-false (slice_index_or rows p None) None t),
      )

-- a packet heard
pub heard-some : (device level : ℕ) (v : Visit) (p s : ℕ) → v.key % devices ≡ device
    → p ≡ (v.packets + 1) % 2 ^ 64 → s ≡ (v.sum + level) % 2 ^ 64
    → ◌≡◌ {A = Visit} (record { key = v.key; frame = v.frame; tick = v.tick; packets = p; sum = s })
    (heard_by device level v)
unfolding heard_by
heard-some device level v p s e q r =
    rw (q, r) (sym (pick_true (record {
      key = v.key;
      frame = v.frame;
      tick = v.tick;
      packets = (v.packets + 1) % 18446744073709551616;
      sum = (v.sum + level) % 18446744073709551616;
    }) v (eq-eqb (v.key % devices) device e)))

pub heard-none : (device level : ℕ) (v : Visit) → (v.key % devices ≢ device) → v ≡ heard_by device level v
unfolding heard_by
heard-none device level v e = sym (pick-false _ v (ne_eqb (v.key % devices) device e))

-- every row has heard it
pub heard_all : (device level i : ℕ) (rows : List (Option Visit)) {m : List (Option Visit)} → length rows ≡ i
    → m ≡ put rows 0 (map (heard_row device level) (take i rows)) → m ≡ heard_in device level rows
unfolding heard_in
heard_all device level i rows h q =
    let t : take i rows ≡ rows = take_all i rows (omega arith) in
    let l : length (map (heard_row device level) rows) ≡ length rows = lib.ListN.length-map rows
    (heard_row device level) in
    q ∙ ap (λ (x : List (Option Visit)). put rows 0 (map (heard_row device level) x)) t
    ∙ put_whole rows (map (heard_row device level) rows) (sym l)

-- the mean
pub mean-none : (packets sum : ℕ) → packets ≡ 0 → None ≡ mean_of packets sum
unfolding mean_of
mean-none packets sum e = sym (pick_true None _ (eq-eqb packets 0 e))

pub mean-some : (packets sum : ℕ) → (packets ≢ 0) → Some (sum / packets % 256) ≡ mean_of packets sum
unfolding mean_of
mean-some packets sum e = sym (pick-false None _ (ne_eqb packets 0 e))
