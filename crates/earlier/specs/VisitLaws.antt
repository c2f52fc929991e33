-- The book of open visits by the places of its rows, and what an event does to it.
use Rattle.std.specs.Prelude.{◌≡◌, ℕ, zero, suc, ◌+◌, ◌-◌, ◌*◌, ◌<◌, ◌≤◌, refl, Bool, true, false, List, [], ◌∷◌, Option, None, Some, length, drop, nat_lt, slice_index, slice_index_or, slice_set}
use Rattle.std.proofs.Common.{sym, ap, ◌∙◌, add-one, arith, drop-cons}
use Rattle.std.proofs.Math.Seq.{get_or-drop}
use borrow.Author.Tests.{lt-ltb, le-ltb}
use lib.ListN.{drop_of_length-le}
use Rattle.laws.specs.Tests.{pick}
use Rattle.laws.specs.TestsLaws.{pick_true, pick-false}
use Rattle.octets.specs.Numbers.{number_at}
use Rattle.model.specs.Frames.{frame_of}
use Rattle.statuses.specs.AnswersLaws.{octet-at}
use Rattle.visit.specs.declared.Visit.{Visit}
use Rattle.visit.specs.declared.News.{News}
use Rattle.visit.specs.declared.News.TheVariants.{Start, Stop, Other}
use Rattle.visit.specs.Book.{devices, place_of, place_in, free_in, begun_at, started_in, is_found, rows_without, visit_out, change_rows, change_visit}
use Rattle.visit.specs.Frames.{handle_of, least_key, most_key, parameters_of, payload_of}

-- the numbers of how a visit ended: by silence, by a full table, with its monitor
abbrev pub by_silence : ℕ
by_silence = 0

abbrev pub by_full : ℕ
by_full = 1

abbrev pub by_cancel : ℕ
by_cancel = 2

-- the turns of a search
pub place-most : (f : Option Visit → Bool) (rows : List (Option Visit)) → place_of f rows ≤ length rows
unfolding place_of pick
place-most f [] = omega arith
place-most f (v ∷ vs) = go (f v) (place-most f vs)
  where
    go : (b : Bool) → place_of f vs ≤ length vs → pick b 0 (suc (place_of f vs)) ≤ suc (length vs)
    go true h = omega arith
    go false h = omega arith

module _ (f : Option Visit → Bool) (rows : List (Option Visit)) (i : ℕ) (d : Option Visit)
    (q : place_of f rows ≡ i + place_of f (drop i rows)) where
  pub place-hit : i < length rows → f (slice_index_or rows i d) ≡ true → i ≡ place_of f rows
  unfolding place_of
  place-hit h e =
      let c : place_of f (drop i rows) ≡ 0 =
      rw (drop-cons rows i d h) (pick_true 0 (suc (place_of f (drop (suc i) rows))) e) in
      omega (arith, c, q)

  pub place-miss : i < length rows → f (slice_index_or rows i d) ≡ false
      → place_of f rows ≡ (i + 1) + place_of f (drop (i + 1) rows)
  unfolding place_of
  place-miss h e =
      let c : place_of f (drop i rows) ≡ suc (place_of f (drop (suc i) rows)) =
      rw (drop-cons rows i d h) (pick-false 0 (suc (place_of f (drop (suc i) rows))) e) in
      rw (add-one i) (omega (arith, c, q))

  pub place_end : length rows ≤ i → i ≡ place_of f rows
  unfolding place_of
  place_end h =
      let c : place_of f (drop i rows) ≡ 0 = rw (drop_of_length-le rows {i = i} h) refl in
      omega (arith, c, q)

-- a visit begun
pub start-some : (rows : List (Option Visit)) (i key frame tick : ℕ) → i ≡ free_in rows → i < 64
    → slice_set rows i (Some (begun_at key frame tick)) ≡ started_in rows key frame tick
unfolding started_in
start-some rows i key frame tick e h =
    ap (λ (j : ℕ). slice_set rows j (Some (begun_at key frame tick))) e
    ∙ sym (pick_true (slice_set rows (free_in rows) (Some (begun_at key frame tick))) rows
    (ap (λ (j : ℕ). nat_lt j 64) (sym e) ∙ lt-ltb i 64 h))

pub start_none : (rows : List (Option Visit)) (i key frame tick : ℕ) → i ≡ free_in rows → 64 ≤ i
    → rows ≡ started_in rows key frame tick
unfolding started_in
start_none rows i key frame tick e h =
    sym (pick-false (slice_set rows (free_in rows) (Some (begun_at key frame tick))) rows
    (ap (λ (j : ℕ). nat_lt j 64) (sym e) ∙ le-ltb i 64 h))

-- what stands at an index of a list, whatever would stand behind its end
get_d_any : (l : List (Option Visit)) (i : ℕ) (d e : Option Visit) → i < length l
    → slice_index_or l i d ≡ slice_index_or l i e
get_d_any [] i d e h = absurd (omega arith)
get_d_any (v ∷ l) zero d e h = refl
get_d_any (v ∷ l) (suc i) d e h = get_d_any l i d e (omega arith)

-- a visit closed
module _ (rows : List (Option Visit)) (low high i : ℕ) (e : i ≡ place_in low high rows) where
  pub found : i < 64 → is_found low high rows ≡ true
  unfolding is_found
  found h = ap (λ (j : ℕ). nat_lt j 64) (sym e) ∙ lt-ltb i 64 h

  pub missed : 64 ≤ i → is_found low high rows ≡ false
  unfolding is_found
  missed h = ap (λ (j : ℕ). nat_lt j 64) (sym e) ∙ le-ltb i 64 h

  pub close-some : (d : Option Visit) → i < 64 → length rows ≡ 64
      → (slice_set rows i None ≡ rows_without low high rows) × (true ≡ is_found low high rows)
      × (slice_index_or rows i d ≡ visit_out low high rows)
  unfolding rows_without visit_out
  close-some d h l = (
    ap (λ (j : ℕ). slice_set rows j None) e
        ∙ sym (pick_true (slice_set rows (place_in low high rows) None) rows (found h)),
    sym (found h),
    get_d_any rows i d None (omega arith) ∙ ap (λ (j : ℕ). slice_index_or rows j None) e
        ∙ sym (pick_true (slice_index_or rows (place_in low high rows) None) None (found h)),
  )

  pub close-none : 64 ≤ i → (rows ≡ rows_without low high rows) × (false ≡ is_found low high rows)
      × (None ≡ visit_out low high rows)
  unfolding rows_without visit_out
  close-none h = (
    sym (pick-false (slice_set rows (place_in low high rows) None) rows (missed h)),
    sym (missed h),
    sym (pick-false (slice_index_or rows (place_in low high rows) None) None (missed h)),
  )

-- what an event does, by what it tells: whether it closes a visit
unfoldable pub change_is : News → List (Option Visit) → Bool
change_is (Start key) rows = false
change_is (Stop key) rows = is_found key key rows
change_is Other rows = false

module _ (t : News) (rows : List (Option Visit)) (frame tick : ℕ) where
  pub change-start : (key : ℕ) (all : List (Option Visit)) (v : Option Visit) → t ≡ Start key
      → all ≡ started_in rows key frame tick → v ≡ None
      → (all ≡ change_rows t rows frame tick) × (false ≡ change_is t rows) × (v ≡ change_visit t rows)
  unfolding change_rows change_is change_visit
  change-start key all v e p q = rw e (p, refl, q)

  pub change-stop : (key : ℕ) (all : List (Option Visit)) (b : Bool) (v : Option Visit) → t ≡ Stop key
      → (all ≡ rows_without key key rows) × (b ≡ is_found key key rows) × (v ≡ visit_out key key rows)
      → (all ≡ change_rows t rows frame tick) × (b ≡ change_is t rows) × (v ≡ change_visit t rows)
  unfolding change_rows change_is change_visit
  change-stop key all b v e p = rw e p

  pub change-other : (v : Option Visit) → t ≡ Other → v ≡ None → (rows ≡ change_rows t rows frame tick)
      × (false ≡ change_is t rows) × (v ≡ change_visit t rows)
  unfolding change_rows change_is change_visit
  change-other v e q = rw e (refl, refl, q)

-- the keys of a handle's visits, by a command's parameters as they are read
parameter-at : (frame : List ℕ) (i : ℕ) {c : ℕ} → c ≡ number_at 1 frame (5 + (3 + i))
    → c ≡ slice_index (parameters_of frame) i
unfolding parameters_of payload_of frame_of
parameter-at frame i e =
    octet-at frame (5 + (3 + i)) e ∙ sym (get_or-drop 3 (drop 5 frame) i 0 ∙ get_or-drop 5 frame (3 + i) 0)

module _ (frame : List ℕ) (h : ℕ) (e : h ≡ number_at 1 frame 9) where
  pub least-read : h * devices ≡ least_key (handle_of frame)
  unfolding least_key handle_of
  least-read = ap (λ (x : ℕ). x * devices) (parameter-at frame 1 e)

  pub most-read : h * devices + (devices - 1) ≡ most_key (handle_of frame)
  unfolding most_key handle_of
  most-read = ap (λ (x : ℕ). x * devices + (devices - 1)) (parameter-at frame 1 e)
