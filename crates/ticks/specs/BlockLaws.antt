-- A tick on the block of a sound state leaves the block of the model's next state and writes the model's answer.
-- Document 01,
-- Watching, by history (Tick), The image. Assumes nothing.
use Rattle.std.specs.Prelude.{ℕ, zero, suc, ◌+◌, ◌-◌, ◌*◌, ◌≤◌, ◌<◌, ◌≡◌, true, List, [], ◌∷◌, eqb, length, take, drop, get_or, set}
use Rattle.std.proofs.Math.Path.{refl, ap}
use Rattle.std.proofs.Common.{sym, ap₂, ◌∙◌, arith, length-append, length-set, get_or-take, get_or-drop, take-take}
use Rattle.std.proofs.Math.Option.{Option, none, some}
use Rattle.std.proofs.Math.ListN.{get_or-append}
use Rattle.std.proofs.lemmas.List.{get_or_at}
use borrow.Rule.Slice.PartMut.{put_mid}
use Rattle.laws.specs.Put.{put}
use Rattle.laws.specs.PutLaws.{put-nil, set-put, length-put}
use Rattle.laws.specs.Tests.{pick}
use Rattle.laws.specs.TestsLaws.{cases-le}
use Rattle.laws.specs.Loops.{each, up_to}
use Rattle.laws.specs.RowsLaws.{get_d-row}
use Rattle.rule.specs.Base.{All, map_some as move_each}
use Rattle.rule.specs.BaseLaws.{each-length}
use Rattle.rule.specs.Engine.{find}
use Rattle.rule.proofs.FindsLaws.{find-all}
use Rattle.sessions.specs.Machine.{last_number}
use Rattle.model.specs.Types.{Model, Monitor, Pair, with_lists, moved}
use Rattle.model.specs.Monitors.{filtering, parameters}
use Rattle.model.specs.Image.{monitor_row}
use Rattle.model.specs.Watch.{tick_pairs, tick_answer}
use Rattle.model.specs.Frames.{tick}
use Rattle.model.specs.Step.{step_typed, answer_typed, refusal_typed}
use Rattle.model.specs.Sound.{sound_model}
use Rattle.model.specs.Block.{pad_to, pair_block, padded, monitor_place, advanced}
use Rattle.steps.specs.Stepped.{Stepped}
use Rattle.steps.proofs.KeepsLaws.{step-sound}
use Rattle.steps.proofs.WholeLaws.{sound-of, sound-holds}
use Rattle.blocks.specs.Facts.{SoundMonitor, SoundModel}
use Rattle.blocks.specs.FactsLaws.{sound-facts}
use Rattle.blocks.specs.MonitorsLaws.{monitor_in-some}
use Rattle.blocks.specs.Added.{filtering_of}
use Rattle.blocks.specs.AddedLaws.{row-filtering}
use Rattle.blocks.specs.Bounds.{Fits}
use Rattle.blocks.specs.BoundsLaws.{pairs-fit}
use Rattle.blocks.specs.PairsLaws.{length-pair_block}
use Rattle.blocks.specs.Block.{Measured}
use Rattle.blocks.specs.BlockLaws.{measured, take-pairs, get_d-count, row-monitors, read-filter, read_count}
use Rattle.blocks.specs.BlockLaws.{read-prefix}
use Rattle.blocks.specs.BlockLaws.{length-padded}
use Rattle.blocks.specs.UpdatesLaws.{put-lists, advanced-moved}
use Rattle.ticks.specs.Row.{kept_at, told_at}
use Rattle.ticks.specs.Table.{Cleared, column_by, column_of, filter_by, filter_in}
use Rattle.ticks.specs.WrittenLaws.{mid-put}
use Rattle.ticks.specs.Pairs.{filtering_in}
use Rattle.ticks.specs.PairsLaws.{interval_of, sampling_of, filter_of}
use Rattle.ticks.specs.WholeLaws.{told-all, cleared-table, move_pair}
use Rattle.model.specs.Layout.{block_size, count_at, extra_at, filter_at, head_size, interval_at, intervals_at, monitor_size, monitors_at, most_monitors, most_pairs, most_prefix, pairs_at, pairs_size, periods_at, prefix_at, prefix_length_at, sampling_at}

-- an octet of a column
length-column : (f : ℕ → ℕ) (n : ℕ) → length (column_by f n) ≡ n
unfolding column_by up_to
length-column f zero = refl
length-column f (suc n) =
    let h : length (column_by f n) ≡ n = length-column f n in length-append (column_by f n) (f n ∷ []) ∙ omega arith

column-at : (f : ℕ → ℕ) (n h : ℕ) → h < n → get_or (column_by f n) h 0 ≡ f h
unfolding column_by up_to
column-at f zero h b = absurd (omega arith)
column-at f (suc n) h b =
    let l : length (column_by f n) ≡ n = length-column f n in
    cases-le n h
    (λ k. let e : h ≡ n = omega arith in rw e (get_or_at (column_by f n) (f n) [] 0 n l))
    (λ k. get_or-append (column_by f n) (f n ∷ []) 0 h (omega arith) ∙ column-at f n h k)

-- the octets 3 and 4 of a handle's row: the interval and the sampling of its monitor
place-interval : (h : ℕ) (o : Option Monitor) → get_or (monitor_place h o) interval_at 0 ≡ interval_of o
unfolding monitor_place pad_to monitor_row interval_of
place-interval h none = refl
place-interval h (some m) = refl

place-sampling : (h : ℕ) (o : Option Monitor) → get_or (monitor_place h o) sampling_at 0 ≡ sampling_of o
unfolding monitor_place pad_to monitor_row sampling_of
place-sampling h none = refl
place-sampling h (some m) = refl

none-filtering : (h : ℕ)
    → filtering_of (get_or (monitor_place h none) extra_at 0) (get_or (monitor_place h none) (extra_at + 1) 0) ≡ 6
unfolding monitor_place filtering_of pick
none-filtering h = refl

-- and the report filtering of its monitor
place-filtering : (h : ℕ) (o : Option Monitor) → ((m : Monitor) → o ≡ some m → SoundMonitor m)
    → filtering_of (get_or (monitor_place h o) extra_at 0) (get_or (monitor_place h o) (extra_at + 1) 0) ≡ filtering_in o
unfolding filtering_in
place-filtering h none s = none-filtering h
place-filtering h (some m) s =
    sym (row-filtering (monitor_place h (some m)))
    ∙ ap (λ (x : ℕ × Monitor). filtering (parameters x.1)) (monitor_in-some h m (s m refl))

-- what a handle's row of a block holds
module _ (m : Model) (s : List ℕ) (f : Measured m) (b : s ≡ padded m) (h : ℕ) (low : h < most_monitors) where
  octet-at : (k n : ℕ) → k < monitor_size → n ≡ monitors_at + (monitor_size * h + k)
      → get_or s n 0 ≡ get_or (monitor_place h (find m.mons h)) k 0
  octet-at k n a e =
      ap₂ (λ (l : List ℕ) (j : ℕ). get_or l j 0) b e ∙ sym (get_or-drop head_size (padded m) (monitor_size * h + k) 0)
      ∙ sym (get_d-row monitor_size h k (drop monitors_at (padded m)) 0 a)
      ∙ ap (λ (l : List ℕ). get_or l k 0) (row-monitors m f h low)

  pub interval-is : get_or s (intervals_at + monitor_size * h) 0 ≡ interval_of (find m.mons h)
  interval-is = octet-at interval_at (intervals_at + monitor_size * h) (omega arith) (omega arith)
      ∙ place-interval h (find m.mons h)

  pub sampling-is : get_or s (periods_at + monitor_size * h) 0 ≡ sampling_of (find m.mons h)
  sampling-is = octet-at sampling_at (periods_at + monitor_size * h) (omega arith) (omega arith)
      ∙ place-sampling h (find m.mons h)

  pub filtering-is : SoundModel m
      → filtering_of (get_or s (monitors_at + monitor_size * h + extra_at) 0)
      (get_or s (monitors_at + monitor_size * h + (extra_at + 1)) 0) ≡ filtering_in (find m.mons h)
  filtering-is g =
      ap₂ filtering_of (octet-at extra_at (monitors_at + monitor_size * h + extra_at) (omega arith) (omega arith))
      (octet-at (extra_at + 1) (monitors_at + monitor_size * h + (extra_at + 1)) (omega arith) (omega arith))
      ∙ place-filtering h (find m.mons h)
      (λ n e. find-all (λ z. SoundMonitor z.1) m.mons h n g.mons-sound.monitors e)

module _ (m : Model) (f : Measured m) where
  intervals-are : (h : ℕ) → h < most_monitors
      → get_or (column_of (padded m) intervals_at most_monitors) h 0 ≡ interval_of (find m.mons h)
  intervals-are h b =
      column-at (λ j. get_or (padded m) (intervals_at + monitor_size * j) 0) most_monitors h b
      ∙ interval-is m (padded m) f refl h b

  periods-are : (h : ℕ) → h < most_monitors
      → get_or (column_of (padded m) periods_at most_monitors) h 0 ≡ sampling_of (find m.mons h)
  periods-are h b =
      column-at (λ j. get_or (padded m) (periods_at + monitor_size * j) 0) most_monitors h b
      ∙ sampling-is m (padded m) f refl h b

  filters-are : SoundModel m → (filter h : ℕ) → h < most_monitors
      → get_or (column_by (filter_in (padded m) filter) most_monitors) h 0 ≡ filter_of filter (find m.mons h)
  unfolding filter_in filter_by filter_of
  filters-are s filter h b =
      column-at (filter_in (padded m) filter) most_monitors h b
      ∙ ap (λ (n : ℕ). pick (eqb filter 1) n 0) (filtering-is m (padded m) f refl h b s)

-- the pairs after a tick fit their rows
ticks-fit : (m : Model) → sound_model m ≡ true → m.position < last_number → All Fits (tick_pairs m)
unfolding last_number step_typed with_lists moved refusal_typed
ticks-fit m s h =
    let z : sound_model (step_typed m tick) ≡ true = sound-holds (step_typed m tick)
    (step-sound m tick (sound-of m s) h tt refl) in
    pairs-fit (step_typed m tick) (sound-facts (step_typed m tick) z)

-- the head, as far as a tick reads it
head-filter : (m : Model) → get_or (take head_size (padded m)) filter_at 0 ≡ m.filter
head-filter m = get_or-take head_size (padded m) 4 0 (omega arith) ∙ read-filter m

head-count : (m : Model) → get_or (take head_size (padded m)) prefix_length_at 0 ≡ length m.prefix
head-count m = get_or-take head_size (padded m) 7 0 (omega arith) ∙ read_count m

take_within : (k n a : ℕ) (xs : List ℕ) → k + n ≤ a → take n (drop k (take a xs)) ≡ take n (drop k xs)
take_within zero n a xs h = take-take n a xs (omega arith)
take_within (suc k) n zero xs h = absurd (omega arith)
take_within (suc k) n (suc a) [] h = refl
take_within (suc k) n (suc a) (x ∷ xs) h = take_within k n a xs (omega arith)

head-prefix : (m : Model) → length m.prefix ≤ most_prefix → take (length m.prefix)
    (drop prefix_at (take head_size (padded m))) ≡ m.prefix
head-prefix m h = take_within 8 (length m.prefix) head_size (padded m) (omega arith) ∙ read-prefix m

-- the block with the pairs, their number and the position written
written-block : (m : Model) → Measured m → (qs : List Pair) → All Fits qs → length qs ≤ most_pairs
    → m.position < 4294967296 → {t x : List ℕ} {k : ℕ} → t ≡ pair_block qs → k ≡ length qs
    → x ≡ advanced (set (put_mid pairs_at pairs_size (padded m) t) count_at k)
    → x ≡ padded (moved (with_lists m m.mons qs))
unfolding with_lists
written-block m f qs a h p {t} {x} {k} et ek ex =
    let n : length (pair_block qs) ≡ pairs_size = length-pair_block qs a h in
    let l : length (padded m) ≡ block_size = length-padded m f in
    let nt : length t ≡ pairs_size = ap (λ (y : List ℕ). length y) et ∙ n in
    let d : put_mid pairs_at pairs_size (padded m) t ≡ put (padded m) pairs_at t =
    mid-put pairs_at count_at (padded m) t (omega arith) nt refl in
    let j : length (put_mid pairs_at pairs_size (padded m) t) ≡ block_size = ap (λ (y : List ℕ). length y) d
    ∙ length-put (padded m) pairs_at t (omega arith) ∙ l in
    let i : length (set (put_mid pairs_at pairs_size (padded m) t) count_at k) ≡ block_size =
    length-set (put_mid pairs_at pairs_size (padded m) t) count_at k ∙ j in
    let c : set (put_mid pairs_at pairs_size (padded m) t) count_at k ≡ padded (with_lists m m.mons qs) =
    set-put (put_mid pairs_at pairs_size (padded m) t) count_at k (omega arith)
    ∙ ap (λ (y : List ℕ). put y count_at (k ∷ [])) d ∙ rw (et, ek) (put-lists m f qs a h) in
    ex ∙ advanced-moved (with_lists m m.mons qs) (set (put_mid pairs_at pairs_size (padded m) t) count_at k) c
    (omega arith) p

-- a tick, from what was read of the block and what the pass over its pairs left
pub ticked : (s out : List ℕ) (m : Model) → sound_model m ≡ true → s ≡ padded m → m.position < last_number
    → {head intervals periods filters t x o : List ℕ} {n e k w : ℕ}
    → head ≡ take head_size s → intervals ≡ column_of s intervals_at most_monitors
    → periods ≡ column_of s periods_at most_monitors
    → filters ≡ column_by (filter_in s (get_or head filter_at 0)) most_monitors
    → (get_or s count_at 0 ≤ most_pairs → n ≡ get_or s count_at 0)
    → (get_or head prefix_length_at 0 ≤ most_prefix → e ≡ get_or head prefix_length_at 0)
    → Cleared (take pairs_size (drop pairs_at s)) t out o k w
    (kept_at intervals periods (take pairs_size (drop pairs_at s)))
    (told_at intervals periods filters (take (8 + e - 8) (drop prefix_at head)) (take pairs_size (drop pairs_at s))) n
    → x ≡ advanced (set (put_mid pairs_at pairs_size s t) count_at k)
    → Stepped m tick x out o w
unfolding step_typed answer_typed tick_answer tick_pairs
ticked s out m z q h {head} {intervals} {periods} {filters} {t} {x} {o} {n} {e} {k} {w} eh ei ep ef en ee c ex =
    let f : Measured m = measured m z in
    let hd : head ≡ take head_size (padded m) = rw q at eh in
    let iv : intervals ≡ column_of (padded m) intervals_at most_monitors = rw q at ei in
    let pe : periods ≡ column_of (padded m) periods_at most_monitors = rw q at ep in
    let ct : get_or s count_at 0 ≡ length m.pairs = rw q (get_d-count m f) in
    let nn : n ≡ length m.pairs = en (omega (arith, f.pairs-most)) ∙ ct in
    let hc : get_or head prefix_length_at 0 ≡ length m.prefix = rw hd (head-count m) in
    let nl : e ≡ length m.prefix = ee (omega (arith, f.prefix-most)) ∙ hc in
    let ne : 8 + e - 8 ≡ length m.prefix = omega arith in
    let fl : get_or head filter_at 0 ≡ m.filter = rw hd (head-filter m) in
    let pr : take (8 + e - 8) (drop prefix_at head) ≡ m.prefix = rw (ne, hd) (head-prefix m f.prefix-most) in
    let pb : take pairs_size (drop pairs_at s) ≡ pair_block m.pairs = rw q (take-pairs m f) in
    let d : Cleared (pair_block m.pairs) t out o k w (kept_at intervals periods (pair_block m.pairs))
    (told_at intervals periods filters m.prefix (pair_block m.pairs)) (length m.pairs) =
    rw (pb, pr, nn) at c in
    let is : (j : ℕ) → j < most_monitors → get_or intervals j 0 ≡ interval_of (find m.mons j) =
    λ j l. rw iv (intervals-are m f j l) in
    let ps : (j : ℕ) → j < most_monitors → get_or periods j 0 ≡ sampling_of (find m.mons j) =
    λ j l. rw pe (periods-are m f j l) in
    let fe : filters ≡ column_by (filter_in (padded m) m.filter) most_monitors = rw (q, fl) at ef in
    let fs : (j : ℕ) → j < most_monitors → get_or filters j 0 ≡ filter_of m.filter (find m.mons j) =
    λ j l. rw fe (filters-are m f (sound-facts m z) m.filter j l) in
    let a : All Fits (tick_pairs m) = ticks-fit m z h in
    let u = cleared-table m.mons intervals periods is ps m.pairs f.fit f.pairs-most _ a d in
    let g = told-all m.mons intervals periods is ps m.pairs f.fit f.pairs-most m.filter filters
    m.prefix fs in
    let l : length s ≡ block_size = rw q (length-padded m f) in
    let vp : m.position < 4294967296 = omega (arith, (sound-facts m z).position-most) in
    let y : length (tick_pairs m) ≤ most_pairs =
    omega (arith, f.pairs-most, each-length (move_pair m.mons) m.pairs) in
    record {
      block = written-block m f (tick_pairs m) a y vp u.0 u.1 (rw q at ex);
      octets = d.octets ∙ ap (put out 0) g;
      count = d.count ∙ ap (λ (r : List ℕ). length r) g;
    }

-- a tick where no pair is held: only the position moves, and nothing is written
none-ticked : (f : Pair → Option Pair) (qs : List Pair) → length qs ≡ 0 → qs ≡ move_each f qs
none-ticked f [] e = refl
none-ticked f (q ∷ qs) e = absurd (omega arith)

none_told : (f : Pair → List ℕ) (qs : List Pair) → length qs ≡ 0 → [] ≡ each f qs
unfolding each
none_told f [] e = refl
none_told f (q ∷ qs) e = absurd (omega arith)

pub quiet : (s out : List ℕ) (m : Model) → sound_model m ≡ true → s ≡ padded m → m.position < last_number → {x : List ℕ}
    → get_or s count_at 0 ≡ 0 → x ≡ advanced s → Stepped m tick x out out 0
unfolding step_typed answer_typed tick_answer tick_pairs with_lists moved last_number
quiet s out m z q h {x} e ex =
    let f : Measured m = measured m z in
    let n : length m.pairs ≡ 0 = sym (get_d-count m f) ∙ ap (λ (l : List ℕ). get_or l count_at 0) (sym q) ∙ e in
    let l : length s ≡ block_size = rw q (length-padded m f) in
    let a : [] ≡ tick_answer m = none_told _ m.pairs n in
    record {
      block = ex ∙ advanced-moved m s q (omega arith) (omega arith)
          ∙ ap (λ (qs : List Pair). padded (moved (with_lists m m.mons qs))) (none-ticked _ m.pairs n);
      octets = sym (put-nil out 0) ∙ ap (put out 0) a;
      count = ap (λ (r : List ℕ). length r) a;
    }
