-- The block of the state that the kept frames lead to, from a fresh state's, part by part. Document 02, T-07. Assumes
-- nothing.
use Rattle.std.specs.Prelude.{◌≡◌, ℕ, zero, suc, ◌+◌, ◌-◌, ◌*◌, ◌<◌, ◌≤◌, Bool, List, [], ◌∷◌, ◌++◌, map, length, set, replicate, nat_le, slice_index, slice_index_or, slice_set, refl}
use Rattle.std.proofs.Math.Path.{sym, ap, ap₂}
use Rattle.std.proofs.Common.{◌∙◌, append_assoc, length-append}
use Rattle.std.proofs.Math.Option.{some}
use native.Mathlib.Omega.{arith}
use Rattle.std.proofs.lemmas.List.{length-replicate, replicate-append-replicate, set_at}
use Rattle.std.proofs.Math.ListN.{get_or-eq_default, length-map}
use Rattle.laws.specs.Loops.{up_to}
use Rattle.laws.specs.TestsLaws.{cases-le}
use Rattle.laws.specs.Put.{put, put_if}
use Rattle.laws.specs.PutLaws.{length-put, put-left, put_of, put_right}
use Rattle.laws.specs.Rows.{flat}
use Rattle.laws.specs.RowsLaws.{put_whole}
use Rattle.octets.specs.Little.{octets_of}
use Rattle.rule.specs.Base.{All}
use Rattle.rule.specs.Engine.{find}
use Rattle.model.specs.Types.{Model, fresh, with_lists}
use Rattle.model.specs.Types
use Rattle.model.specs.Frames.{Typed}
use Rattle.model.specs.Image.{head_row}
use Rattle.model.specs.Block.{monitor_block, monitor_place, pad_to, padded, pair_block}
use Rattle.model.specs.Layout.{block_size, body_size, count_at, head_size, monitor_size, monitors_at, monitors_size, most_monitors, most_pairs, most_prefix, pair_size, pairs_at, pairs_size}
use Rattle.blocks.specs.LaidLaws.{empty-padded, padded-parts}
use Rattle.blocks.specs.RowsLaws.{length-head_row, length-pad_to}
use Rattle.prefixes.specs.ForceLaws.{zeros-behind}
use Rattle.pasts.specs.Pair
use Rattle.pasts.specs.Pair.{pair_of}
use Rattle.pasts.specs.Past
use Rattle.pasts.specs.Past.{filter_after, monitor_after, monitors_after, pair_after, history_state, watch}
use Rattle.pasts.proofs.MonitorsLaws.{after-accepted, live}
use Rattle.twin.specs.declared.watch.Begun.{Begun}
use Rattle.twin.specs.declared.watch.Seen.{Seen}
use Rattle.twin.specs.Table.{after, past_at}
use Rattle.twin.specs.Hears.{start_of}
use Rattle.twin.specs.Numbered.{mon_at}
use Rattle.twin.specs.MonitorRows.{Names, places_of}
use Rattle.twin.specs.MonitorRowsLaws.{added-sized}
use Rattle.twin.specs.PairRows.{pair_at, place_of, rows_of}
use Rattle.twin.specs.Seen.{Agrees, Marked, Shows, list_of, named_by, start_at, starts_of}
use Rattle.twin.specs.StartsLaws.{list_length}
use Rattle.twin.specs.NamesLaws.{named_some}
use Rattle.twin.specs.PassedLaws.{past-length, since-start}

-- the monitors that octets name
pub shows-names : (t : List ℕ) (n : ℕ) (past : List Typed) (s : Seen) → Shows t n past s → (h : ℕ)
    → 1 ≤ slice_index s.live h → Names t (slice_index s.live h)
shows-names t n past s v h l =
    let a : ℕ = slice_index_or s.live h 0 in
    cases-le most_monitors h
    (λ (b : most_monitors ≤ h).
    let k : length s.live ≡ most_monitors = v.held.names in
    let z : a ≡ 0 = get_or-eq_default s.live 0 {n = h} (omega arith) in
    absurd (omega arith))
    (λ (b : h < most_monitors).
    let e : monitor_after past h ≡ some (mon_at t a) = sym (v.live h b) ∙ named_some t a l in
    record { added = v.adds h l; sized = added-sized t a (v.adds h l) (after-accepted past h (mon_at t a) e) })

up_to-same : (f g : ℕ → List ℕ) (n : ℕ) → ((h : ℕ) → h < n → f h ≡ g h) → up_to f n ≡ up_to g n
unfolding up_to
up_to-same f g zero e = refl
up_to-same f g (suc n) e = ap₂ ◌++◌ (up_to-same f g n (λ h l. e h (omega arith))) (e n (omega arith))

places-block : (t : List ℕ) (n : ℕ) (past : List Typed) (s : Seen) → Shows t n past s
    → places_of t s.live most_monitors ≡ monitor_block (monitors_after past)
unfolding places_of monitor_block
places-block t n past s v =
    up_to-same (λ (h : ℕ). monitor_place h (named_by t (slice_index s.live h)))
    (λ (h : ℕ). monitor_place h (find (monitors_after past) h)) most_monitors
    (λ h l. ap (monitor_place h) (v.live h l ∙ (live past).same h))

-- the pairs under watch
pair_is : (t : List ℕ) (n : ℕ) (b : Begun) → b.packet ≤ n
    → pair_at t n b.handle b.monitor b.packet ≡ pair_after (past_at t n) (start_at t b)
unfolding pair_at pair_after start_at
pair_is t n b h = ap (pair_of (start_of t b.handle b.monitor b.packet)) (sym (since-start t n b h))

rows-map : (t : List ℕ) (n : ℕ) (l : List Begun) → All (Marked t n) l
    → map (λ (b : Begun). place_of (pair_at t n b.handle b.monitor b.packet)) l
    ≡ map (λ (q : Types.Pair). place_of q) (map (pair_after (past_at t n)) (map (start_at t) l))
rows-map t n [] a = refl
rows-map t n (b ∷ l) a =
    ap₂ (λ (x : List ℕ) (y : List (List ℕ)). x ∷ y) (ap (λ (q : Types.Pair). place_of q) (pair_is t n b a.0.order))
    (rows-map t n l a.1)

module _ (t : List ℕ) (n : ℕ) (s : Seen) (v : Agrees t n s) where
  abbrev qs : List Types.Pair
  qs = map (pair_after (past_at t n)) (watch (past_at t n))

  rows_are : rows_of t n (list_of s) ≡ flat (map (λ (q : Types.Pair). place_of q) qs)
  unfolding rows_of starts_of
  rows_are =
      ap flat (rows-map t n (list_of s) v.shows.marks)
      ∙ ap (λ (l : List Pair.Start). flat (map (λ (q : Types.Pair). place_of q) (map (pair_after (past_at t n)) l)))
      v.watch

  count-is : length qs ≡ s.count
  unfolding starts_of
  count-is =
      length-map (watch (past_at t n)) (pair_after (past_at t n)) ∙ sym (ap length v.watch)
      ∙ length-map (list_of s) (start_at t)
      ∙ list_length s v.shows.held

  pairs_made : length (rows_of t n (list_of s)) ≡ pair_size * s.count
      → put (replicate pairs_size 0) 0 (rows_of t n (list_of s)) ≡ pair_block qs
  unfolding pair_block
  pairs_made e =
      let c : length qs ≡ s.count = count-is in
      let f : s.count ≤ most_pairs = v.shows.held.few in
      let z : pairs_size - length (rows_of t n (list_of s)) ≡ pair_size * (most_pairs - length qs) = omega arith in
      zeros-behind pairs_size (rows_of t n (list_of s))
      ∙ ap₂ (λ (x : List ℕ) (k : ℕ). x ++ replicate k 0) rows_are z

-- writes of the parts of a list, one after another
parts-put : (u v w p r x : List ℕ) (i j k c : ℕ) → length p ≡ length v → length r ≤ length w → i ≡ length u + 0
    → j ≡ length u + (length p + 0)
    → k ≡ length u + (length p + (length w + 0))
    → slice_set (put (put (u ++ (v ++ (w ++ (0 ∷ x)))) i p) j r) k c ≡ u ++ (p ++ (put w 0 r ++ (c ∷ x)))
parts-put u v w p r x i j k c ep er ei ej ek =
    let y : List ℕ = w ++ (0 ∷ x) in
    let z : List ℕ = put w 0 r ++ (0 ∷ x) in
    let a : put (u ++ (v ++ y)) i p ≡ u ++ (p ++ y) =
    ap (λ (h : ℕ). put (u ++ (v ++ y)) h p) ei ∙ put_right u (v ++ y) 0 p
    ∙ ap (λ (l : List ℕ). u ++ l) (put-left v y 0 p (omega arith)
    ∙ ap (λ (l : List ℕ). l ++ y) (put_whole v p (sym ep))) in
    let b : put (u ++ (p ++ y)) j r ≡ u ++ (p ++ z) =
    ap (λ (h : ℕ). put (u ++ (p ++ y)) h r) ej ∙ put_right u (p ++ y) (length p + 0) r
    ∙ ap (λ (l : List ℕ). u ++ l) (put_right p y 0 r
    ∙ ap (λ (l : List ℕ). p ++ l) (put-left w (0 ∷ x) 0 r (omega arith))) in
    let m : length (put w 0 r) ≡ length w = length-put w 0 r (omega arith) in
    let e : length (u ++ (p ++ put w 0 r)) ≡ k =
    length-append u (p ++ put w 0 r) ∙ ap (λ (h : ℕ). length u + h) (length-append p (put w 0 r)) ∙ omega arith in
    let g : u ++ (p ++ z) ≡ (u ++ (p ++ put w 0 r)) ++ (0 ∷ x) =
    ap (λ (l : List ℕ). u ++ l) (sym (append_assoc p (put w 0 r) (0 ∷ x)))
    ∙ sym (append_assoc u (p ++ put w 0 r) (0 ∷ x)) in
    ap (λ (l : List ℕ). set l k c) (ap (λ (l : List ℕ). put l j r) a ∙ b ∙ g)
    ∙ set_at (u ++ (p ++ put w 0 r)) 0 x c k e
    ∙ append_assoc u (p ++ put w 0 r) (c ∷ x) ∙ ap (λ (l : List ℕ). u ++ l) (append_assoc p (put w 0 r) (c ∷ x))

-- a fresh state's block, and its head with a position and a filter
zeros-parts : (x : List ℕ) → replicate body_size 0 ++ x ≡ replicate monitors_size 0 ++ (replicate pairs_size 0 ++ (0 ∷ x))
zeros-parts x =
    ap (λ (l : List ℕ). l ++ x) (sym (replicate-append-replicate monitors_size (pairs_size + 1) 0))
    ∙ append_assoc (replicate monitors_size 0) (replicate (pairs_size + 1) 0) x
    ∙ ap (λ (l : List ℕ). replicate monitors_size 0 ++ l)
    (ap (λ (l : List ℕ). l ++ x) (sym (replicate-append-replicate pairs_size 1 0))
    ∙ append_assoc (replicate pairs_size 0) (0 ∷ []) x)

fresh-parts : (opcode : ℕ) (prefix x : List ℕ)
    → padded (fresh opcode prefix) ++ x ≡ pad_to head_size (head_row (fresh opcode prefix))
    ++ (replicate monitors_size 0 ++ (replicate pairs_size 0 ++ (0 ∷ x)))
unfolding fresh with_lists
fresh-parts opcode prefix x =
    let h : List ℕ = pad_to head_size (head_row (fresh opcode prefix)) in
    ap (λ (l : List ℕ). l ++ x) (empty-padded (fresh opcode prefix)) ∙ append_assoc h (replicate body_size 0) x
    ∙ ap (λ (l : List ℕ). h ++ l) (zeros-parts x)

head-put : (opcode n f : ℕ) (prefix y : List ℕ)
    → slice_set (put (pad_to head_size (head_row (fresh opcode prefix)) ++ y) 0 (octets_of 4 n)) 4 f
    ≡ pad_to head_size (octets_of 4 n ++ (f ∷ (octets_of 2 opcode ++ (length prefix ∷ prefix)))) ++ y
unfolding put pad_to head_row octets_of fresh
head-put opcode n f prefix y = refl

head-is : (t : List ℕ) (n opcode : ℕ) (prefix : List ℕ) {f : ℕ} → f ≡ filter_after (past_at t n)
    → octets_of 4 n ++ (f ∷ (octets_of 2 opcode ++ (length prefix ∷ prefix)))
    ≡ head_row (history_state opcode prefix (past_at t n))
unfolding head_row history_state
head-is t n opcode prefix e = rw (past-length t n, e)

-- all of them
pub filled : (t : List ℕ) (n : ℕ) (s : Seen) (b : List ℕ) {b1 b3 b4 : List ℕ} {f : Bool} → Agrees t n s
    → block_size ≤ length b
    → (f ≡ nat_le 4 (length b)) × (b1 ≡ put_if f b 0 (octets_of 4 n))
    → (b3 ≡ put (slice_set b1 4 s.filter) monitors_at (places_of t s.live most_monitors))
    × (length (places_of t s.live most_monitors) ≡ monitor_size * most_monitors)
    → (b4 ≡ put b3 pairs_at (rows_of t n (list_of s))) × (length (rows_of t n (list_of s)) ≡ pair_size * s.count)
    → (opcode : ℕ) (prefix x : List ℕ) → length prefix ≤ most_prefix → b ≡ padded (fresh opcode prefix) ++ x
    → slice_set b4 count_at s.count ≡ padded (history_state opcode prefix (past_at t n)) ++ x
unfolding history_state
filled t n s b {b1} {b3} {b4} v l e1 e3 e4 opcode prefix x k e =
    let past : List Typed = past_at t n in
    let q : List Types.Pair = map (pair_after past) (watch past) in
    let m : Model = history_state opcode prefix past in
    let r : List ℕ = rows_of t n (list_of s) in
    let y : List ℕ = replicate monitors_size 0 ++ (replicate pairs_size 0 ++ (0 ∷ x)) in
    let u : List ℕ = pad_to head_size (head_row m) in
    let p : List ℕ = monitor_block (monitors_after past) in
    let few : s.count ≤ most_pairs = v.shows.held.few in
    let lu : length u ≡ head_size = length-pad_to head_size (head_row m) (let j = length-head_row m in omega arith) in
    let lp : length p ≡ monitors_size = sym (ap length (places-block t n past s v.shows)) ∙ e3.1 in
    let lv : length {A = ℕ} (replicate monitors_size 0) ≡ monitors_size = length-replicate {A = ℕ} monitors_size 0 in
    let lw : length {A = ℕ} (replicate pairs_size 0) ≡ pairs_size = length-replicate {A = ℕ} pairs_size 0 in
    let c1 : b1 ≡ put b 0 (octets_of 4 n) = put_of b 0 (octets_of 4 n) 4 (length b) e1.0 (omega arith) e1.1 in
    let c2 : set b1 4 s.filter ≡ u ++ y =
    ap (λ (z : List ℕ). set z 4 s.filter) (c1
    ∙ ap (λ (z : List ℕ). put z 0 (octets_of 4 n)) (e ∙ fresh-parts opcode prefix x))
    ∙ head-put opcode n s.filter prefix y
    ∙ ap (λ (z : List ℕ). pad_to head_size z ++ y) (head-is t n opcode prefix v.shows.filter) in
    let c3 : b3 ≡ put (u ++ y) monitors_at p =
    e3.0 ∙ ap₂ (λ (z w : List ℕ). put z monitors_at w) c2 (places-block t n past s v.shows) in
    ap (λ (z : List ℕ). set z count_at s.count) (e4.0 ∙ ap (λ (z : List ℕ). put z pairs_at r) c3)
    ∙ parts-put u (replicate monitors_size 0) (replicate pairs_size 0) p r x monitors_at pairs_at count_at s.count
    (omega arith) (omega (arith, e4.1)) (omega arith) (omega arith) (omega arith)
    ∙ ap (λ (z : List ℕ). u ++ (p ++ z))
    (ap₂ (λ (z : List ℕ) (i : ℕ). z ++ (i ∷ x)) (pairs_made t n s v e4.1) (sym (count-is t n s v)))
    ∙ sym (ap (λ (z : List ℕ). z ++ x) (padded-parts m) ∙ append_assoc u (p ++ (pair_block q ++ (length q ∷ []))) x
    ∙ ap (λ (z : List ℕ). u ++ z) (append_assoc p (pair_block q ++ (length q ∷ [])) x
    ∙ ap (λ (z : List ℕ). p ++ z) (append_assoc (pair_block q) (length q ∷ []) x)))
