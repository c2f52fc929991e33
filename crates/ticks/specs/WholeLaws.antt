-- A tick on the block of a sound state leaves the block of the model's next state and writes the model's answer.
-- Document 01,
-- Watching, by history (Tick), The image. Assumes nothing.
use Prim.Native.Nat.{ℕ, zero, suc, ◌+◌, ◌-◌, ◌*◌, ◌≤◌, ◌<◌}
use Rattle.std.specs.Prelude.{◌≡◌, refl, take}
use Rattle.std.proofs.Common.{sym, ◌∙◌, zero-add, add-one, take_all}
use Rattle.std.proofs.Math.Path.{ap}
use mathlib.Core.List.{List, [], ◌∷◌, ◌++◌, append-nil, append_assoc, map}
use Rattle.std.proofs.Math.Option.{Option, none, some}
use native.Mathlib.Omega.{arith}
use Rattle.std.proofs.Math.ListN.{length, drop, get_or, replicate, length-append}
use Rattle.std.proofs.lemmas.List.{length-replicate, replicate-append-replicate}
use Rattle.std.proofs.Math.Seq.{drop_at}
use Rattle.laws.specs.Put.{put}
use Rattle.laws.specs.Loops.{each, up_to}
use Rattle.laws.specs.LoopsLaws.{each_take}
use Rattle.laws.specs.Rows.{flat}
use Rattle.rule.specs.Base.{All, push, map_some as move_each}
use Rattle.rule.specs.Engine.{find}
use Rattle.model.specs.Types.{Monitor, Pair}
use Rattle.model.specs.Watch.{at_tick, tick_octets}
use Rattle.model.specs.Block.{pair_block}
use Rattle.blocks.specs.Bounds.{Fits}
use Rattle.blocks.specs.PairsLaws.{pair_place, row-table, length-pair_place}
use Rattle.ticks.specs.Row.{run_in, period_in, kept_at, told_at}
use Rattle.ticks.specs.Table.{Cleared}
use Rattle.ticks.specs.PairsLaws.{interval_of, sampling_of, filter_of, place-handle, place_kept, place-told}
use Rattle.model.specs.Layout.{most_monitors, most_pairs, pair_size}

-- a run over indices is a run over elements
up_to-each : {A B : Type 0} (f : ℕ → List B) (F : A → List B) (l : List A) (d : A)
    → ((j : ℕ) → j < length l → f j ≡ F (get_or l j d))
    → (i : ℕ) → i ≤ length l → up_to f i ≡ each F (take i l)
unfolding up_to each
up_to-each f F l d h zero b = refl
up_to-each f F l d h (suc i) b =
    let a : up_to f i ≡ each F (take i l) = up_to-each f F l d h i (omega arith) in
    let e : each F (take (i + 1) l) ≡ each F (take i l) ++ F (get_or l i d) = each_take F l i d (omega arith) in
    rw (a, h i (omega arith)) (sym e ∙ ap (λ (k : ℕ). each F (take k l)) (add-one i))

-- the rows of the pairs that a move leaves, one after another
each-flat : (f : Pair → Option Pair) (qs : List Pair)
    → each (λ (q : Pair). flat (map pair_place (push (f q) []))) qs ≡ flat (map pair_place (move_each f qs))
unfolding each flat
each-flat f [] = refl
each-flat f (q ∷ qs) = ap (λ (l : List ℕ). flat (map pair_place (push (f q) [])) ++ l) (each-flat f qs) ∙ go (f q)
  where
    go : (o : Option Pair)
        → flat (map pair_place (push o [])) ++ flat (map pair_place (move_each f qs)) ≡ flat
        (map pair_place (push o (move_each f qs)))
    go none = refl
    go (some p) = ap (λ (l : List ℕ). l ++ flat (map pair_place (move_each f qs))) (append-nil (pair_place p))

all-at : (qs : List Pair) → All Fits qs → (i : ℕ) (d : Pair) → i < length qs → Fits (get_or qs i d)
all-at [] a i d h = absurd (omega arith)
all-at (q ∷ qs) a zero d h = a.0
all-at (q ∷ qs) a (suc i) d h = all-at qs a.1 i d (omega arith)

length-places : (qs : List Pair) → All Fits qs → length (flat (map pair_place qs)) ≡ pair_size * length qs
unfolding flat
length-places [] a = refl
length-places (q ∷ qs) a =
    let e : length (pair_place q ++ flat (map pair_place qs)) ≡ length (pair_place q) + length (flat (map pair_place qs)) =
    length-append (pair_place q) (flat (map pair_place qs)) in
    omega (arith, length-places qs a.1, length-pair_place q a.0)

none-held : Pair
none-held =
    record {
      handle = 0;
      address_type = 0;
      address = [];
      since_good = 0;
      ticks = 0;
      packets = 0;
      sum = 0;
      kept = 0;
      event = 0;
      adv = [];
    }

-- A pass over the table of pairs, with the intervals and the periods of their monitors
-- what a tick does to a pair
abbrev pub move_pair : List (ℕ × Monitor) → Pair → Option Pair
move_pair mons q = at_tick (find mons q.handle) q

module _ (mons : List (ℕ × Monitor)) (intervals periods : List ℕ)
    (ei : (h : ℕ) → h < most_monitors → get_or intervals h 0 ≡ interval_of (find mons h))
    (ep : (h : ℕ) → h < most_monitors → get_or periods h 0 ≡ sampling_of (find mons h)) (qs : List Pair) (a : All Fits qs)
    (n : length qs ≤ most_pairs) where
  kept-at : (j : ℕ) → j < length qs
      → kept_at intervals periods (pair_block qs) j ≡ flat
      (map pair_place (push (move_pair mons (get_or qs j none-held)) []))
  unfolding kept_at run_in period_in
  kept-at j b =
      let q : Pair = get_or qs j none-held in
      let g : Fits q = all-at qs a j none-held b in
      rw (
        row-table qs a n j none-held b,
        place-handle q g,
        ei q.handle g.handle-most,
        ep q.handle
            g.handle-most,
      )
      (place_kept q g (find mons q.handle))

  told_at_lem : (filter : ℕ) (filters prefix : List ℕ)
      → ((h : ℕ) → h < most_monitors → get_or filters h 0 ≡ filter_of filter (find mons h))
      → (j : ℕ) → j < length qs
      → told_at intervals periods filters prefix (pair_block qs) j
      ≡ tick_octets filter prefix (find mons (get_or qs j none-held).handle) (get_or qs j none-held)
  unfolding told_at run_in period_in
  told_at_lem filter filters prefix ef j b =
      let q : Pair = get_or qs j none-held in
      let g : Fits q = all-at qs a j none-held b in
      rw (
        row-table qs a n j none-held b,
        place-handle q g,
        ei q.handle g.handle-most,
        ep q.handle
            g.handle-most,
      )
      (place-told q g (find mons q.handle) filter filters prefix (ef q.handle g.handle-most))

  kept-all : up_to (kept_at intervals periods (pair_block qs)) (length qs) ≡ flat
      (map pair_place (move_each (move_pair mons) qs))
  kept-all =
      up_to-each _ (λ (q : Pair). flat (map pair_place (push (move_pair mons q) []))) qs none-held kept-at (length qs)
      (omega arith)
      ∙ ap (each (λ (q : Pair). flat (map pair_place (push (move_pair mons q) []))))
      (take_all (length qs) qs (omega arith)) ∙ each-flat (move_pair mons) qs

  pub told-all : (filter : ℕ) (filters prefix : List ℕ)
      → ((h : ℕ) → h < most_monitors → get_or filters h 0 ≡ filter_of filter (find mons h))
      → up_to (told_at intervals periods filters prefix (pair_block qs)) (length qs)
      ≡ each (λ q. tick_octets filter prefix (find mons q.handle) q) qs
  told-all filter filters prefix ef =
      up_to-each _ (λ q. tick_octets filter prefix (find mons q.handle) q) qs none-held
      (told_at_lem filter filters prefix ef)
      (length qs) (omega arith)
      ∙ ap (each (λ q. tick_octets filter prefix (find mons q.handle) q)) (take_all (length qs) qs (omega arith))

  -- the table at the end
  drop-table : drop (pair_size * length qs) (pair_block qs) ≡ replicate (pair_size * (most_pairs - length qs)) 0
  unfolding pair_block
  drop-table =
      drop_at (flat (map pair_place qs)) (replicate (pair_size * (most_pairs - length qs)) 0) (pair_size * length qs)
      (length-places qs a)

  pub cleared-table : (g : ℕ → List ℕ) {t out₀ out : List ℕ} {k w : ℕ} → All Fits (move_each (move_pair mons) qs)
      → Cleared (pair_block qs) t out₀ out k w (kept_at intervals periods (pair_block qs)) g (length qs)
      → (t ≡ pair_block (move_each (move_pair mons) qs)) × (k ≡ length (move_each (move_pair mons) qs))
  unfolding pair_block put
  cleared-table g {t} {out₀} {out} {k} b c =
      let ps : List Pair = move_each (move_pair mons) qs in
      let l : length (flat (map pair_place ps)) ≡ pair_size * length ps = length-places ps b in
      let z : pair_size * k ≡ length (flat (map pair_place ps)) = c.size ∙ ap (λ (x : List ℕ). length x) kept-all in
      let e : k ≡ length ps = omega arith in
      let h : k ≤ length qs = c.kept-most in
      let r : List ℕ = replicate (pair_size * (length qs - k)) 0 in
      let s : length (flat (map pair_place ps) ++ r) ≡ pair_size * length qs =
      length-append (flat (map pair_place ps)) r ∙ ap (λ (x : ℕ). length (flat (map pair_place ps)) + x)
      (length-replicate (pair_size * (length qs - k)) 0) ∙ omega arith in
      let y : pair_size * (length qs - k) + pair_size * (most_pairs - length qs) ≡ pair_size * (most_pairs - length ps) =
      omega arith in
      let d : drop (0 + length (flat (map pair_place ps) ++ r)) (pair_block qs)
      ≡ replicate (pair_size * (most_pairs - length qs)) 0 =
      ap (λ (x : ℕ). drop x (pair_block qs)) (zero-add (length (flat (map pair_place ps) ++ r)) ∙ s) ∙ drop-table in (
        c.table ∙ ap (λ (x : List ℕ). put (pair_block qs) 0 (x ++ r)) kept-all
            ∙ ap (λ (x : List ℕ). flat (map pair_place ps) ++ r ++ x) d
            ∙ append_assoc (flat (map pair_place ps)) r (replicate (pair_size * (most_pairs - length qs)) 0)
            ∙ ap (λ (x : List ℕ). flat (map pair_place ps) ++ x)
            (replicate-append-replicate (pair_size * (length qs - k)) (pair_size * (most_pairs - length qs)) 0
            ∙ ap (λ (x : ℕ). replicate x 0) y),
        e,
      )
