-- Laws of the definitions in MonitorRows.
use Rattle.std.specs.Prelude.{◌≡◌, ℕ, ◌+◌, ◌-◌, ◌*◌, ◌<◌, ◌≤◌, Bool, true, false, List, [], ◌∷◌, ◌++◌, length, take, drop, set, replicate, ◌≢◌, nat_le, slice_index, slice_range, slice_set}
use Rattle.std.proofs.Math.Path.{refl, sym, ap}
use Rattle.std.proofs.Common.{◌∙◌, subst, append_assoc}
use Rattle.std.proofs.Math.Option.{Option, none, some}
use native.Mathlib.Omega.{arith}
use Rattle.std.proofs.Math.ListN.{length-append, length-drop, length-set}
use Rattle.std.proofs.lemmas.List.{length-replicate, replicate-append-replicate}
use Rattle.std.proofs.Math.Seq.{length-take-le, take_all}
use Rattle.laws.specs.Tests.{pick}
use Rattle.laws.specs.Loops.{up_to}
use Rattle.laws.specs.LoopsLaws.{up_to-more}
use Rattle.laws.specs.Put.{put, put_if}
use Rattle.laws.specs.PutLaws.{length-put, put-nil, put-push, put_right, put_then, set-put}
use Rattle.laws.specs.RowsLaws.{put_whole}
use Rattle.model.specs.Types.{Monitor}
use Rattle.model.proofs.AcceptedLaws.{accepted}
use Rattle.model.specs.Monitors.{accepts, extra_of, is_second, monitor_of, type_in}
use Rattle.model.specs.Image.{extra_text, monitor_row}
use Rattle.model.specs.Block.{extra_row, monitor_place, pad_to}
use Rattle.model.specs.Layout.{block_size, condition_at, condition_length_at, extra_at, extra_size, first_type_in, high_at, monitor_size, monitors_at, most_condition, most_monitors, second_type_in, condition_type_at}
use Rattle.blocks.specs.RowsLaws.{length-monitor_row, length-pad_to}
use Rattle.blocks.specs.Monitors.{Sized, row_of}
use Rattle.prefixes.specs.ForceLaws.{zeros-behind}
use Rattle.commands.specs.StoredLaws.{extra-sized, put-made, settings-row}
use Rattle.statuses.specs.Statuses.{type_by}
use Rattle.twin.specs.Table.{payload_at}
use Rattle.twin.specs.Heard.{Adds}
use Rattle.twin.specs.HeardLaws.{type-is}
use Rattle.twin.specs.Numbered.{Added, mon_at}
use Rattle.twin.specs.Seen.{named_by}
use Rattle.twin.specs.NamesLaws.{named_some}
use Rattle.twin.specs.MonitorRows.{places_of, Names}

-- where the condition's type stands
type-range : (l : List ℕ) → (first_type_in ≤ type_in l) × (type_in l ≤ second_type_in)
unfolding type_in pick
type-range l = go (is_second l)
  where
    go : (b : Bool) → (first_type_in ≤ pick b second_type_in first_type_in)
        × (pick b second_type_in first_type_in ≤ second_type_in)
    go true = (omega arith, omega arith)
    go false = (omega arith, omega arith)

pub type-at-range : (l : List ℕ) (at : ℕ) → Adds l → at ≡ type_by (slice_index l 0)
    → (first_type_in ≤ at) × (at ≤ second_type_in) × (at < length l)
type-at-range l at a e =
    let k : at ≡ type_in l = type-is l at e in
    let r = type-range l in
    let g : type_in l < length l = a.long in
    (omega (arith, r.0), omega (arith, r.1), omega arith)

pub condition-short : (l : List ℕ) (at : ℕ) → length l ≤ type_in l + 1 + most_condition → at ≡ type_by (slice_index l 0)
    → length l ≤ at + 1 + most_condition
condition-short l at h e = let k : at ≡ type_in l = type-is l at e in omega arith

-- a monitor that is accepted has room in a row
pub added-sized : (t : List ℕ) (a : ℕ) → Added t a → accepts (mon_at t a) ≡ true → Sized (mon_at t a)
unfolding monitor_of
added-sized t a d e =
    record {
      short = (accepted (mon_at t a) e).short;
      extra = extra-sized (drop 3 (payload_at t (a - 1)))
          d.adds.long;
    }

pub sized-short : (t : List ℕ) (a : ℕ) (l : List ℕ) → Sized (mon_at t a) → l ≡ drop 3 (payload_at t (a - 1))
    → length l ≤ type_in l + 1 + most_condition
unfolding monitor_of
sized-short t a l s e =
    let m : List ℕ = drop 3 (payload_at t (a - 1)) in
    let h : length (drop (type_in m + 1) m) ≤ most_condition = s.short in
    let d : length (drop (type_in m + 1) m) ≡ length m - (type_in m + 1) = length-drop (type_in m + 1) m in
    rw e (omega arith)

-- the writes of a monitor's settings and condition, one after another
module _ (s l : List ℕ) (h at : ℕ) where
  abbrev k : ℕ
  k = length l - (at + 1)

  abbrev s4 : List ℕ → List ℕ
  s4 s2 = slice_set (slice_set s2 condition_type_at (slice_index l at)) condition_length_at k

  pub settings-put : {s2 s5 : List ℕ} {r2 r5 : Bool} → length s ≡ monitor_size → Adds l → at ≡ type_by (slice_index l 0)
      → length l ≤ type_in l + 1 + most_condition
      → (r2 ≡ nat_le (high_at + length (take 4 (drop 1 l))) (length (slice_set s 0 h)))
      × (s2 ≡ put_if r2 (slice_set s 0 h) high_at (take 4 (drop 1 l)))
      → (r5 ≡ nat_le (condition_at + length (take k (drop (at + 1) l))) (length (s4 s2)))
      × (s5 ≡ put_if r5 (s4 s2) condition_at (take k (drop (at + 1) l)))
      → s5 ≡ put s 0 (monitor_row (h, monitor_of l))
  unfolding monitor_row monitor_of
  settings-put {s2} {s5} n a e m e2 e5 =
      let g = type-at-range l at a e in
      let p : type_in l ≡ at = sym (type-is l at e) in
      let f : List ℕ = take 4 (drop 1 l) in
      let d : List ℕ = take k (drop (at + 1) l) in
      let w : length (drop (at + 1) l) ≡ k = length-drop (at + 1) l in
      let i : d ≡ drop (at + 1) l = take_all k (drop (at + 1) l) (omega arith) in
      let j : length (drop 1 l) ≡ length l - 1 = length-drop 1 l in
      let v : length f ≡ 4 = length-take-le 4 (drop 1 l) (omega (arith, g.0, g.2)) in
      let z : length d ≡ k = ap length i ∙ w in
      let b1 : set s 0 h ≡ put s 0 (h ∷ []) = set-put s 0 h (omega arith) in
      let n1 : length (slice_set s 0 h) ≡ monitor_size = length-set s 0 h ∙ n in
      let b2 : s2 ≡ put s 0 (h ∷ f) =
      put_then s 0 (h ∷ []) high_at f (omega arith) b1 (omega arith)
      (put-made (slice_set s 0 h) high_at f (length f) e2 (omega arith)) refl in
      let n2 : length s2 ≡ monitor_size = ap length b2 ∙ length-put s 0 (h ∷ f) (omega arith) ∙ n in
      let b3 : set s2 condition_type_at (slice_index l at) ≡ put s 0 ((h ∷ f) ++ (slice_index l at ∷ [])) =
      put-push s 0 (h ∷ f) (slice_index l at) (omega arith) (omega arith) b2 in
      let c3 : length ((h ∷ f) ++ (slice_index l at ∷ [])) ≡ condition_length_at =
      length-append (h ∷ f) (slice_index l at ∷ []) ∙ omega arith in
      let b4 : s4 s2 ≡ put s 0 ((h ∷ f) ++ (slice_index l at ∷ []) ++ (k ∷ [])) =
      put-push s 0 ((h ∷ f) ++ (slice_index l at ∷ [])) k (omega arith) (omega arith) b3 in
      let c4 : length ((h ∷ f) ++ (slice_index l at ∷ []) ++ (k ∷ [])) ≡ condition_at =
      length-append ((h ∷ f) ++ (slice_index l at ∷ [])) (k ∷ []) ∙ omega arith in
      let n4 : length (s4 s2) ≡ monitor_size =
      ap length b4 ∙ length-put s 0 ((h ∷ f) ++ (slice_index l at ∷ []) ++ (k ∷ [])) (omega arith) ∙ n in
      let q : length l ≤ at + 1 + most_condition = omega arith in
      let b5 : s5 ≡ put s 0 ((h ∷ f) ++ (slice_index l at ∷ []) ++ (k ∷ []) ++ d) =
      put_then s 0 ((h ∷ f) ++ (slice_index l at ∷ []) ++ (k ∷ [])) condition_at d (omega arith) b4 (omega arith)
      (put-made (s4 s2) condition_at d (length d) e5 (omega arith)) refl in
      b5 ∙ ap (put s 0) (rw (i, settings-row l (omega (arith, g.0, g.2)), p, w))

-- what version 2 adds
pub added-put : (s l : List ℕ) (at : ℕ) {s2 : List ℕ} {r : Bool} → length s ≡ monitor_size → Adds l
    → at ≡ type_by (slice_index l 0)
    → (r ≡ nat_le (extra_at + length (slice_range l first_type_in at)) (length s))
    × (s2 ≡ put_if r s extra_at (slice_range l first_type_in at))
    → s2 ≡ put s extra_at (extra_text (monitor_of l).extra)
unfolding monitor_of extra_of extra_text type_in pick
added-put s l at n a e p =
    let g = type-at-range l at a e in
    let d : length (drop first_type_in l) ≡ length l - first_type_in = length-drop first_type_in l in
    let w : length (slice_range l first_type_in at) ≡ at - first_type_in =
    length-take-le (at - first_type_in) (drop first_type_in l) (omega (arith, g.2)) in
    put-made s extra_at (slice_range l first_type_in at) _ p (omega (arith, g.1))
    ∙ ap (put s extra_at) (go (is_second l) (type-is l at e))
  where
    go : (b : Bool) → at ≡ pick b second_type_in first_type_in
        → slice_range l first_type_in at
        ≡ extra_text (pick b (some (take extra_size (drop first_type_in l))) none)
    go true q = rw q refl
    go false q = rw q refl

-- both, in a row of zeros
fields_made : (a b : ℕ) (r : List ℕ) → length r ≤ a → put (replicate (a + b) 0) 0 r ≡ pad_to a r ++ replicate b 0
unfolding pad_to
fields_made a b r h =
    let z : a + b - length r ≡ a - length r + b = omega arith in
    zeros-behind (a + b) r
    ∙ ap (λ (k : ℕ). r ++ replicate k 0) z
    ∙ ap (λ (x : List ℕ). r ++ x) {y = replicate (a - length r) 0 ++ replicate b 0}
    (sym (replicate-append-replicate (a - length r) b 0))
    ∙ sym (append_assoc r (replicate (a - length r) 0) (replicate b 0))

extra-made : (o : Option (List ℕ)) → length (extra_row o) ≡ extra_size
    → put (replicate extra_size 0) 0 (extra_text o) ≡ extra_row o
unfolding extra_text extra_row
extra-made none e = put-nil (replicate extra_size 0) 0
extra-made (some l) e = put_whole (replicate extra_size 0) l (length-replicate {A = ℕ} extra_size 0 ∙ sym e)

row_made : (h : ℕ) (m : Monitor) → Sized m
    → put (put (replicate monitor_size 0) 0 (monitor_row (h, m))) extra_at (extra_text m.extra) ≡ row_of h m
row_made h m s =
    let r : List ℕ = monitor_row (h, m) in
    let n : length r ≡ 7 + length m.condition = length-monitor_row (h, m) in
    let b : length r ≤ extra_at = omega (arith, s.short) in
    let k : length (pad_to extra_at r) ≡ extra_at = length-pad_to extra_at r b in
    let z : extra_at ≡ length (pad_to extra_at r) + 0 = omega arith in
    ap (λ (x : List ℕ). put x extra_at (extra_text m.extra)) (fields_made extra_at extra_size r b)
    ∙ ap (λ (i : ℕ). put (pad_to extra_at r ++ replicate extra_size 0) i (extra_text m.extra)) z
    ∙ put_right (pad_to extra_at r) (replicate extra_size 0) 0 (extra_text m.extra)
    ∙ ap (λ (x : List ℕ). pad_to extra_at r ++ x) (extra-made m.extra s.extra)

-- the row of a handle: zeros where no frame is named
pub place_none : (t : List ℕ) (h a : ℕ) → a ≡ 0 → replicate monitor_size 0 ≡ monitor_place h (named_by t a)
unfolding monitor_place named_by
place_none t h a e = rw e

pub place-some : (t : List ℕ) (h a : ℕ) (l : List ℕ) {x y : List ℕ} → (a ≢ 0) → Sized (mon_at t a)
    → l ≡ drop 3 (payload_at t (a - 1))
    → x ≡ put (replicate monitor_size 0) 0 (monitor_row (h, monitor_of l))
    → y ≡ put x extra_at (extra_text (monitor_of l).extra) → y ≡ monitor_place h (named_by t a)
unfolding monitor_place
place-some t h a l n s e p q =
    q ∙ ap (λ (z : List ℕ). put z extra_at (extra_text (monitor_of l).extra)) p
    ∙ ap (λ (m : List ℕ). put (put (replicate monitor_size 0) 0 (monitor_row (h, monitor_of m))) extra_at
    (extra_text (monitor_of m).extra)) e
    ∙ row_made h (mon_at t a) s ∙ sym (ap (monitor_place h) (named_some t a (omega (arith, n))))

-- the table, row by row
pub record Placed (t live s : List ℕ) (h : ℕ) (b : List ℕ) : Type 0 where
  pub size : length (places_of t live h) ≡ monitor_size * h
  pub is : b ≡ put s monitors_at (places_of t live h)

pub placed-none : (t live s : List ℕ) → Placed t live s 0 s
unfolding places_of up_to
placed-none t live s = record { size = refl; is = sym (put-nil s monitors_at) }

pub placed-more : (t live s : List ℕ) (h : ℕ) {b c r : List ℕ} → block_size ≤ length s → h < most_monitors
    → Placed t live s h b
    → r ≡ monitor_place h (named_by t (slice_index live h)) → length r ≡ monitor_size
    → c ≡ put b (monitors_at + monitor_size * h) r → Placed t live s (h + 1) c
unfolding places_of
placed-more t live s h {r = r} n w p e l q =
    let f : ℕ → List ℕ = λ (j : ℕ). monitor_place j (named_by t (slice_index live j)) in
    let m : up_to f (h + 1) ≡ up_to f h ++ r = up_to-more f h ∙ ap (λ (x : List ℕ). up_to f h ++ x) (sym e) in
    let z : length (up_to f h) ≡ monitor_size * h = p.size in
    record {
      size = ap length m ∙ length-append (up_to f h) r ∙ omega arith;
      is = put_then s monitors_at (up_to f h) (monitors_at + monitor_size * h) r (omega arith) p.is (omega arith) q
          (sym m);
    }

pub names_at : (t live : List ℕ) (h w : ℕ) → w ≡ slice_index live h
    → ((j : ℕ) → 1 ≤ slice_index live j → Names t (slice_index live j)) → 1 ≤ w → Names t w
names_at t live h w e f l = subst (Names t) (sym e) (f h (subst (λ (j : ℕ). 1 ≤ j) e l))

-- a turn of the loop that writes them
pub record Turned (t live s : List ℕ) (h : ℕ) (b : List ℕ) : Type 0 where
  pub most : h ≤ most_monitors
  pub long : length b ≡ length s
  pub placed : Placed t live s h b

pub turned_none : (t live s : List ℕ) → Turned t live s 0 s
turned_none t live s = record { most = omega arith; long = refl; placed = placed-none t live s }

pub turned_more : (t live s : List ℕ) (h w : ℕ) (b r : List ℕ) {c : List ℕ} {f : Bool} → block_size ≤ length s
    → h < most_monitors → Turned t live s h b
    → w ≡ slice_index live h → r ≡ monitor_place h (named_by t w) → length r ≡ monitor_size
    → (f ≡ nat_le (monitors_at + monitor_size * h + length r) (length b)) × (c ≡ put_if f b (monitors_at + monitor_size * h) r)
    → Turned t live s (h + 1) c
turned_more t live s h w b r {c} n l p ew er k q =
    let z : length b ≡ length s = p.long in
    let e : c ≡ put b (monitors_at + monitor_size * h) r =
    put-made b (monitors_at + monitor_size * h) r (length r) q (omega arith) in
    record {
      most = omega arith;
      long = ap length e ∙ length-put b (monitors_at + monitor_size * h) r (omega arith) ∙ z;
      placed = placed-more t live s h n l p.placed (er ∙ ap (λ (j : ℕ). monitor_place h (named_by t j)) ew) k e;
    }

pub turned-all : (t live s : List ℕ) (h : ℕ) (b : List ℕ) → most_monitors ≤ h → Turned t live s h b
    → (b ≡ put s monitors_at (places_of t live most_monitors))
    × (length (places_of t live most_monitors) ≡ monitor_size * most_monitors)
turned-all t live s h b l p =
    let m : h ≤ most_monitors = p.most in
    let e : h ≡ most_monitors = omega arith in
    let q : Placed t live s most_monitors b = subst (λ (j : ℕ). Placed t live s j b) e p.placed in
    (q.is, q.size)
