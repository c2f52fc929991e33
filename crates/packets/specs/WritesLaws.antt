-- Laws of the definitions in Writes.
use Rattle.std.specs.Prelude.{◌≡◌, ℕ, ◌+◌, ◌-◌, ◌*◌, ◌/◌, ◌%◌, ◌<◌, ◌≤◌, Bool, true, false, List, [], ◌∷◌, ◌++◌, length, get_or, take, drop, slice_index, slice_index_or, slice_set, refl}
use Rattle.std.proofs.Math.Path.{sym, ap}
use Rattle.std.proofs.Common.{◌∙◌, subst, add-zero, length-drop, take-append-drop, length-take-le, drop-drop, get_or-drop}
use native.Mathlib.Omega.{arith}
use Rattle.std.proofs.lemmas.List.{set-get_or}
use Rattle.laws.specs.Tests.{pick}
use Rattle.laws.specs.Loops.{every, when}
use Rattle.laws.specs.LoopsLaws.{every-nil}
use Rattle.laws.specs.Put.{put}
use Rattle.laws.specs.PutLaws.{put-left, put_right, length-put}
use Rattle.laws.specs.Rows.{row}
use Rattle.laws.specs.RowsLaws.{get_d-row, put_whole}
use Rattle.octets.specs.Little.{is_octet, little, octets_of, value}
use Rattle.octets.specs.LittleLaws.{length-octets, octets-value}
use Rattle.model.specs.Types.{Model, Packet, Pair, device, device_of, with_lists}
use Rattle.model.specs.Level.{add_rssi}
use Rattle.model.specs.Watch.{with_since_good, with_kept, with_latest, gathered, start_like}
use Rattle.model.specs.Image.{pair_row, pair_in}
use Rattle.model.specs.Block.{pad_to, padded}
use Rattle.blocks.specs.Bounds.{Fits}
use Rattle.blocks.specs.PlacesLaws.{pair_in-place}
use Rattle.blocks.specs.Block.{Measured}
use Rattle.blocks.specs.BlockLaws.{length-padded, row-pairs}
use Rattle.blocks.specs.EndsLaws.{change-pair}
use Rattle.blocks.specs.Fields.{latest_of, window_of}
use Rattle.blocks.specs.FieldsLaws.{length-latest, length-window, put-silent, put-kept, put-latest, put-gathered}
use Rattle.steps.specs.Typed.{Sent}
use Rattle.steps.specs.SumsLaws.{sum_below}
use Rattle.packets.specs.Keys.{device_number}
use Rattle.packets.specs.KeysLaws.{device-octets, device-seven, little-pairs}
use Rattle.model.specs.Layout.{block_size, event_at, latest_size, most_data, most_monitors, most_pairs, pair_size, pairs_at, rssi_at, window_size}
use Rattle.packets.specs.Writes.{begun_as}

-- a write inside a part is that part, with the write in it, written whole
pub put-inside : {A : Type 0} (t : List A) (at n off : ℕ) (ys : List A) → at + n ≤ length t → off + length ys ≤ n
    → put t (at + off) ys ≡ put t at (put (take n (drop at t)) off ys)
put-inside {A} t at n off ys h b =
    let u : List A = take at t in
    let v : List A = take n (drop at t) in
    let w : List A = drop n (drop at t) in
    let lu : length u ≡ at = length-take-le at t (omega arith) in
    let ld : length (drop at t) ≡ length t - at = length-drop at t in
    let lv : length v ≡ n = length-take-le n (drop at t) (omega arith) in
    let s : t ≡ u ++ (v ++ w) =
    sym (take-append-drop at t) ∙ ap (λ (x : List A). u ++ x) (sym (take-append-drop n (drop at t))) in
    let lp : length (put v off ys) ≡ length v = length-put v off ys (omega arith) in
    let go : (x : List A) → t ≡ x → x ≡ u ++ (v ++ w) → put t (at + off) ys ≡ u ++ (put v off ys ++ w) =
    λ x e f. ap (λ (y : List A). put y (at + off) ys) (e ∙ f)
    ∙ ap (λ (k : ℕ). put (u ++ (v ++ w)) (k + off) ys) (sym lu)
    ∙ put_right u (v ++ w) off ys
    ∙ ap (λ (y : List A). u ++ y) (put-left v w off ys (omega arith)) in
    let z : at ≡ length u + 0 = sym lu ∙ sym (add-zero (length u)) in
    let back : put t at (put v off ys) ≡ u ++ (put v off ys ++ w) =
    ap (λ (y : List A). put y at (put v off ys)) s
    ∙ ap (λ (k : ℕ). put (u ++ (v ++ w)) k (put v off ys)) z
    ∙ put_right u (v ++ w) 0 (put v off ys)
    ∙ ap (λ (y : List A). u ++ y) (put-left v w 0 (put v off ys) (omega arith)
    ∙ ap (λ (y : List A). y ++ w) (put_whole v (put v off ys) (sym lp))) in
    go (u ++ (v ++ w)) s refl ∙ sym back

-- the row of pair i, as a part of the block
pub part-row : (s : List ℕ) (i : ℕ) → take pair_size (drop (pairs_at + pair_size * i) s) ≡ row pair_size i (drop pairs_at s)
unfolding row
part-row s i = ap (λ (l : List ℕ). take pair_size l) (sym (drop-drop (pair_size * i) pairs_at s))

module _ (m : Model) (f : Measured m) where
  -- a write inside the row of pair i that makes it another pair's
  pub put-row : (i : ℕ) (d q : Pair) → Fits q → i < length m.pairs → (off : ℕ) (ys : List ℕ)
      → off + length ys ≤ pair_size
      → put (pad_to pair_size (pair_row (slice_index_or m.pairs i d))) off ys ≡ pad_to pair_size (pair_row q)
      → put (padded m) (pairs_at + pair_size * i + off) ys ≡ padded (with_lists m m.mons (slice_set m.pairs i q))
  put-row i d q g b off ys h e =
      let n : length (padded m) ≡ block_size = length-padded m f in
      let k : length m.pairs ≤ most_pairs = f.pairs-most in
      put-inside (padded m) (pairs_at + pair_size * i) pair_size off ys (omega arith) h
      ∙ ap (λ (r : List ℕ). put (padded m) (pairs_at + pair_size * i) (put r off ys))
      (part-row (padded m) i ∙ row-pairs m f i d b)
      ∙ ap (λ (r : List ℕ). put (padded m) (pairs_at + pair_size * i) r) e
      ∙ change-pair m f i q g b

  -- a pair written over itself
  pub same_row_lem : (i : ℕ) (d : Pair)
      → padded m ≡ padded (with_lists m m.mons (slice_set m.pairs i (slice_index_or m.pairs i d)))
  unfolding with_lists
  same_row_lem i d = ap (λ (qs : List Pair). padded (with_lists m m.mons qs)) (sym (set-get_or m.pairs i d))

-- a pair with other ticks, with one packet more, at its start, fits its row
pub fits-silent : (q : Pair) → Fits q → Fits (with_since_good q 0)
unfolding with_since_good
fits-silent q f =
    record {
      handle-most = f.handle-most;
      kind-most = f.kind-most;
      address-length = f.address-length;
      address-octets = f.address-octets;
      silent-most = omega arith;
      ticks-most = f.ticks-most;
      packets-most = f.packets-most;
      sum-most = f.sum-most;
      kept-octet = f.kept-octet;
      event-octet = f.event-octet;
      adv-most = f.adv-most;
      adv-octets = f.adv-octets;
    }

pub fits_kept : (o : ℕ) (q : Pair) → o < 256 → Fits q → Fits (with_kept q o)
unfolding with_kept
fits_kept o q b f =
    record {
      handle-most = f.handle-most;
      kind-most = f.kind-most;
      address-length = f.address-length;
      address-octets = f.address-octets;
      silent-most = f.silent-most;
      ticks-most = f.ticks-most;
      packets-most = f.packets-most;
      sum-most = f.sum-most;
      kept-octet = b;
      event-octet = f.event-octet;
      adv-most = f.adv-most;
      adv-octets = f.adv-octets;
    }

pub fits-gathered : (p : Packet) (q : Pair) → Sent p → Fits q → q.packets < 4294967295 → Fits (gathered p q)
unfolding gathered
fits-gathered p q t f h =
    record {
      handle-most = f.handle-most;
      kind-most = f.kind-most;
      address-length = f.address-length;
      address-octets = f.address-octets;
      silent-most = f.silent-most;
      ticks-most = f.ticks-most;
      packets-most = omega arith;
      sum-most = sum_below q.sum p.rssi;
      kept-octet = t.rssi-octet;
      event-octet = omega (arith, t.event-most);
      adv-most = t.adv-short;
      adv-octets = t.adv-octets;
    }

pub fits-latest : (event : ℕ) (adv : List ℕ) (q : Pair) → event < 256 → length adv ≤ most_data
    → every is_octet adv ≡ true → Fits q
    → Fits (with_latest event adv q)
unfolding with_latest
fits-latest event adv q b n o f =
    record {
      handle-most = f.handle-most;
      kind-most = f.kind-most;
      address-length = f.address-length;
      address-octets = f.address-octets;
      silent-most = f.silent-most;
      ticks-most = f.ticks-most;
      packets-most = f.packets-most;
      sum-most = f.sum-most;
      kept-octet = f.kept-octet;
      event-octet = b;
      adv-most = n;
      adv-octets = o;
    }

-- a pair at its start, of a monitor that does not filter duplicates
abbrev pub bare : ℕ → Packet → Pair
bare h p = start_like false false h p

pub fits-bare : (h : ℕ) (p : Packet) → h < most_monitors → Sent p → Fits (bare h p)
unfolding start_like pick when
fits-bare h p b t =
    record {
      handle-most = b;
      kind-most = t.kind-most;
      address-length = t.address-six;
      address-octets = t.address-octets;
      silent-most = omega arith;
      ticks-most = omega arith;
      packets-most = omega arith;
      sum-most = omega arith;
      kept-octet = t.rssi-octet;
      event-octet = omega arith;
      adv-most = omega arith;
      adv-octets = every-nil is_octet;
    }

pub begun-bare : (sifting reason : Bool) (h : ℕ) (p : Packet)
    → begun_as sifting reason p (bare h p) ≡ start_like sifting reason h p
unfolding begun_as start_like with_latest pick when
begun-bare true true h p = refl
begun-bare true false h p = refl
begun-bare false reason h p = refl

pub fits-begun : (sifting reason : Bool) (p : Packet) (q : Pair) → Sent p → Fits q → Fits (begun_as sifting reason p q)
unfolding begun_as pick
fits-begun true true p q t f =
    fits-latest p.event p.adv q (omega (arith, t.event-most)) t.adv-short t.adv-octets f
fits-begun true false p q t f = fits-latest 255 [] q (omega arith) (omega arith) (every-nil is_octet) f
fits-begun false reason p q t f = f

pub fits-start : (sifting reason : Bool) (h : ℕ) (p : Packet) → h < most_monitors → Sent p
    → Fits (start_like sifting reason h p)
fits-start sifting reason h p b t =
    subst Fits (begun-bare sifting reason h p) (fits-begun sifting reason p (bare h p) t (fits-bare h p b t))

-- the writes of one row: the ticks since a good packet, the window from the packets on
module _ (m : Model) (f : Measured m) (i : ℕ) (d : Pair) (b : i < length m.pairs) (g : Fits (get_or
    m.pairs i d)) where
  pub row-silent : put (padded m) (pairs_at + pair_size * i + 8) (octets_of 2 0)
      ≡ padded (with_lists m m.mons (slice_set m.pairs i (with_since_good (slice_index_or m.pairs i d) 0)))
  row-silent =
      put-row m f i d (with_since_good (slice_index_or m.pairs i d) 0) (fits-silent (slice_index_or m.pairs i d) g) b 8 (octets_of 2 0)
      (rw (length-octets 2 0) (omega arith))
      (put-silent (slice_index_or m.pairs i d) g.address-length 0)

  pub row_kept : (o : ℕ) → o < 256 → put (padded m) (pairs_at + pair_size * i + rssi_at) (o ∷ [])
      ≡ padded (with_lists m m.mons (slice_set m.pairs i (with_kept (slice_index_or m.pairs i d) o)))
  row_kept o h =
      put-row m f i d (with_kept (slice_index_or m.pairs i d) o) (fits_kept o (slice_index_or m.pairs i d) h g) b rssi_at (o ∷ [])
      (omega arith)
      (put-kept (slice_index_or m.pairs i d) g.address-length o)

  pub row-latest : (event : ℕ) (adv : List ℕ) → event < 256 → length adv ≤ most_data → every is_octet adv ≡ true
      → put (padded m) (pairs_at + pair_size * i + event_at) (latest_of event adv)
      ≡ padded (with_lists m m.mons (slice_set m.pairs i (with_latest event adv (slice_index_or m.pairs i d))))
  row-latest event adv h n o =
      let q : Pair = get_or m.pairs i d in
      let k : length (latest_of event adv) ≡ latest_size = length-latest event adv n in
      put-row m f i d (with_latest event adv q) (fits-latest event adv q h n o g) b event_at (latest_of event adv)
      (omega arith)
      (put-latest q g.address-length event adv g.adv-most n)

  pub read_kept : get_or (padded m) (pairs_at + pair_size * i + rssi_at) 0 ≡ (get_or m.pairs i d).kept
  unfolding pair_in
  read_kept =
      let e : pairs_at + pair_size * i + rssi_at ≡ pairs_at + (pair_size * i + rssi_at) = omega arith in
      ap (λ (k : ℕ). slice_index (padded m) k) e ∙ sym (get_or-drop pairs_at (padded m) (pair_size * i + rssi_at) 0)
      ∙ sym (get_d-row pair_size i rssi_at (drop pairs_at (padded m)) 0 (omega arith))
      ∙ ap (λ (r : List ℕ). slice_index r rssi_at) (row-pairs m f i d b)
      ∙ ap (λ (q : Pair). q.kept) (pair_in-place (slice_index_or m.pairs i d) g)

  pub read-packets : little 4 (padded m) (pairs_at + pair_size * i + 11) ≡ (get_or m.pairs i d).packets
  unfolding pair_in
  read-packets =
      little-pairs m f i 4 11 d b (omega arith) ∙ ap (λ (q : Pair). q.packets) (pair_in-place (slice_index_or m.pairs i d) g)

  pub read-sum : little 8 (padded m) (pairs_at + pair_size * i + 15) ≡ (get_or m.pairs i d).sum
  unfolding pair_in
  read-sum =
      little-pairs m f i 8 15 d b (omega arith) ∙ ap (λ (q : Pair). q.sum) (pair_in-place (slice_index_or m.pairs i d) g)

  pub row-gathered : (p : Packet) → Sent p → (get_or m.pairs i d).packets < 4294967295
      → put (padded m) (pairs_at + pair_size * i + 11)
      (window_of (little 4 (padded m) (pairs_at + pair_size * i + 11) + 1)
      (add_rssi (little 8 (padded m) (pairs_at + pair_size * i + 15))
      p.rssi)
      p.rssi p.event p.adv)
      ≡ padded (with_lists m m.mons (slice_set m.pairs i (gathered p (slice_index_or m.pairs i d))))
  row-gathered p t h =
      let q : Pair = get_or m.pairs i d in
      let w : List ℕ = window_of (q.packets + 1) (add_rssi q.sum p.rssi) p.rssi p.event p.adv in
      let n : length w ≡ window_size =
      length-window (q.packets + 1) (add_rssi q.sum p.rssi) p.rssi p.event p.adv
      t.adv-short in
      ap (λ (k : ℕ). put (padded m) (pairs_at + pair_size * i + 11) (window_of (k + 1)
      (add_rssi (little 8 (padded m) (pairs_at + pair_size * i + 15)) p.rssi) p.rssi p.event p.adv))
      read-packets
      ∙ ap (λ (k : ℕ). put (padded m) (pairs_at + pair_size * i + 11) (window_of (q.packets + 1) (add_rssi k p.rssi)
      p.rssi p.event p.adv))
      read-sum
      ∙ put-row m f i d (gathered p q) (fits-gathered p q t g h) b 11 w (omega arith)
      (put-gathered q g.address-length p g.adv-most t.adv-short)

-- the octets of a key
pub key-octets : (h : ℕ) (p : Packet) → h < most_monitors → Sent p → octets_of 8 (h + 256 * device_number p)
    ≡ h ∷ p.address_type ∷ p.address
unfolding device_number device_of device octets_of
key-octets h p b t =
    let m : (h + 256 * value (p.address_type ∷ p.address)) % 256 ≡ h = omega arith in
    let d : (h + 256 * value (p.address_type ∷ p.address)) / 256 ≡ value
    (p.address_type ∷ p.address) = omega arith in
    let n : length (p.address_type ∷ p.address) ≡ 7 = device-seven p t in
    let o : octets_of 7 (value (p.address_type ∷ p.address)) ≡ p.address_type ∷ p.address =
    ap (λ (k : ℕ). octets_of k (value (p.address_type ∷ p.address))) (sym n)
    ∙ octets-value (p.address_type ∷ p.address) (device-octets p t) in
    rw (m, d) (ap (λ (l : List ℕ). h ∷ l) o)
