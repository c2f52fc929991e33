-- Laws of the definitions in News.
use Rattle.std.specs.Prelude.{◌≡◌, ℕ, ◌+◌, ◌-◌, ◌*◌, ◌<◌, ◌≤◌, List, [], ◌∷◌, ◌++◌, length, take, drop, replicate, slice_index_or, slice_set}
use Rattle.std.proofs.Common.{sym, ap, ◌∙◌, append_assoc, arith, add-one, length-drop, take-append-drop, length-take-le, drop-cons}
use Rattle.std.proofs.lemmas.List.{length-replicate}
use Rattle.laws.specs.Put.{put}
use Rattle.laws.specs.PutLaws.{length-put, take_put, take-before-put, drop-after-put, set-put}
use Rattle.octets.specs.Little.{octets_of}
use Rattle.octets.specs.LittleLaws.{length-octets}
use Rattle.model.specs.Types.{Model, Packet, Pair, with_lists}
use Rattle.model.specs.Image.{pair_row}
use Rattle.model.specs.Block.{pad_to, padded}
use Rattle.blocks.specs.Block.{Measured}
use Rattle.blocks.specs.EndsLaws.{add-pair}
use Rattle.blocks.specs.FullLaws.{replace-pair}
use Rattle.blocks.specs.FieldsLaws.{put-start}
use Rattle.steps.specs.Typed.{Sent}
use Rattle.packets.specs.Keys.{device_number}
use Rattle.packets.specs.Writes.{no_pair}
use Rattle.packets.specs.WritesLaws.{bare, put-inside, fits-bare, key-octets}
use Rattle.model.specs.Layout.{count_at, most_monitors, most_pairs, pair_size, pairs_at, rssi_at}
use Rattle.packets.specs.News.{start_row}

pub length-start_row : (key o : ℕ) → length (start_row key o) ≡ pair_size
unfolding start_row
length-start_row key o =
    let n : length (octets_of 8 key) ≡ 8 = length-octets 8 key in
    let z : length (replicate {A = ℕ} pair_size 0) ≡ pair_size = length-replicate {A = ℕ} pair_size 0 in
    let k : length (put (replicate pair_size 0) 0 (octets_of 8 key)) ≡ pair_size =
    length-put (replicate pair_size 0) 0 (octets_of 8 key) (omega arith) ∙ z in
    length-put (put (replicate pair_size 0) 0 (octets_of 8 key)) rssi_at (o ∷ []) (omega arith) ∙ k

pub start-row : (h : ℕ) (p : Packet) → h < most_monitors → Sent p
    → start_row (h + 256 * device_number p) p.rssi ≡ pad_to pair_size (pair_row (bare h p))
unfolding start_row
start-row h p b t =
    ap (λ (l : List ℕ). put (put (replicate pair_size 0) 0 l) rssi_at (p.rssi ∷ [])) (key-octets h p b t)
    ∙ put-start h p t.address-six

-- a list that is another's before and behind a part
put-whole-over : (us xs : List ℕ) (at : ℕ) (zs : List ℕ) → take at us ≡ take at xs
    → drop (at + length zs) us ≡ drop (at + length zs) xs
    → put us at zs ≡ put xs at zs
unfolding put
put-whole-over us xs at zs a b = rw (a, b)

part-put : (xs : List ℕ) (at : ℕ) (ys us : List ℕ) → at + length ys ≤ length xs → length ys ≡ pair_size
    → us ≡ put xs at ys
    → take pair_size (drop at us) ≡ ys
part-put xs at ys us h n e =
    ap (λ (x : List ℕ). take pair_size (drop at x)) e ∙ ap (λ (k : ℕ). take k (drop at (put xs at ys))) (sym n)
    ∙ take_put xs at ys (omega arith)

put-over : (xs : List ℕ) (at : ℕ) (ys zs : List ℕ) → at + length ys ≤ length xs → length zs ≡ length ys
    → put (put xs at ys) at zs ≡ put xs at zs
put-over xs at ys zs h e =
    put-whole-over (put xs at ys) xs at zs (take-before-put xs at ys (omega arith))
    (ap (λ (k : ℕ). drop (at + k) (put xs at ys)) e ∙ drop-after-put xs at ys (omega arith)
    ∙ ap (λ (k : ℕ). drop (at + k) xs) (sym e))

-- the writes that make it: zeros, the key, the RSSI
pub start-written : (s : List ℕ) (at key o : ℕ) {a b c : List ℕ} → at + pair_size ≤ length s
    → a ≡ put s at (replicate pair_size 0)
    → b ≡ put a at (octets_of 8 key) → c ≡ slice_set b (at + rssi_at) o → c ≡ put s at (start_row key o)
unfolding start_row
start-written s at key o {a} {b} {c} h ea eb ec =
    let z : List ℕ = replicate pair_size 0 in
    let k : List ℕ = put z 0 (octets_of 8 key) in
    let lz : length z ≡ pair_size = length-replicate {A = ℕ} pair_size 0 in
    let lo : length (octets_of 8 key) ≡ 8 = length-octets 8 key in
    let lk : length k ≡ pair_size = length-put z 0 (octets_of 8 key) (omega arith) ∙ lz in
    let lr : length (put k rssi_at (o ∷ [])) ≡ pair_size = length-put k rssi_at (o ∷ []) (omega arith) ∙ lk in
    let la : length a ≡ length s = ap length ea ∙ length-put s at z (omega arith) in
    let j : at ≡ at + 0 = omega arith in
    let wb : b ≡ put s at k =
    eb ∙ ap (λ (i : ℕ). put a i (octets_of 8 key)) j
    ∙ put-inside a at pair_size 0 (octets_of 8 key) (omega arith) (omega arith)
    ∙ ap (λ (x : List ℕ). put a at (put x 0 (octets_of 8 key))) (part-put s at z a (omega arith) lz ea)
    ∙ ap (λ (x : List ℕ). put x at k) ea ∙ put-over s at z k (omega arith) (lk ∙ sym lz) in
    let lb : length b ≡ length s = ap length wb ∙ length-put s at k (omega arith) in
    ec ∙ set-put b (at + rssi_at) o (omega arith)
    ∙ put-inside b at pair_size rssi_at (o ∷ []) (omega arith) (omega arith)
    ∙ ap (λ (x : List ℕ). put b at (put x rssi_at (o ∷ []))) (part-put s at k b (omega arith) lk wb)
    ∙ ap (λ (x : List ℕ). put x at (put k rssi_at (o ∷ []))) wb
    ∙ put-over s at k (put k rssi_at (o ∷ [])) (omega arith) (lr ∙ sym lk)

module _ (m : Model) (f : Measured m) (h : ℕ) (p : Packet) (b : h < most_monitors) (t : Sent p) where
  -- behind the pairs, with their number
  pub row-start : length m.pairs < most_pairs
      → put (put (padded m) (pairs_at + pair_size * length m.pairs) (start_row (h + 256 * device_number p) p.rssi))
      count_at
      ((length m.pairs + 1) ∷ [])
      ≡ padded (with_lists m m.mons (m.pairs ++ (bare h p ∷ [])))
  row-start k =
      let c : ℕ = length m.pairs in
      ap (λ (r : List ℕ). put (put (padded m) (pairs_at + pair_size * c) r) count_at ((c + 1) ∷ [])) (start-row h p b t)
      ∙ add-pair m f (bare h p) (fits-bare h p b t) k

  -- at the last of 64 places, those behind pair i a place down
  pub row-replaced : (i : ℕ) → length m.pairs ≡ most_pairs → i < most_pairs
      → put (put (padded m) (pairs_at + pair_size * i)
      (take (pair_size * (most_pairs - 1 - i)) (drop (pairs_at + pair_size * (i + 1)) (padded m))))
      (pairs_at + pair_size * (most_pairs - 1)) (start_row (h + 256 * device_number p) p.rssi)
      ≡ padded (with_lists m m.mons (take i m.pairs ++ drop (i + 1) m.pairs ++ (bare h p ∷ [])))
  row-replaced i n l =
      let qs : List Pair = m.pairs in
      let ps : List Pair = take i qs in
      let rs : List Pair = drop (i + 1) qs in
      let lp : length ps ≡ i = length-take-le i qs (omega arith) in
      let lr : length rs ≡ most_pairs - 1 - i = length-drop (i + 1) qs ∙ omega arith in
      let w : qs ≡ ps ++ (slice_index_or qs i no_pair ∷ rs) =
      sym (take-append-drop i qs) ∙ ap (λ (x : List Pair). ps ++ x) (drop-cons qs i no_pair (omega arith)
      ∙ ap (λ (k : ℕ). slice_index_or qs i no_pair ∷ drop k qs) (sym (add-one i))) in
      let g = replace-pair m f ps rs (slice_index_or qs i no_pair) (bare h p) w n (fits-bare h p b t) in
      let z : length ps + length rs ≡ most_pairs - 1 = omega arith in
      let at : ℕ = pairs_at + pair_size * i in
      ap (λ (r : List ℕ). put
      (put (padded m) at (take (pair_size * (most_pairs - 1 - i)) (drop (pairs_at + pair_size * (i + 1)) (padded m))))
      (pairs_at + pair_size * (most_pairs - 1)) r) (start-row h p b t)
      ∙ ap (λ (k : ℕ). put (put (padded m) at (take (pair_size * k) (drop (pairs_at + pair_size * (i + 1)) (padded m))))
      (pairs_at + pair_size * (most_pairs - 1)) (pad_to pair_size (pair_row (bare h p)))) (sym lr)
      ∙ ap (λ (k : ℕ). put
      (put (padded m) (pairs_at + pair_size * k)
      (take (pair_size * length rs) (drop (pairs_at + pair_size * (k + 1)) (padded m))))
      (pairs_at + pair_size * (most_pairs - 1)) (pad_to pair_size (pair_row (bare h p)))) (sym lp)
      ∙ ap (λ (k : ℕ). put (put (padded m) (pairs_at + pair_size * length ps)
      (take (pair_size * length rs) (drop (pairs_at + pair_size * (length ps + 1)) (padded m))))
      (pairs_at + pair_size * k) (pad_to pair_size (pair_row (bare h p)))) (sym z)
      ∙ g ∙ ap (λ (x : List Pair). padded (with_lists m m.mons x)) (sym (append_assoc ps rs (bare h p ∷ [])))
