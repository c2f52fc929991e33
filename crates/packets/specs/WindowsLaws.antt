-- Laws of the definitions in Windows.
use Rattle.std.specs.Prelude.{◌≡◌, ℕ, ◌+◌, ◌-◌, ◌*◌, ◌/◌, ◌%◌, ◌^◌, ◌<◌, ◌≤◌, List, [], ◌∷◌, ◌++◌, length, take, drop, set, replicate, slice_index, slice_index_or, slice_set, refl}
use Rattle.std.proofs.Common.{sym, ap, ◌∙◌, append_assoc, arith, length-append, length-drop, length-take-le}
use Rattle.laws.specs.Put.{put}
use Rattle.laws.specs.PutLaws.{set-put, put_then, put-push}
use Rattle.octets.specs.Little.{little, octets_of}
use Rattle.octets.specs.LittleLaws.{length-octets, octets-mod}
use Rattle.model.specs.Types.{Model, Packet}
use Rattle.model.specs.Level.{add_rssi}
use Rattle.model.specs.Levels.{extended}
use Rattle.model.proofs.LevelsLaws.{add-extended}
use Rattle.model.specs.Frames.{packet_of}
use Rattle.model.specs.Block.{padded}
use Rattle.blocks.specs.Fields.{latest_of, window_of}
use Rattle.steps.specs.Typed.{Sent}
use Rattle.packets.specs.Changes.{collected}
use Rattle.packets.specs.Moves.{pair_at, with_pair, AtPair}
use Rattle.packets.specs.MovesLaws.{gather-done}
use Rattle.marks.specs.Fields.{Framed}
use Rattle.model.specs.Layout.{latest_size, most_data, pair_size, pairs_at, window_size}
use Rattle.packets.specs.Windows.{taken_by}

-- event type, data length, data, zeros: the writes one after another
pub latest-written : (s l : List ℕ) (at n : ℕ) {c d adv : List ℕ} → at + latest_size ≤ length s → Framed l
    → n ≡ slice_index l 8
    → adv ≡ take (slice_index l 8) (drop 9 l)
    → c ≡ put (slice_set (slice_set s at (slice_index l 0)) (at + 1) (slice_index l 8)) (at + 2) adv
    → d ≡ put c (at + 2 + n) (replicate (most_data - n) 0)
    → d ≡ put s at (latest_of (packet_of l).event (packet_of l).adv)
unfolding packet_of
latest-written s l at n {c} {d} {adv} h f en ed e1 e2 =
    let k9 : length (drop 9 l) ≡ length l - 9 = length-drop 9 l in
    let la : length adv ≡ slice_index_or l 8 0 = ap (λ (z : List ℕ). length z) ed
    ∙ length-take-le (slice_index l 8) (drop 9 l) (omega arith) in
    let v : ℕ = slice_index_or l 0 0 in
    let k : ℕ = slice_index_or l 8 0 in
    let w3 : set s at v ≡ put s at (v ∷ []) = set-put s at v (omega arith) in
    let w4 : set (slice_set s at v) (at + 1) k ≡ put s at ((v ∷ []) ++ (k ∷ [])) =
    put-push s at (v ∷ []) k (omega arith) (omega arith) w3 in
    let w5 : c ≡ put s at ((v ∷ []) ++ (k ∷ []) ++ adv) =
    put_then s at ((v ∷ []) ++ (k ∷ [])) (at + 2) adv (omega arith) w4 (omega arith) e1 refl in
    let l5 : length ((v ∷ []) ++ (k ∷ []) ++ adv) ≡ 2 + length adv =
    length-append ((v ∷ []) ++ (k ∷ [])) adv ∙ omega arith in
    let z : List ℕ = replicate (most_data - length adv) 0 in
    let en2 : n ≡ length adv = en ∙ sym la in
    let w6 : d ≡ put s at ((v ∷ []) ++ (k ∷ []) ++ adv ++ z) =
    put_then s at ((v ∷ []) ++ (k ∷ []) ++ adv) (at + 2 + n) z (omega arith) w5 (omega arith)
    (e2 ∙ ap (λ (j : ℕ). put c (at + 2 + n) (replicate (most_data - j) 0)) en2) refl in
    w6 ∙ ap (put s at) (ap (λ (j : ℕ). v ∷ j ∷ (adv ++ z)) (sym la) ∙ ap (λ (m : List ℕ). latest_of v m) ed)

-- none: event type 0xFF, zeros
pub none_written : (s : List ℕ) (at : ℕ) {d : List ℕ} → at + latest_size ≤ length s
    → d ≡ put (slice_set s at 255) (at + 1) (replicate (latest_size - 1) 0) → d ≡ put s at (latest_of 255 [])
none_written s at {d} h e =
    put_then s at (255 ∷ []) (at + 1) (replicate (latest_size - 1) 0) (omega arith) (set-put s at 255 (omega arith))
    (omega arith) e refl

-- the writes of a window one after another: packets, sum, RSSI, the latest packet
pub window-written : (s l : List ℕ) (at : ℕ) {count sum x y u : ℕ} {a b d : List ℕ}
    → at + window_size ≤ length s → Framed l
    → count ≡ little 4 s at → sum ≡ little 8 s (at + 4)
    → x ≡ (count + 1) % 2 ^ 32 → u ≡ extended (slice_index l (length l - 1)) → y ≡ (sum + u) % 2 ^ 64
    → a ≡ put s at (octets_of 4 x) → b ≡ put a (at + 4) (octets_of 8 y)
    → d ≡ put (slice_set b (at + 12) (slice_index l (length l - 1))) (at + 13) (latest_of (packet_of l).event (packet_of l).adv)
    → d ≡ put s at (taken_by (packet_of l) s at)
unfolding taken_by packet_of
window-written s l at {count} {sum} {x} {y} {u} {a} {b} {d} h f ec es ex eu ey ea eb e1 =
    let c0 : ℕ = little 4 s at + 1 in
    let s0 : ℕ = add_rssi (little 8 s (at + 4)) (slice_index l (length l - 1)) in
    let xs : List ℕ = octets_of 4 c0 in
    let ys : List ℕ = octets_of 8 s0 in
    let lx : length xs ≡ 4 = length-octets 4 c0 in
    let ly : length ys ≡ 8 = length-octets 8 s0 in
    let lxy : length (xs ++ ys) ≡ 12 = length-append xs ys ∙ omega arith in
    let ox : octets_of 4 x ≡ xs =
    ap (octets_of 4) (ex ∙ ap (λ (z : ℕ). (z + 1) % 4294967296) ec) ∙ octets-mod 4 c0 in
    let oy : y ≡ s0 =
    ey ∙ ap (λ (z : ℕ). (sum + z) % 18446744073709551616) eu
    ∙ ap (λ (z : ℕ). (z + extended (slice_index l (length l - 1))) % 18446744073709551616) es
    ∙ sym (add-extended (little 8 s (at + 4)) (slice_index l (length l - 1))) in
    let w1 : a ≡ put s at xs = ea ∙ ap (put s at) ox in
    let w2 : b ≡ put s at (xs ++ ys) =
    put_then s at xs (at + 4) ys (omega arith) w1 (omega arith) (eb
    ∙ ap (λ (z : ℕ). put a (at + 4) (octets_of 8 z)) oy) refl in
    let o : ℕ = slice_index_or l (length l - 1) 0 in
    let m : List ℕ = latest_of (slice_index l 0) (take (slice_index l 8) (drop 9 l)) in
    let w2o : set b (at + 12) o ≡ put s at (xs ++ ys ++ (o ∷ [])) =
    put-push s at (xs ++ ys) o (omega arith) (omega arith) w2 in
    let l2o : length (xs ++ ys ++ (o ∷ [])) ≡ 13 = length-append (xs ++ ys) (o ∷ []) ∙ omega arith in
    let w3 : d ≡ put s at (xs ++ ys ++ (o ∷ []) ++ m) =
    put_then s at (xs ++ ys ++ (o ∷ [])) (at + 13) m (omega arith) w2o (omega arith) e1 refl in
    let g : xs ++ ys ++ (o ∷ []) ++ m ≡ xs ++ (ys ++ (o ∷ m)) = simp append_assoc in
    w3 ∙ ap (put s at) g

-- pair i's window takes the packet
pub gather-taken : (m : Model) (s : List ℕ) (i a : ℕ) (p : Packet) {t : List ℕ} → AtPair m s i → Sent p
    → (pair_at m i).packets < 4294967295 → a / 2 % 2 ≡ 1
    → t ≡ put s (pairs_at + pair_size * i + 11) (taken_by p s (pairs_at + pair_size * i + 11))
    → t ≡ padded (with_pair m i (collected a p (pair_at m i)))
unfolding taken_by
gather-taken m s i a p w x r h e =
    let z : pairs_at + pair_size * i + 11 + 4 ≡ pairs_at + pair_size * i + 15 = omega arith in
    gather-done m s i a p w x r h
    (e ∙ ap (λ (k : ℕ). put s (pairs_at + pair_size * i + 11)
    (window_of (little 4 s (pairs_at + pair_size * i + 11) + 1) (add_rssi
    (little 8 s k) p.rssi)
    p.rssi p.event p.adv)) z)
