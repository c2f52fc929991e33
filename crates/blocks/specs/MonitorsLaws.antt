-- Laws of the definitions in Monitors.
use Rattle.std.specs.Prelude.{ℕ, zero, suc, ◌+◌, ◌-◌, ◌*◌, ◌%◌, ◌≤◌, ◌<◌, ◌≡◌, refl, Bool, true, false, not, ◌&&◌, List, [], ◌∷◌, ◌++◌, map, leb, eqb, length, take, drop, get_or, replicate}
use Rattle.std.proofs.Common.{sym, ap, ◌∙◌, append_assoc, arith, length-append, drop_at, take_all, eqb-true, eq-eqb, ne_eqb}
use Rattle.std.proofs.lemmas.Bool.{false≢true}
use Rattle.std.proofs.Math.Option.{Option, none, some}
use Rattle.laws.specs.Tests.{pick}
use Rattle.laws.specs.TestsLaws.{and_left, and_right, cases-le}
use Rattle.laws.specs.Put.{put}
use Rattle.laws.specs.Loops.{every, keep, only, up_to}
use Rattle.laws.specs.Rows.{row, rows}
use Rattle.octets.specs.Little.{is_octet}
use Rattle.rule.specs.Base.{All}
use Rattle.rule.specs.Engine.{find, insert, remove}
use Rattle.rule.proofs.FindsLaws.{find-all, find-above, find-insert-same, find-insert-other, find-remove-same}
use Rattle.rule.proofs.FindsLaws.{find-remove-other, all_insert, all_remove}
use Rattle.model.specs.Types.{Monitor}
use Rattle.model.proofs.AcceptedLaws.{Accepted, accepted}
use Rattle.model.specs.Monitors.{accepts, allowed, no_key, no_option, options, parameters, parameters_of, peer_type, sampled_sifting, two_devices}
use Rattle.model.specs.Sound.{sound_extra}
use Rattle.model.specs.Image.{monitor_row, extra_in, monitor_from, monitor_in}
use Rattle.model.specs.Block.{pad_to, extra_row, monitor_place, monitor_block, in_use}
use Rattle.blocks.specs.RowsLaws.{length-monitor_row, length-pad_to, monitor_from-row, pad_to-octets, octets-zeros}
use Rattle.blocks.specs.RowsLaws.{octets-append}
use Rattle.blocks.specs.Facts.{SoundMonitor, SoundMonitors}
use Rattle.blocks.specs.FactsLaws.{monitors-tail, monitors-from, monitors-over}
use Rattle.blocks.specs.BoundsLaws.{sound-monitor_row}
use Rattle.blocks.specs.TablesLaws.{from, length-places, row-places, rows-places, put-places}
use Rattle.model.specs.Layout.{extra_at, extra_size, monitor_size, monitors_size, most_monitors}
use Rattle.blocks.specs.Monitors.{Sized, Short, row_of}

extra-length : (o : Option (List ℕ)) → sound_extra o ≡ true → length (extra_row o) ≡ extra_size
unfolding sound_extra extra_row
extra-length none e = refl
extra-length (some l) e = eqb-true (length l) extra_size (and_left (eqb (length l) extra_size) (every is_octet l) e)

pub sound-sized : (m : Monitor) → SoundMonitor m → Sized m
sound-sized m f = record { short = (accepted m f.accept).short; extra = extra-length m.extra f.extra-sound }

short-of : (l : List (ℕ × Monitor)) → All (λ x. SoundMonitor x.1) l → Short l
short-of [] a = tt
short-of (x ∷ l) a = (sound-sized x.1 a.0, short-of l a.1)

pub mons-short : (k : ℕ) (l : List (ℕ × Monitor)) → SoundMonitors k l → Short l
mons-short k l f = short-of l f.monitors

-- the row of a handle
abbrev pub place_in : List (ℕ × Monitor) → ℕ → List ℕ
place_in l h = monitor_place h (find l h)

pub length_fields : (x : ℕ × Monitor) → Sized x.1 → length (pad_to extra_at (monitor_row x)) ≡ extra_at
length_fields x s = let n = length-monitor_row x in length-pad_to extra_at (monitor_row x) (omega (arith, s.short))

pub length-full : (h : ℕ) (m : Monitor) → Sized m → length (row_of h m) ≡ monitor_size
length-full h m s =
    let n = length_fields (h, m) s in
    length-append (pad_to extra_at (monitor_row (h, m))) (extra_row m.extra) ∙ omega (arith, s.extra)

pub length-place : (l : List (ℕ × Monitor)) → Short l → (h : ℕ) → length (place_in l h) ≡ monitor_size
unfolding monitor_place
length-place l s h = go (find l h) refl
  where
    go : (o : Option Monitor) → find l h ≡ o → length (monitor_place h o) ≡ monitor_size
    go none e = refl
    go (some m) e = length-full h m (find-all (λ x. Sized x.1) l h m s e)

-- the table: 16 rows, the row of handle h at place h
pub length-monitor_block : (l : List (ℕ × Monitor)) → Short l → length (monitor_block l) ≡ monitors_size
unfolding monitor_block
length-monitor_block l s = length-places (place_in l) monitor_size (length-place l s) most_monitors

pub row-monitor_block : (l : List (ℕ × Monitor)) → Short l → (t : List ℕ) (h : ℕ) → h < most_monitors
    → row monitor_size h (monitor_block l ++ t) ≡ monitor_place h (find l h)
unfolding monitor_block
row-monitor_block l s t h b = row-places (place_in l) monitor_size (length-place l s) most_monitors t h b

pub rows-monitor_block : (l : List (ℕ × Monitor)) → Short l → (t : List ℕ)
    → rows monitor_size most_monitors (monitor_block l ++ t) ≡ from (λ h. monitor_place h (find l h)) 0 most_monitors
unfolding monitor_block
rows-monitor_block l s t = rows-places (place_in l) monitor_size (length-place l s) most_monitors t

-- a row is in use exactly where a monitor stands in it
pub in_use-none : (h : ℕ) → in_use (monitor_place h none) ≡ false
unfolding in_use monitor_place
in_use-none h = refl

pub in_use-some : (h : ℕ) (m : Monitor) → SoundMonitor m → in_use (monitor_place h (some m)) ≡ true
unfolding in_use monitor_place pad_to monitor_row
in_use-some h m f =
    let a : Accepted m = accepted m f.accept in
    ap not (ne_eqb m.interval 0 (λ (e : m.interval ≡ 0). omega (arith, a.interval-least)))

-- the added parameters are read from their octets: Monitor_options is not 0 in version 2, which forbids it
read-added : (l : List ℕ) → not (no_option l) ≡ true → extra_in l ≡ some l
unfolding extra_in no_option options pick
read-added l e = go (get_or l 0 0) (eqb (get_or l 0 0) 0) refl e
  where
    go : (o : ℕ) (t : Bool) → eqb o 0 ≡ t → not (eqb (o % 64) 0) ≡ true → pick t none (some l) ≡ some l
    go o true z x = absurd (false≢true (rw (eqb-true o 0 z) at x))
    go o false z x = refl

option-of : (a : List ℕ) (sampling kind : ℕ) → allowed a sampling kind ≡ true → not (no_option a) ≡ true
unfolding allowed
option-of a sampling kind e =
    let n = not (no_option a) in
    let k = not (no_key a) in
    let d = not (two_devices a kind) in
    let s = not (sampled_sifting a sampling) in
    and_left n k (and_left (n && k) d (and_left (n && k && d) s (and_left (n && k && d && s) (leb (peer_type a) 1) e)))

none_read : extra_in (replicate extra_size 0) ≡ none
unfolding extra_in pick
none_read = refl

extra-read : (o : Option (List ℕ)) (sampling kind : ℕ) → allowed (parameters_of o) sampling kind ≡ true
    → extra_in (extra_row o) ≡ o
unfolding extra_row parameters_of
extra-read none sampling kind e = none_read
extra-read (some l) sampling kind e = read-added l (option-of l sampling kind e)

pub monitor-extra : (m : Monitor) → accepts m ≡ true → extra_in (extra_row m.extra) ≡ m.extra
unfolding parameters
monitor-extra m e = extra-read m.extra m.sampling m.condition_type (accepted m e).permitted

-- the part of a row behind the condition's room
pub drop-fields : (h : ℕ) (m : Monitor) → Sized m → take extra_size (drop extra_at (row_of h m)) ≡ extra_row m.extra
drop-fields h m s =
    ap (λ (l : List ℕ). take extra_size l)
    (drop_at (pad_to extra_at (monitor_row (h, m))) (extra_row m.extra) extra_at (length_fields (h, m) s))
    ∙ take_all extra_size (extra_row m.extra) (omega (arith, s.extra))

pub monitor_in-some : (h : ℕ) (m : Monitor) → SoundMonitor m → monitor_in (monitor_place h (some m)) ≡ (h, m)
unfolding monitor_place monitor_in pad_to
monitor_in-some h m f =
    let z : List ℕ = replicate (extra_at - length (monitor_row (h, m))) 0 in
    let a : List ℕ = take extra_size (drop extra_at (row_of h m)) in
    ap (λ (r : List ℕ). monitor_from r a) (append_assoc (monitor_row (h, m)) z (extra_row m.extra))
    ∙ monitor_from-row (h, m) (z ++ extra_row m.extra) a
    (ap extra_in (drop-fields h m (sound-sized m f)) ∙ monitor-extra m f.accept)

-- the monitors read from the rows of handles k on
read-from : (l : List (ℕ × Monitor)) (n k : ℕ) (r : List (ℕ × Monitor)) → k + n ≡ most_monitors → SoundMonitors k r
    → ((h : ℕ) → k ≤ h → find l h ≡ find r h)
    → map monitor_in (keep in_use (from (λ h. monitor_place h (find l h)) k n)) ≡ r
unfolding from keep only
read-from l zero k [] e f q = refl
read-from l zero k (x ∷ r) e f q = absurd (omega (arith, f.handles.0.0, f.handles.0.1))
read-from l (suc n) k [] e f q =
    rw (q k (omega arith), in_use-none k)
    (read-from l n (suc k) [] (omega arith) (record { rising = tt; handles = tt; monitors = tt })
    (λ h b. q h (omega arith)))
read-from l (suc n) k (x ∷ r) e f q =
    cases-le x.0 k (λ (u : x.0 ≤ k). here (omega (arith, f.handles.0.0))
    (λ (i : k ≡ x.0). read-from l n (suc k) r (omega arith) (tail i) (later i)))
    (λ (u : k < x.0). above u
    (read-from l n (suc k) (x ∷ r) (omega arith) (monitors-from k (suc k) x r u f) (λ h b. q h (omega arith))))
  where
    tail : k ≡ x.0 → SoundMonitors (suc k) r
    tail i = rw i (monitors-tail k x r f)

    later : k ≡ x.0 → (h : ℕ) → suc k ≤ h → find l h ≡ find r h
    later i h b = q h (omega arith) ∙ rw (ne_eqb x.0 h (λ (j : x.0 ≡ h). omega arith))

    here : k ≡ x.0 → (k ≡ x.0 → map monitor_in (keep in_use (from (λ h. monitor_place h (find l h)) (suc k) n)) ≡ r)
        → map monitor_in (keep in_use (from (λ h. monitor_place h (find l h)) k (suc n))) ≡ x ∷ r
    here i ih =
        let s : find l k ≡ some x.1 = q k (omega arith) ∙ rw (eq-eqb x.0 k (sym i)) in
        rw (s, in_use-some k x.1 f.monitors.0, monitor_in-some k x.1 f.monitors.0, ih i, i)

    above : k < x.0 → map monitor_in (keep in_use (from (λ h. monitor_place h (find l h)) (suc k) n)) ≡ x ∷ r
        → map monitor_in (keep in_use (from (λ h. monitor_place h (find l h)) k (suc n))) ≡ x ∷ r
    above u ih =
        let s : find l k ≡ none =
        q k (omega arith) ∙ find-above (x ∷ r) k (monitors-over k (x ∷ r) (monitors-from k (suc k) x r u f)) in
        rw (s, in_use-none k) ih

-- the monitors read from the table are those that it was written from
pub monitors-read : (l : List (ℕ × Monitor)) → SoundMonitors 0 l → (t : List ℕ)
    → map monitor_in (keep in_use (rows monitor_size most_monitors (monitor_block l ++ t))) ≡ l
monitors-read l f t = rw (rows-monitor_block l (mons-short 0 l f) t) (read-from l most_monitors 0 l refl f (λ h b. refl))

-- the table is octets
every-places : (f : ℕ → List ℕ) (k : ℕ) → ((i : ℕ) → i < k → every is_octet (f i) ≡ true)
    → every is_octet (up_to f k) ≡ true
unfolding up_to every
every-places f zero h = refl
every-places f (suc k) h =
    octets-append (up_to f k) (f k) (every-places f k (λ i b. h i (omega arith))) (h k (omega arith))

extra-octets : (o : Option (List ℕ)) → sound_extra o ≡ true → every is_octet (extra_row o) ≡ true
unfolding sound_extra extra_row
extra-octets none e = octets-zeros extra_size
extra-octets (some l) e = and_right (eqb (length l) extra_size) (every is_octet l) e

pub monitor_block-octets : (l : List (ℕ × Monitor)) → SoundMonitors 0 l → every is_octet (monitor_block l) ≡ true
unfolding monitor_block monitor_place
monitor_block-octets l f = every-places (place_in l) most_monitors (λ h b. go h b (find l h) refl)
  where
    go : (h : ℕ) → h < most_monitors → (o : Option Monitor) → find l h ≡ o → every is_octet (monitor_place h o) ≡ true
    go h b none e = octets-zeros monitor_size
    go h b (some m) e =
        let s : SoundMonitor m = find-all (λ x. SoundMonitor x.1) l h m f.monitors e in
        octets-append (pad_to extra_at (monitor_row (h, m))) (extra_row m.extra)
        (pad_to-octets extra_at (monitor_row (h, m)) (sound-monitor_row (h, m) (omega arith) s))
        (extra-octets m.extra s.extra-sound)

-- a row written in the table: the table of other monitors, where these agree at every other handle
pub put-monitor_block : (l r : List (ℕ × Monitor)) → Short l → Short r → (h : ℕ) → h < most_monitors
    → ((g : ℕ) → (g ≡ h → ⊥) → find r g ≡ find l g)
    → put (monitor_block l) (monitor_size * h) (monitor_place h (find r h)) ≡ monitor_block r
unfolding monitor_block
put-monitor_block l r s t h b q =
    put-places (place_in l) (place_in r) monitor_size (length-place l s) most_monitors h b (length-place r t h)
    (λ j c n. ap (monitor_place j) (sym (q j n)))

-- a monitor's row written, and a row cleared
pub put-insert : (l : List (ℕ × Monitor)) → Short l → (h : ℕ) (x : Monitor) → h < most_monitors → Sized x
    → find l h ≡ none
    → put (monitor_block l) (monitor_size * h) (row_of h x) ≡ monitor_block (insert h x l)
unfolding monitor_place
put-insert l s h x b c e =
    rw (find-insert-same h x l e) at (
    put-monitor_block l (insert h x l) s (all_insert (λ y. Sized y.1) h x l c s) h b
    (λ g n. find-insert-other h g x l (λ i. n (sym i))))

pub put-remove : (l : List (ℕ × Monitor)) → Short l → (h : ℕ) → h < most_monitors
    → put (monitor_block l) (monitor_size * h) (replicate monitor_size 0) ≡ monitor_block (remove h l)
unfolding monitor_place
put-remove l s h b =
    rw (find-remove-same h l) at (
    put-monitor_block l (remove h l) s (all_remove (λ y. Sized y.1) h l s) h b
    (λ g n. find-remove-other h g l (λ i. n (sym i))))
