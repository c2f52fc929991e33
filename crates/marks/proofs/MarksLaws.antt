-- Laws of the definitions in Marks.
use Rattle.std.specs.Prelude.{ℕ, zero, suc, ◌+◌, ◌*◌, ◌/◌, ◌%◌, ◌≤◌, ◌<◌, ◌≡◌, Bool, false, ◌&&◌, List, [], ◌∷◌, length, drop, get_or, set}
use Rattle.std.proofs.Math.Path.{refl, ap}
use Rattle.std.proofs.Common.{sym, ◌∙◌, add-one, arith, length-append}
use Rattle.std.proofs.Math.Bool.{true}
use Rattle.std.proofs.Math.Option.{Option, none, some}
use Rattle.std.proofs.Math.Dec.{eqb}
use borrow.Author.Tests.{le-leb}
use Rattle.std.proofs.Math.ListN.{get_or-append}
use Rattle.std.proofs.lemmas.List.{get_or_at}
use Rattle.laws.specs.Tests.{pick}
use Rattle.laws.specs.TestsLaws.{pick_true, pick-false, cases-le}
use Rattle.laws.specs.Put.{put}
use Rattle.laws.specs.PutLaws.{put-push}
use Rattle.laws.specs.Loops.{up_to}
use Rattle.laws.specs.LoopsLaws.{up_to-more}
use Rattle.laws.specs.Rows.{row}
use Rattle.laws.specs.RowsLaws.{put_whole}
use Rattle.rule.specs.Engine.{find}
use Rattle.rule.proofs.FindsLaws.{find-all}
use Rattle.model.specs.Types.{Model, Monitor, Packet}
use Rattle.model.specs.Monitors.{allows, matches, good, sifts, strong, windowed}
use Rattle.model.specs.Block.{monitor_place, padded}
use Rattle.blocks.specs.Facts.{SoundMonitor, SoundModel}
use Rattle.blocks.specs.TablesLaws.{places_same}
use Rattle.blocks.specs.MonitorsLaws.{in_use-none, in_use-some, monitor_in-some}
use Rattle.blocks.specs.BlockLaws.{sound-measured, row-monitors}
use Rattle.model.specs.Layout.{monitor_size, monitors_at, most_monitors}
use Rattle.marks.specs.Marks.{matched, flag, refreshes, takes, opens, tells, sifted, allowed, keeps, bits, instant, mark_of, mark, mark_row, marks_at, marks}

pub flag-most : (t : Bool) → flag t ≤ 1
unfolding flag
flag-most true = omega arith
flag-most false = omega arith

flag_one : (t : Bool) → eqb (flag t) 1 ≡ t
unfolding flag
flag_one true = refl
flag_one false = refl

-- each test of an octet is the flag it was made with
module _ (a b c d e f : Bool) where
  pub bits_most : bits a b c d e f ≤ 127
  unfolding bits
  bits_most = omega (arith, flag-most a, flag-most b, flag-most c, flag-most d, flag-most e, flag-most f)

  bits-refreshes : refreshes (bits a b c d e f) ≡ a
  unfolding refreshes bits
  bits-refreshes =
      let q : (flag a + 2 * flag b + 4 * flag c + 8 * flag d + 16 * flag e + 32 * flag f + matched) % 2 ≡ flag a =
      omega (arith, flag-most a) in
      ap (λ (n : ℕ). eqb n 1) q ∙ flag_one a

  bits-takes : takes (bits a b c d e f) ≡ b
  unfolding takes bits
  bits-takes =
      let q : (flag a + 2 * flag b + 4 * flag c + 8 * flag d + 16 * flag e + 32 * flag f + matched) / 2 % 2 ≡ flag b =
      omega (arith, flag-most a, flag-most b) in
      ap (λ (n : ℕ). eqb n 1) q ∙ flag_one b

  bits-opens : opens (bits a b c d e f) ≡ c
  unfolding opens bits
  bits-opens =
      let q : (flag a + 2 * flag b + 4 * flag c + 8 * flag d + 16 * flag e + 32 * flag f + matched) / 4 % 2 ≡ flag c =
      omega (arith, flag-most a, flag-most b, flag-most c) in
      ap (λ (n : ℕ). eqb n 1) q ∙ flag_one c

  bits-tells : tells (bits a b c d e f) ≡ d
  unfolding tells bits
  bits-tells =
      let q : (flag a + 2 * flag b + 4 * flag c + 8 * flag d + 16 * flag e + 32 * flag f + matched) / 8 % 2 ≡ flag d =
      omega (arith, flag-most a, flag-most b, flag-most c, flag-most d) in
      ap (λ (n : ℕ). eqb n 1) q ∙ flag_one d

  bits-sifted : sifted (bits a b c d e f) ≡ e
  unfolding sifted bits
  bits-sifted =
      let q : (flag a + 2 * flag b + 4 * flag c + 8 * flag d + 16 * flag e + 32 * flag f + matched) / 16 % 2 ≡ flag e =
      omega (arith, flag-most a, flag-most b, flag-most c, flag-most d, flag-most e) in
      ap (λ (n : ℕ). eqb n 1) q ∙ flag_one e

  bits-allowed : allowed (bits a b c d e f) ≡ f
  unfolding allowed bits
  bits-allowed =
      let q : (flag a + 2 * flag b + 4 * flag c + 8 * flag d + 16 * flag e + 32 * flag f + matched) / 32 % 2 ≡ flag f =
      omega (arith, flag-most a, flag-most b, flag-most c, flag-most d, flag-most e, flag-most f) in
      ap (λ (n : ℕ). eqb n 1) q ∙ flag_one f

  bits-keeps : keeps (bits a b c d e f) ≡ true
  unfolding keeps bits
  bits-keeps = le-leb matched (flag a + 2 * flag b + 4 * flag c + 8 * flag d + 16 * flag e + 32 * flag f + matched)
      (omega arith)

-- a test of a monitor's octet: the packet matches, and the test of the model holds
and-true : (t : Bool) → (t && true) ≡ t
and-true true = refl
and-true false = refl

at-match : (f : ℕ → Bool) (t b : Bool) (n : ℕ) → f 0 ≡ false → f n ≡ b → f (pick t n 0) ≡ (t && b)
unfolding pick
at-match f true b n z e = e
at-match f false b n z e = z

module _ (m : Monitor) (p : Packet) where
  pub mark-refreshes : refreshes (mark_of m p) ≡ (matches m p && good m p)
  unfolding mark_of refreshes
  mark-refreshes =
      at-match refreshes (matches m p) (good m p) _ refl
      (bits-refreshes (good m p) (windowed m) (strong m p) (instant m p) (sifts m) (allows m p.event))

  pub mark-takes : takes (mark_of m p) ≡ (matches m p && windowed m)
  unfolding mark_of takes
  mark-takes =
      at-match takes (matches m p) (windowed m) _ refl
      (bits-takes (good m p) (windowed m) (strong m p) (instant m p) (sifts m) (allows m p.event))

  pub mark-opens : opens (mark_of m p) ≡ (matches m p && strong m p)
  unfolding mark_of opens
  mark-opens =
      at-match opens (matches m p) (strong m p) _ refl
      (bits-opens (good m p) (windowed m) (strong m p) (instant m p) (sifts m) (allows m p.event))

  pub mark-tells : tells (mark_of m p) ≡ (matches m p && instant m p)
  unfolding mark_of tells
  mark-tells =
      at-match tells (matches m p) (instant m p) _ refl
      (bits-tells (good m p) (windowed m) (strong m p) (instant m p) (sifts m) (allows m p.event))

  pub mark-sifted : sifted (mark_of m p) ≡ (matches m p && sifts m)
  unfolding mark_of sifted
  mark-sifted =
      at-match sifted (matches m p) (sifts m) _ refl
      (bits-sifted (good m p) (windowed m) (strong m p) (instant m p) (sifts m) (allows m p.event))

  pub mark-allowed : allowed (mark_of m p) ≡ (matches m p && allows m p.event)
  unfolding mark_of allowed
  mark-allowed =
      at-match allowed (matches m p) (allows m p.event) _ refl
      (bits-allowed (good m p) (windowed m) (strong m p) (instant m p) (sifts m) (allows m p.event))

  pub mark-keeps : keeps (mark_of m p) ≡ matches m p
  unfolding mark_of keeps
  mark-keeps =
      at-match keeps (matches m p) true _ refl
      (bits-keeps (good m p) (windowed m) (strong m p) (instant m p) (sifts m) (allows m p.event))
      ∙ and-true (matches m p)

-- the octet of a row is that of the handle's monitor
pub mark-place : (h : ℕ) (o : Option Monitor) (p : Packet) → ((m : Monitor) → o ≡ some m → SoundMonitor m)
    → mark_row (monitor_place h o) p ≡ mark o p
unfolding mark_row mark
mark-place h none p s = pick-false _ 0 (in_use-none h)
mark-place h (some m) p s =
    pick_true _ 0 (in_use-some h m (s m refl))
    ∙ ap (λ (x : ℕ × Monitor). mark_of x.1 p) (monitor_in-some h m (s m refl))

-- the octets of a sound block are those of its monitors
pub marks-padded : (m : Model) (p : Packet) → SoundModel m → marks_at (padded m) p ≡ marks m.mons p
unfolding marks_at marks
marks-padded m p f = places_same _ _ most_monitors at
  where
    at : (h : ℕ) → h < most_monitors
        → mark_row (row monitor_size h (drop monitors_at (padded m))) p ∷ [] ≡ mark (find m.mons h) p ∷ []
    at h b =
        ap (λ (n : ℕ). n ∷ []) (ap (λ (r : List ℕ). mark_row r p) (row-monitors m (sound-measured m f) h b)
        ∙ mark-place h (find m.mons h) p
        (λ n e. find-all (λ x. SoundMonitor x.1) m.mons h n f.mons-sound.monitors e))

-- reading them
pub length-singles : (f : ℕ → ℕ) (k : ℕ) → length (up_to (λ h. f h ∷ []) k) ≡ k
unfolding up_to
length-singles f zero = refl
length-singles f (suc k) =
    length-append (up_to (λ h. f h ∷ []) k) (f k ∷ []) ∙ ap (λ (n : ℕ). n + 1) (length-singles f k) ∙ add-one k

pub get_d-singles : (f : ℕ → ℕ) (k i : ℕ) → i < k → get_or (up_to (λ h. f h ∷ []) k) i 0 ≡ f i
unfolding up_to
get_d-singles f zero i h = absurd (omega arith)
get_d-singles f (suc k) i h =
    let n : length (up_to (λ h. f h ∷ []) k) ≡ k = length-singles f k in
    cases-le k i
    (λ (u : k ≤ i).
    let e : i ≡ k = omega arith in
    rw e (get_or_at (up_to (λ h. f h ∷ []) k) (f k) [] 0 k n))
    (λ (u : i < k). get_or-append (up_to (λ h. f h ∷ []) k) (f k ∷ []) 0 i (omega arith) ∙ get_d-singles f k i u)

pub get_d-marks : (mons : List (ℕ × Monitor)) (p : Packet) (h : ℕ) → h < most_monitors
    → get_or (marks mons p) h 0 ≡ mark (find mons h) p
unfolding marks
get_d-marks mons p h b = get_d-singles (λ h. mark (find mons h) p) most_monitors h b

pub length-marks_at : (s : List ℕ) (p : Packet) → length (marks_at s p) ≡ most_monitors
unfolding marks_at
length-marks_at s p = length-singles (λ h. mark_row (row monitor_size h (drop monitors_at s)) p) most_monitors

-- a turn of the loop that writes them, and its end
pub marks-turn : (f : ℕ → ℕ) (l : List ℕ) (h : ℕ) {m : List ℕ} → length l ≡ most_monitors → h < most_monitors
    → m ≡ put l 0 (up_to (λ h. f h ∷ []) h) → set m h (f h) ≡ put l 0 (up_to (λ h. f h ∷ []) (h + 1))
marks-turn f l h n b e =
    let k : length (up_to (λ h. f h ∷ []) h) ≡ h = length-singles f h in
    rw (up_to-more (λ h. f h ∷ []) h) (put-push l 0 (up_to (λ h. f h ∷ []) h) (f h) (omega arith) (omega arith) e)

pub marks-end : (s : List ℕ) (p : Packet) (l : List ℕ) → length l ≡ most_monitors → put l 0 (marks_at s p) ≡ marks_at s p
marks-end s p l n = put_whole l (marks_at s p) (n ∙ sym (length-marks_at s p))
