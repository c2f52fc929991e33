-- The rows of a sound state stored in an empty block give the state's block. Document 01, The image. Assumes nothing.
use Prim.Native.Nat.{ℕ, suc, ◌+◌, ◌-◌, ◌*◌, ◌≤◌, ◌<◌}
use Rattle.std.specs.Prelude.{◌≡◌, refl, Bool, true, leb, drop, replicate}
use Rattle.std.proofs.Math.Path.{sym, ap}
use Rattle.std.proofs.Common.{◌∙◌, lt-ltb, eq-eqb, ne_eqb, take_at}
use mathlib.Core.List.{List, [], ◌∷◌, ◌++◌, append_assoc, append-nil, map}
use Rattle.std.proofs.Math.Option.{some}
use native.Mathlib.Omega.{arith}
use Rattle.std.proofs.Math.ListN.{length, take, get_or, length-append}
use Rattle.std.proofs.lemmas.List.{length-replicate, replicate-append-replicate}
use Rattle.laws.specs.TestsLaws.{pick_true}
use Rattle.laws.specs.Put.{put, put_if}
use Rattle.laws.specs.PutLaws.{put_of, put-left}
use Rattle.laws.specs.Loops.{each, up_to}
use Rattle.laws.specs.LoopsLaws.{every-nil}
use Rattle.octets.specs.Little.{is_octet}
use Rattle.model.proofs.AcceptedLaws.{accepted}
use Rattle.images.specs.FitsLaws.{MonitorFits, sound-fits, extra-most, monitor-octets}
use Rattle.laws.specs.Rows.{flat}
use Rattle.laws.specs.RowsLaws.{put_whole}
use Rattle.lines.specs.Hex.{text_of}
use Rattle.rule.specs.Base.{All}
use Rattle.rule.specs.BaseLaws.{all_append}
use Rattle.rule.specs.Engine.{find}
use Rattle.model.specs.Types.{Model, Monitor, Pair, with_lists}
use Rattle.model.specs.Sound.{sound_model}
use Rattle.model.specs.Image.{head_row, monitor_row, extra_text, monitor_text, pair_row, end_row, records, image_text}
use Rattle.model.specs.Block.{pad_to, monitor_place, monitor_block, pair_block, padded}
use Rattle.blocks.specs.LaidLaws.{empty-padded}
use Rattle.blocks.specs.RowsLaws.{length-head_row, length-monitor_row, length-pair_row, octets-cons}
use Rattle.blocks.specs.Facts.{SoundMonitors, SoundModel}
use Rattle.blocks.specs.FactsLaws.{sound-facts, monitors-tail}
use Rattle.blocks.specs.Bounds.{Fits}
use Rattle.blocks.specs.BoundsLaws.{pairs-fit, sound-head_row, fits-pair_row}
use Rattle.blocks.specs.Monitors.{Sized, Short, row_of}
use Rattle.blocks.specs.MonitorsLaws.{sound-sized, length-full, put-monitor_block}
use Rattle.blocks.specs.Block.{Measured}
use Rattle.blocks.specs.BlockLaws.{measured, get_d-count, length-head}
use Rattle.blocks.specs.UpdatesLaws.{put-monitors}
use Rattle.blocks.specs.EndsLaws.{add-pair}
use Rattle.restore.specs.LinesLaws.{monitor-own}
use Rattle.restore.specs.Lines.{stored, stored_monitor, stored_pair}
use Rattle.restore.specs.LinesLaws.{stored_all}
use Rattle.restore.specs.LinesLaws.{name-head, name-pair, name-other}
use Rattle.restore.specs.Rows.{Row}
use Rattle.restore.specs.SpreadLaws.{behind-name, name-of, line-stored}
use Rattle.model.specs.Layout.{block_size, body_size, count_at, data_at, handle_at, head_size, line_row, monitor_size, monitors_at, most_condition, most_data, most_monitors, most_pairs, most_prefix, pair_size, pairs_at}

-- A0 in an empty block
pub head-stored : (m : Model) → length m.prefix ≤ most_prefix
    → stored (replicate block_size 0) (pad_to line_row (0xA0 ∷ head_row m)) ≡ padded (with_lists m [] [])
head-stored m h =
    let n : length (head_row m) ≡ 8 + length m.prefix = length-head_row m in
    let l : List ℕ = pad_to line_row (0xA0 ∷ head_row m) in
    let k : length (pad_to head_size (head_row m)) ≡ head_size = length-head m h in
    sym (name-head (replicate block_size 0) l (name-of 0xA0 (head_row m)) refl)
    ∙ ap (λ (x : List ℕ). put (replicate block_size 0) 0 x)
    (behind-name 0xA0 head_size (head_row m) (omega arith) (omega arith))
    ∙ ap (λ (x : List ℕ). put x 0 (pad_to head_size (head_row m))) (sym (replicate-append-replicate head_size body_size 0))
    ∙ put-left (replicate head_size 0) (replicate body_size 0) 0 (pad_to head_size (head_row m)) (omega arith)
    ∙ ap (λ (x : List ℕ). x ++ replicate body_size 0)
    (put_whole (replicate head_size 0) (pad_to head_size (head_row m)) (sym k))
    ∙ sym (empty-padded m)

-- monitors by handle, one more behind the others
find-same : (l : List (ℕ × Monitor)) (h : ℕ) (n : Monitor) → All (λ y. y.0 < h) l
    → find (l ++ ((h, n) ∷ [])) h ≡ some n
find-same [] h n a = rw (eq-eqb h h refl)
find-same (y ∷ l) h n a =
    let b : y.0 < h = a.0 in
    rw (ne_eqb y.0 h (λ (e : y.0 ≡ h). omega arith)) (find-same l h n a.1)

find-other : (l : List (ℕ × Monitor)) (h g : ℕ) (n : Monitor) → (g ≡ h → ⊥) → find (l ++ ((h, n) ∷ [])) g ≡ find l g
find-other [] h g n d = rw (ne_eqb h g (λ e. d (sym e)))
find-other (y ∷ l) h g n d = rw (find-other l h g n d)

all-below : (k j : ℕ) (l : List (ℕ × Monitor)) → k ≤ j → All (λ y. y.0 < k) l → All (λ y. y.0 < j) l
all-below k j [] h a = tt
all-below k j (y ∷ l) h a = (omega (arith, a.0), all-below k j l h a.1)

monitor-own-row : (s : List ℕ) (x : ℕ × Monitor) → x.0 < most_monitors
    → stored_monitor s (row_of x.0 x.1) ≡ put s (monitors_at + monitor_size * x.0) (row_of x.0 x.1)
unfolding pad_to monitor_row
monitor-own-row s x b = sym (monitor-own s (row_of x.0 x.1) b refl)

pair-behind : (s r : List ℕ) (n : ℕ) → get_or s count_at 0 ≡ n → n < most_pairs
    → stored_pair s r ≡ put (put s (pairs_at + pair_size * n) r) count_at ((n + 1) ∷ [])
unfolding stored_pair
pair-behind s r n c b = rw c (pick_true _ s (lt-ltb n most_pairs b))

module _ (m : Model) where
  monitor-stored : (l : List (ℕ × Monitor)) (x : ℕ × Monitor) → Measured (with_lists m l []) → All (λ y. y.0 < x.0) l
      → x.0 < most_monitors → Sized x.1
      → stored (padded (with_lists m l [])) (pad_to line_row (monitor_text x)) ≡ padded (with_lists m (l ++ (x ∷ [])) [])
  unfolding with_lists monitor_place
  monitor-stored l x f a b c =
      let w : Model = with_lists m l [] in
      let r : List ℕ = row_of x.0 x.1 in
      let k : length r ≡ monitor_size = length-full x.0 x.1 c in
      let s : Short (l ++ (x ∷ [])) = all_append (λ y. Sized y.1) l (x ∷ []) f.short (c, tt) in
      let p : put (monitor_block l) (monitor_size * x.0) r ≡ monitor_block (l ++ (x ∷ [])) =
      rw (find-same l x.0 x.1 a) at (put-monitor_block l (l ++ (x ∷ [])) f.short s x.0 b
      (λ g d. find-other l x.0 g x.1 d)) in
      line-stored (padded w) x c
      ∙ monitor-own-row (padded w) x b
      ∙ put-monitors w f (l ++ (x ∷ [])) (monitor_size * x.0) r (omega arith) p

  monitors-stored : (l r : List (ℕ × Monitor)) (k : ℕ) → Measured (with_lists m l []) → All (λ y. y.0 < k) l
      → SoundMonitors k r
      → stored_all (padded (with_lists m l [])) (map monitor_text r)
      ≡ padded (with_lists m (l ++ r) [])
  unfolding stored_all with_lists
  monitors-stored l [] k f a s = ap (λ (x : List (ℕ × Monitor)). padded (with_lists m x [])) (sym (append-nil l))
  monitors-stored l (x ∷ r) k f a s =
      let h : k ≤ x.0 = s.handles.0.0 in
      let c : Sized x.1 = sound-sized x.1 s.monitors.0 in
      let b : All (λ y. y.0 < x.0) l = all-below k x.0 l h a in
      let d : All (λ y. y.0 < suc x.0) (l ++ (x ∷ [])) =
      all_append (λ y. y.0 < suc x.0) l (x ∷ []) (all-below k (suc x.0) l (omega arith) a) (omega arith, tt) in
      let g : Measured (with_lists m (l ++ (x ∷ [])) []) =
      record {
        prefix-most = f.prefix-most;
        short = all_append (λ y. Sized y.1) l (x ∷ []) f.short (c, tt);
        fit = tt;
        pairs-most = omega arith;
      } in
      ap (λ (t : List ℕ). stored_all t (map monitor_text r))
      (monitor-stored l x f b s.handles.0.1 c)
      ∙ monitors-stored (l ++ (x ∷ [])) r (suc x.0) g d (monitors-tail k x r s)
      ∙ ap (λ (y : List (ℕ × Monitor)). padded (with_lists m y [])) (append_assoc l (x ∷ []) r)

  -- pairs in start order, one more behind the others
  pair-stored : (l : List (ℕ × Monitor)) (ps : List Pair) (q : Pair) → Measured (with_lists m l ps) → Fits q
      → length ps < most_pairs
      → stored (padded (with_lists m l ps)) (pad_to line_row (0xA3 ∷ pair_row q)) ≡ padded (with_lists m l (ps ++ (q ∷ [])))
  unfolding with_lists
  pair-stored l ps q f g b =
      let w : Model = with_lists m l ps in
      let s : List ℕ = padded w in
      let r : List ℕ = pad_to pair_size (pair_row q) in
      let n : length (pair_row q) ≡ data_at + length q.adv = length-pair_row q g.address-length in
      let c : get_or s count_at 0 ≡ length ps = get_d-count w f in
      let k : length q.adv ≤ most_data = g.adv-most in
      let e : take pair_size (drop 1 (pad_to line_row (0xA3 ∷ pair_row q))) ≡ r =
      behind-name 0xA3 pair_size (pair_row q) (omega arith) (omega arith) in
      sym (name-pair s (pad_to line_row (0xA3 ∷ pair_row q)) (name-of 0xA3 (pair_row q)) refl)
      ∙ ap (stored_pair s) e
      ∙ pair-behind s r (length ps) c b
      ∙ add-pair w f q g b

  pairs-stored : (l : List (ℕ × Monitor)) (ps qs : List Pair) → Measured (with_lists m l ps) → All Fits qs
      → length ps + length qs ≤ most_pairs
      → stored_all (padded (with_lists m l ps)) (map (λ (q : Pair). 0xA3 ∷ pair_row q) qs)
      ≡ padded (with_lists m l (ps ++ qs))
  unfolding stored_all with_lists
  pairs-stored l ps [] f a b = ap (λ (x : List Pair). padded (with_lists m l x)) (sym (append-nil ps))
  pairs-stored l ps (q ∷ qs) f a b =
      let n : length (ps ++ (q ∷ [])) ≡ length ps + 1 = length-append ps (q ∷ []) in
      let g : Measured (with_lists m l (ps ++ (q ∷ []))) =
      record {
        prefix-most = f.prefix-most;
        short = f.short;
        fit = all_append Fits ps (q ∷ []) f.fit (a.0, tt);
        pairs-most = omega arith;
      } in
      ap (λ (t : List ℕ). stored_all t (map (λ (p : Pair). 0xA3 ∷ pair_row p) qs))
      (pair-stored l ps q f a.0 (omega arith))
      ∙ pairs-stored l (ps ++ (q ∷ [])) qs g a.1 (omega arith)
      ∙ ap (λ (x : List Pair). padded (with_lists m l x)) (append_assoc ps (q ∷ []) qs)

stored-append : (s : List ℕ) (rs ts : List (List ℕ)) → stored_all s (rs ++ ts) ≡ stored_all (stored_all s rs) ts
unfolding stored_all
stored-append s [] ts = refl
stored-append s (r ∷ rs) ts = stored-append (stored s (pad_to line_row r)) rs ts

end-stored : (s r : List ℕ) → stored_all s ((0xAF ∷ r) ∷ []) ≡ s
unfolding stored_all
end-stored s r =
    let e : get_or (pad_to line_row (0xAF ∷ r)) 0 0 ≡ 0xAF = name-of 0xAF r in
    sym (name-other s (pad_to line_row (0xAF ∷ r)) (λ (x : get_or (pad_to line_row (0xAF ∷ r)) 0 0 ≡ 0xA0). omega arith)
    (λ (x : get_or (pad_to line_row (0xAF ∷ r)) 0 0 ≡ 0xA1). omega arith)
    (λ (x : get_or (pad_to line_row (0xAF ∷ r)) 0 0 ≡ 0xA5). omega arith)
    (λ (x : get_or (pad_to line_row (0xAF ∷ r)) 0 0 ≡ 0xA3). omega arith))

-- The rows of a sound state, stored in an empty block one after another, give its block.
pub records-stored : (m : Model) → sound_model m ≡ true → stored_all (replicate block_size 0) (records m) ≡ padded m
unfolding records with_lists stored_all
records-stored m e =
    let f : SoundModel m = sound-facts m e in
    let g : Measured m = measured m e in
    let ms : List (List ℕ) = map monitor_text m.mons in
    let qs : List (List ℕ) = map (λ (q : Pair). 0xA3 ∷ pair_row q) m.pairs in
    let z : List (List ℕ) = (0xAF ∷ end_row m) ∷ [] in
    let a : Measured (with_lists m [] []) = record {
      prefix-most = g.prefix-most;
      short = tt;
      fit = tt;
      pairs-most =
          omega arith;
    } in
    let b : Measured (with_lists m m.mons []) =
    record { prefix-most = g.prefix-most; short = g.short; fit = tt; pairs-most = omega arith } in
    ap (λ (t : List ℕ). stored_all t (ms ++ (qs ++ z))) (head-stored m g.prefix-most)
    ∙ stored-append (padded (with_lists m [] [])) ms (qs ++ z)
    ∙ ap (λ (t : List ℕ). stored_all t (qs ++ z)) (monitors-stored m [] m.mons 0 a tt f.mons-sound)
    ∙ stored-append (padded (with_lists m m.mons [])) qs z
    ∙ ap (λ (t : List ℕ). stored_all t z) (pairs-stored m m.mons [] m.pairs b g.fit
    (omega (arith, g.pairs-most)))
    ∙ end-stored (padded m) (end_row m)

-- every row of a sound state is octets, at most 97 with its name

all_map : {A : Type 0} (P : A → Type 0) (f : A → List ℕ) (l : List A) → All P l → ((a : A) → P a → Row (f a))
    → All Row (map f l)
all_map P f [] p h = tt
all_map P f (a ∷ l) p h = (h a p.0, all_map P f l p.1 h)

monitor-row : (x : ℕ × Monitor) → MonitorFits x → Row (monitor_text x)
unfolding monitor_text
monitor-row x f =
    record {
      octets = monitor-octets x f;
      most = omega (
        arith,
        length-append (monitor_row x) (extra_text x.1.extra),
        length-monitor_row x,
        (accepted x.1 f.sound.accept).short,
        extra-most x.1.extra f.sound.extra-sound,
      );
    }

pair_row_lem : (q : Pair) → Fits q → Row (0xA3 ∷ pair_row q)
pair_row_lem q f =
    record {
      octets = octets-cons 0xA3 (pair_row q) (omega arith) (fits-pair_row q f);
      most = omega (arith, length-pair_row q f.address-length, f.adv-most);
    }

pub records-rows : (m : Model) → sound_model m ≡ true → All Row (records m)
unfolding records end_row
records-rows m e =
    let f : SoundModel m = sound-facts m e in
    let ms : List (List ℕ) = map monitor_text m.mons in
    let qs : List (List ℕ) = map (λ (q : Pair). 0xA3 ∷ pair_row q) m.pairs in
    let n : length m.mons ≤ most_monitors = (sound-fits m e).most-mons in
    let z : Row (0xAF ∷ end_row m) =
    record {
      octets = octets-cons 0xAF (end_row m) (omega arith)
          (octets-cons (length m.mons) (length m.pairs ∷ []) (omega arith)
          (octets-cons (length m.pairs) [] (omega (arith, f.pairs-most)) (every-nil is_octet)));
      most = omega arith;
    } in (
      record {
        octets = octets-cons 0xA0 (head_row m) (omega arith) (sound-head_row m f);
        most = omega (arith, length-head_row m, f.prefix-most);
      },
      all_append Row ms (qs ++ ((0xAF ∷ end_row m) ∷ []))
          (all_map MonitorFits monitor_text m.mons (sound-fits m e).mons monitor-row)
          (all_append Row qs ((0xAF ∷ end_row m) ∷ [])
          (all_map Fits (λ (q : Pair). 0xA3 ∷ pair_row q) m.pairs (pairs-fit m f) pair_row_lem)
          (z, tt)),
    )
