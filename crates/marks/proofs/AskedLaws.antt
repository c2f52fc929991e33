-- Laws of the definitions in Asked.
use Rattle.std.specs.Prelude.{ℕ, ◌+◌, ◌*◌, ◌≤◌, ◌<◌, ◌≡◌, refl, Bool, false, ◌&&◌, ◌||◌, not, List, [], ◌∷◌, leb, ltb, eqb, length, drop, get_or, replicate}
use Rattle.std.proofs.Common.{sym, ap, ◌∙◌, arith, eq-eqb, ne_eqb, leb-true, leb-false, lt-ltb, le-ltb}
use Rattle.std.proofs.Math.Bool.{true}
use Rattle.std.proofs.lemmas.Bool.{false≢true}
use Rattle.std.specs.Int.Signed.{le_z}
use Rattle.laws.specs.Tests.{pick}
use Rattle.laws.specs.TestsLaws.{pick_true, pick-false, and_right, and_both, and-not-left, and-not-right}
use Rattle.laws.specs.Loops.{every, up_to}
use Rattle.laws.specs.LoopsLaws.{every-at}
use Rattle.laws.specs.Rows.{row}
use Rattle.laws.specs.RowsLaws.{put_whole}
use Rattle.laws.specs.Put.{put}
use Rattle.parts.specs.Parts.{is_zero}
use Rattle.rule.specs.Engine.{find}
use Rattle.blocks.specs.TablesLaws.{places_same}
use Rattle.blocks.specs.Facts.{SoundModel}
use Rattle.model.specs.Level.{level, d_bm}
use Rattle.model.proofs.LevelsLaws.{most-levels}
use Rattle.model.specs.Types.{Model, Packet}
use Rattle.model.specs.Frames.{packet_of}
use Rattle.model.specs.Monitors.{matches, strong}
use Rattle.model.specs.Image.{monitor_from, monitor_in}
use Rattle.model.specs.Block.{in_use, padded}
use Rattle.marks.specs.Marks.{flag, opens, mark, mark_of, mark_row, marks_at}
use Rattle.marks.proofs.MarksLaws.{mark-opens, marks-padded, get_d-marks, length-singles, get_d-singles}
use Rattle.marks.specs.Fields.{Framed, fits_for}
use Rattle.marks.proofs.FieldsLaws.{facts-fits}
use Rattle.marks.proofs.MonitorsLaws.{row_field}
use Rattle.model.specs.Layout.{block_size, high_at, monitor_size, monitors_at, most_monitors}
use Rattle.marks.specs.Asked.{mark_if, spared, marks_for, reach_of, ask_at, asked_of, held_fit, marked_for}

unfoldable pub marks_if : List ℕ → List ℕ → Packet → List ℕ
marks_if asked s p =
    up_to (λ h. mark_if (get_or asked h 0) (mark_row (row monitor_size h (drop monitors_at s)) p) ∷ []) most_monitors

-- a monitor that is not asked would start nothing, and one that is asked says what it says
row_opens : (r : List ℕ) (p : Packet) → opens (mark_row r p) ≡ true → strong (monitor_in r).1 p ≡ true
unfolding mark_row opens pick
row_opens r p = go (in_use r)
  where
    go : (t : Bool) → opens (pick t (mark_of (monitor_in r).1 p) 0) ≡ true → strong (monitor_in r).1 p ≡ true
    go true e = and_right (matches (monitor_in r).1 p) _ (sym (mark-opens (monitor_in r).1 p) ∙ e)
    go false e = absurd (false≢true e)

row-weak : (r : List ℕ) (p : Packet) → strong (monitor_in r).1 p ≡ true → opens (mark_row r p) ≡ false → mark_row r p ≡ 0
unfolding mark_row mark_of opens pick
row-weak r p s = go (in_use r)
  where
    no : (m : Bool) → (m && strong (monitor_in r).1 p) ≡ false → m ≡ false
    no false e = refl
    no true e = absurd (false≢true (sym e ∙ s))

    go : (t : Bool) → opens (pick t (mark_of (monitor_in r).1 p) 0) ≡ false → pick t (mark_of (monitor_in r).1 p) 0 ≡ 0
    go true e = pick-false _ 0 (no (matches (monitor_in r).1 p) (sym (mark-opens (monitor_in r).1 p) ∙ e))
    go false e = refl

sparing : (may w s : Bool) (a : ℕ) → (opens a ≡ true → s ≡ true) → (s ≡ true → opens a ≡ false → a ≡ 0)
    → pick (eqb (flag (w || (may && s))) 0) 0 a ≡ pick (w || (may && opens a)) a 0
unfolding pick flag
sparing may true s a f g = refl
sparing false false s a f g = refl
sparing true false true a f g = go (opens a) refl
  where
    go : (t : Bool) → opens a ≡ t → a ≡ pick t a 0
    go true e = refl
    go false e = g refl e
sparing true false false a f g = go (opens a) refl
  where
    go : (t : Bool) → opens a ≡ t → 0 ≡ pick t a 0
    go true e = absurd (false≢true (f e))
    go false e = refl

-- a level is reached where a pair may start and the packet's is not below it
reaches : (may : Bool) (x l : ℕ) → ltb x (reach_of may l) ≡ (may && leb x l)
unfolding reach_of pick
reaches false x l = le-ltb x 0 (omega arith)
reaches true x l = go (leb x l) refl
  where
    go : (t : Bool) → leb x l ≡ t → ltb x (l + 1) ≡ t
    go true e = lt-ltb x (l + 1) (let h : x ≤ l = leb-true x l e in omega arith)
    go false e = le-ltb x (l + 1) (let h : l < x = leb-false x l e in omega arith)

-- the octets of the handles that are asked are those that can matter
pub asked-for : (may : Bool) (held s : List ℕ) (p : Packet)
    → marks_if (asked_of held s (reach_of may (level p.rssi))) s p ≡ marks_for may held s p
unfolding marks_if marks_for mark_if spared asked_of ask_at strong monitor_in monitor_from
asked-for may held s p = places_same _ _ most_monitors (λ h b. ap (λ (n : ℕ). n ∷ []) (at h b))
  where
    r : ℕ
    r = reach_of may (level p.rssi)

    at : (h : ℕ) → h < most_monitors
        → mark_if (get_or (asked_of held s r) h 0) (mark_row (row monitor_size h (drop monitors_at s)) p)
        ≡ spared may (get_or held h 0) (mark_row (row monitor_size h (drop monitors_at s)) p)
    at h b =
        let o : List ℕ = row monitor_size h (drop monitors_at s) in
        let k : Bool = not (eqb (get_or held h 0) 0) in
        let high : ℕ = get_or s (monitors_at + monitor_size * h + high_at) 0 in
        let x : leb (level high) (level p.rssi) ≡ strong (monitor_in o).1 p =
        sym (ap (λ (o : ℕ). le_z (d_bm o) (d_bm p.rssi)) (row_field s h high_at (omega arith))
        ∙ most-levels high p.rssi) in
        let y : ltb (level high) r ≡ (may && strong (monitor_in o).1 p) =
        reaches may (level high) (level p.rssi) ∙ ap (λ (t : Bool). may && t) x in
        ap (λ (n : ℕ). pick (eqb n 0) 0 (mark_row o p))
        (get_d-singles (λ h. ask_at s h (get_or held h 0) r) most_monitors h b ∙ ap (λ (t : Bool). flag (k || t)) y)
        ∙ sparing may k (strong (monitor_in o).1 p) (mark_row o p) (row_opens o p) (row-weak o p)

-- one of them
pub ask-is : (held s : List ℕ) (reach h : ℕ) → h < most_monitors
    → get_or (asked_of held s reach) h 0 ≡ ask_at s h (get_or held h 0) reach
unfolding asked_of
ask-is held s reach h b = get_d-singles (λ j. ask_at s j (get_or held j 0) reach) most_monitors h b

pub ask-said : (held s : List ℕ) (reach h : ℕ) {x : ℕ} → h < most_monitors → x ≡ ask_at s h (get_or held h 0) reach
    → x ≡ get_or (asked_of held s reach) h 0
ask-said held s reach h b e = e ∙ sym (ask-is held s reach h b)

-- all handles asked
pub all_asked : (held s : List ℕ) (reach : ℕ) (p : Packet) → ((h : ℕ) → h < most_monitors → get_or held h 0 ≡ 1)
    → marks_if (asked_of held s reach) s p ≡ marks_at s p
unfolding marks_if marks_at mark_if pick ask_at flag
all_asked held s reach p f = places_same _ _ most_monitors
    (λ h b. ap (λ (n : ℕ). pick (eqb n 0) 0 (mark_row (row monitor_size h (drop monitors_at s)) p) ∷ [])
    (ask-is held s reach h b
    ∙ ap (λ (k : ℕ). flag (not (eqb k 0) || ltb (level (get_or s (monitors_at + monitor_size * h + high_at) 0)) reach))
    (f h b)))

-- the octets of a sound block, handle by handle
pub spared-padded : (may : Bool) (m : Model) (p : Packet) → SoundModel m → (held : List ℕ) (h : ℕ) → h < most_monitors
    → get_or (marks_for may held (padded m) p) h 0 ≡ spared may (get_or held h 0) (mark (find m.mons h) p)
unfolding marks_for marks_at
spared-padded may m p f held h b =
    let g : ℕ → ℕ = λ j. mark_row (row monitor_size j (drop monitors_at (padded m))) p in
    get_d-singles (λ j. spared may (get_or held j 0) (g j)) most_monitors h b
    ∙ ap (spared may (get_or held h 0))
    (sym (get_d-singles g most_monitors h b) ∙ ap (λ (l : List ℕ). get_or l h 0) (marks-padded m p f)
    ∙ get_d-marks m.mons p h b)

-- where no pair may start and none is held, nobody is asked
pub none-asked : (held s : List ℕ) (p : Packet) → length held ≡ most_monitors → every is_zero held ≡ true
    → replicate most_monitors 0 ≡ marks_for false held s p
unfolding marks_for spared up_to
none-asked held s p n e =
    sym (places_same (λ h. spared false (get_or held h 0) (mark_row (row monitor_size h (drop monitors_at s)) p) ∷ [])
    (λ h. 0 ∷ []) most_monitors
    (λ h b. ap (λ (n : ℕ). n ∷ [])
    (pick-false _ 0 (ap (λ (t : Bool). not t || false) (every-at is_zero held h 0 e (omega arith))))))

-- such an octet is the handle's own, or it is 0
pub spared-held : (may : Bool) (k a : ℕ) → (k ≡ 0 → ⊥) → spared may k a ≡ a
unfolding spared
spared-held may k a n = pick_true a 0 (ap (λ (t : Bool). not t || (may && opens a)) (ne_eqb k 0 n))

-- where it is left out, none may start, or the handle starts nothing
pub spared-cases : {P : Type 0} (may : Bool) (k a : ℕ) → (spared may k a ≡ a → P)
    → (spared may k a ≡ 0 → may ≡ false → P)
    → (spared may k a ≡ 0 → opens a ≡ false → P) → P
unfolding spared pick
spared-cases {P} may k a f g h = go (not (eqb k 0)) may (opens a) refl refl refl
  where
    go : (w t b : Bool) → not (eqb k 0) ≡ w → may ≡ t → opens a ≡ b → P
    go true t b e u v = f (pick_true a 0 (ap (λ (x : Bool). x || (may && opens a)) e))
    go false true true e u v =
        f (pick_true a 0 (ap (λ (x : Bool). x || (may && opens a)) e ∙ ap (λ (x : Bool). x && opens a) u ∙ v))
    go false true false e u v =
        h (pick-false a 0 (ap (λ (x : Bool). x || (may && opens a)) e ∙ ap (λ (x : Bool). x && opens a) u ∙ v)) v
    go false false b e u v =
        g (pick-false a 0 (ap (λ (x : Bool). x || (may && opens a)) e ∙ ap (λ (x : Bool). x && opens a) u)) u

-- it starts no pair that the handle's own does not
pub spared-opened : (may : Bool) (k a : ℕ) → opens (spared may k a) ≡ true → opens a ≡ true
unfolding opens
spared-opened may k a z =
    spared-cases may k a (λ e. sym (ap opens e) ∙ z) (λ e u. absurd (false≢true (sym (ap opens e) ∙ z)))
    (λ e u. absurd (false≢true (sym (ap opens e) ∙ z)))

-- the end of the loop that writes them
pub marks-if-end : (asked s : List ℕ) (p : Packet) (l : List ℕ) → length l ≡ most_monitors
    → put l 0 (marks_if asked s p) ≡ marks_if asked s p
unfolding marks_if
marks-if-end asked s p l n =
    put_whole l _ (n
    ∙ sym (length-singles (λ h. mark_if (get_or asked h 0) (mark_row (row monitor_size h (drop monitors_at s)) p))
    most_monitors))

-- what a call says
module _ (may : Bool) (held acts s l : List ℕ) where
  pub held-short : (length held ≡ most_monitors → ⊥) → (false ≡ held_fit held acts s l)
      × (acts ≡ marked_for false may held acts s l)
  unfolding held_fit marked_for pick
  held-short n = (sym (and-not-left _ _ (ne_eqb (length held) most_monitors n)), refl)

  pub held-not : {t : Bool} → t ≡ fits_for (length acts) s l → t ≡ false
      → (false ≡ held_fit held acts s l) × (acts ≡ marked_for false may held acts s l)
  unfolding held_fit marked_for pick
  held-not e z = (sym (and-not-right (eqb (length held) most_monitors) _ (sym e ∙ z)), refl)

  pub held-done : {t : Bool} {x : List ℕ} → length held ≡ most_monitors → t ≡ fits_for (length acts) s l → t ≡ true
      → x ≡ marks_for may held s (packet_of l) → (true ≡ held_fit held acts s l) × (x ≡ marked_for true may held acts s l)
  unfolding held_fit marked_for pick
  held-done n e z q = (sym (and_both (eq-eqb (length held) most_monitors n) (sym e ∙ z)), q)

  -- the octets, where the lengths are right
  pub held_of : {t : Bool} {x : List ℕ} → length held ≡ most_monitors → length acts ≡ most_monitors
      → length s ≡ block_size → Framed l
      → (t ≡ held_fit held acts s l) × (x ≡ marked_for t may held acts s l) → x ≡ marks_for may held s (packet_of l)
  unfolding held_fit marked_for
  held_of {t} {x} n a b f e =
      let u : t ≡ true = e.0 ∙ and_both (eq-eqb (length held) most_monitors n) (facts-fits (length acts) s l a b f) in
      e.1 ∙ pick_true (marks_for may held s (packet_of l)) acts u
