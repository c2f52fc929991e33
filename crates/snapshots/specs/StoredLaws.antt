-- Laws of the definitions in Stored.
use Rattle.std.specs.Prelude.{ℕ, ◌+◌, ◌-◌, ◌*◌, ◌≤◌, ◌<◌, ◌≡◌, refl, Bool, true, false, List, [], ◌∷◌, ◌++◌, length, take, drop, get_or, set, replicate}
use Rattle.std.proofs.Common.{sym, ap, ◌∙◌, arith, eqb-true, eq-eqb, ne_eqb, lt-ltb, le-ltb, length-append, length-drop, drop_at, drop-drop, length-take-le}
use Rattle.std.proofs.lemmas.Bool.{eqb-false}
use lib.Dec.{eqb}
use Rattle.laws.specs.TestsLaws.{cases-le, pick_true, pick-false, and_both}
use Rattle.laws.specs.Put.{put, put_if}
use Rattle.laws.specs.PutLaws.{put_of, set-put, length-put}
use Rattle.laws.specs.Loops.{each}
use Rattle.lines.specs.Hex.{lf, text_of}
use Rattle.lines.specs.TextsLaws.{length-text}
use Rattle.reader.specs.Pairs.{leading}
use Rattle.reader.specs.AnswersLaws.{line-here, line-there}
use Rattle.rule.specs.Base.{All}
use Rattle.model.specs.Layout.{block_size, line_row}
use Rattle.restore.specs.Lines.{stored, stored_in}
use Rattle.restore.specs.Rows.{Row}
use Rattle.restore.specs.RowsLaws.{put-zeros}
use Rattle.editions.specs.Editions.{most_editions}
use Rattle.editions.specs.Block.{edition_size}
use Rattle.wholes.specs.Layout.{editions_at, editions_count_at, whole_size}
use Rattle.snapshots.specs.Stored.{stored_edition, stored_on, stored_all_on, Placed}

-- the branches of the code
pub stored-edition : (s l : List ℕ) {t : List ℕ} → get_or l 0 0 ≡ 0xA4
    → t ≡ stored_edition s (take edition_size (drop 1 l)) → t ≡ stored_on s l
unfolding stored_on
stored-edition s l e q =
    q ∙ sym (pick_true (stored_edition s (take edition_size (drop 1 l))) _ (eq-eqb (get_or l 0 0) 0xA4 e))

pub stored_core : (s l : List ℕ) {c t : List ℕ} → length s ≡ whole_size → length l ≡ line_row → (get_or l 0 0 ≡ 0xA4 → ⊥)
    → c ≡ stored_in (take block_size s) l → t ≡ c ++ drop block_size s → t ≡ stored_on s l
unfolding stored_on stored_in
stored_core s l {c} {t} n m h q w =
    let k : length (take block_size s) ≡ block_size = length-take-le block_size s (omega arith) in
    w ∙ ap (λ (x : List ℕ). x ++ drop block_size s)
    (q ∙ pick_true (stored (take block_size s) l) (take block_size s)
    (and_both (eq-eqb (length (take block_size s)) block_size k) (eq-eqb (length l) line_row m)))
    ∙ sym (pick-false (stored_edition s (take edition_size (drop 1 l))) _ (ne_eqb (get_or l 0 0) 0xA4 h))

pub stored-full : (s r : List ℕ) → most_editions ≤ get_or s editions_count_at 0 → s ≡ stored_edition s r
unfolding stored_edition
stored-full s r h = sym (pick-false _ s (le-ltb (get_or s editions_count_at 0) most_editions h))

pub stored_one : (s l : List ℕ) (c k : ℕ) {r : Bool} {t : List ℕ} → length s ≡ whole_size → length l ≡ line_row
    → c ≡ get_or s editions_count_at 0 → c < most_editions → k ≡ edition_size
    → r ≡ lib.Dec.leb (editions_at + edition_size * c + length (take k (drop 1 l))) (length s)
    → t ≡ put_if r s (editions_at + edition_size * c) (take k (drop 1 l))
    → set t editions_count_at (c + 1) ≡ stored_edition s (take edition_size (drop 1 l))
unfolding stored_edition
stored_one s l c k {r} {t} n m q h w a b =
    let x : List ℕ = take k (drop 1 l) in
    let y : x ≡ take edition_size (drop 1 l) = ap (λ (j : ℕ). take j (drop 1 l)) w in
    let lx : length x ≡ edition_size =
    ap length y ∙ length-take-le edition_size (drop 1 l) (simp length-drop (omega arith)) in
    let d : t ≡ put s (editions_at + edition_size * c) x =
    put_of s (editions_at + edition_size * c) x (length x) (length s) a (omega arith) b in
    let lt : length t ≡ whole_size = ap length d ∙ length-put s (editions_at + edition_size * c) x (omega arith) ∙ n in
    set-put t editions_count_at (c + 1) (omega arith)
    ∙ ap (λ (u : List ℕ). put u editions_count_at ((c + 1) ∷ [])) (d ∙ ap (put s (editions_at + edition_size * c)) y)
    ∙ ap (λ (j : ℕ). put (put s (editions_at + edition_size * j) (take edition_size (drop 1 l))) editions_count_at
    ((j + 1) ∷ [])) q
    ∙ sym (pick_true _ s
    (lt-ltb (get_or s editions_count_at 0) most_editions (let z : c ≡ get_or s editions_count_at 0 = q in omega arith)))

module _ (t : List ℕ) (at : ℕ) (s : List ℕ) (k : ℕ) (is : k ≡ length (leading t at line_row)) where
  -- an LF stands behind the pairs that were read
  pub placed-line : {line after : List ℕ} → line ≡ put (replicate line_row 0) 0 (leading t at line_row)
      → eqb (get_or t (at + 2 * k) 0) lf ≡ true → after ≡ stored_on s line → Placed t at s after (at + 2 * k + 1)
  placed-line {line} {after} p f q =
      let h = line-here t at line_row (rw is at (eqb-true (get_or t (at + 2 * k) 0) lf f)) in
      record {
        from = omega arith;
        within = omega (arith, h.0);
        row = λ r w x d.
            let g = line-there t at line_row r w x.octets x.most d in
            let n : length (leading t at line_row) ≡ length r = ap length g.0 in
            let m : length (text_of r) ≡ 2 * length r + 1 = length-text r in (
              omega arith,
              q ∙ ap (stored_on s)
                  (p ∙ ap (put (replicate line_row 0) 0) g.0 ∙ put-zeros line_row r x.most),
            );
      }

  -- none does: no text of a row stands there
  pub placed-none : at ≤ length t → eqb (get_or t (at + 2 * k) 0) lf ≡ false → Placed t at s s at
  placed-none b f =
      record {
        from = omega arith;
        within = b;
        row = λ r w x d.
            let g = line-there t at line_row r w x.octets x.most d in
            absurd (eqb-false (get_or t (at + 2 * k) 0) lf f (rw is g.1));
      }

-- what is left of a text at an index: the lines of rows that, stored, give the goal
pub record Rest (t : List ℕ) (at : ℕ) (s goal : List ℕ) : Type 0 where
  pub rest : List (List ℕ)
  pub each_row : All Row rest
  pub left : drop at t ≡ each text_of rest
  pub same : stored_all_on s rest ≡ goal

-- before the first line
pub rest-start : (t s : List ℕ) (rs : List (List ℕ)) → All Row rs → t ≡ each text_of rs → Rest t 0 s (stored_all_on s rs)
rest-start t s rs a e = record { rest = rs; each_row = a; left = e; same = refl }

-- one line more
pub rest-turn : (t : List ℕ) (at : ℕ) (s goal : List ℕ) {e : ℕ} {u : List ℕ} → Rest t at s goal → at < length t
    → Placed t at s u e → (at < e) × Rest t e u goal
unfolding each stored_all_on
rest-turn t at s goal {e} {u} f h p = go f.rest f.each_row f.left f.same
  where
    go : (rs : List (List ℕ)) → All Row rs → drop at t ≡ each text_of rs → stored_all_on s rs ≡ goal
        → (at < e) × Rest t e u goal
    go [] a l g =
        let n : length (drop at t) ≡ 0 = ap (λ (x : List ℕ). length x) l in
        let k : length (drop at t) ≡ length t - at = length-drop at t in
        absurd (omega arith)
    go (r ∷ rs) a l g =
        let w : List ℕ = each text_of rs in
        let y = p.row r w a.0 l in
        let i : e ≡ at + length (text_of r) = y.0 in
        let m : length (text_of r) ≡ 2 * length r + 1 = length-text r in (
          omega arith,
          record {
            rest = rs;
            each_row = a.1;
            left = ap (λ (j : ℕ). drop j t) i ∙ sym (drop-drop (length (text_of r)) at t)
                ∙ ap (λ (x : List ℕ). drop (length (text_of r)) x) l ∙ drop_at (text_of r) w (length (text_of r)) refl;
            same = ap (λ (x : List ℕ). stored_all_on x rs) y.1 ∙ g;
          },
        )

-- an index that is another lies further on
pub placed_on : (t : List ℕ) (at : ℕ) (s u : List ℕ) (e : ℕ) → Placed t at s u e → (e ≡ at → ⊥) → at < e
placed_on t at s u e p n = let a : at ≤ e = p.from in cases-le e at (λ h. absurd (n (omega arith))) (λ h. h)

-- where the index stays, the text was not of rows
pub rest-stays : (t : List ℕ) (at : ℕ) (s goal : List ℕ) {e : ℕ} {u : List ℕ} → Rest t at s goal → at < length t
    → Placed t at s u e → e ≡ at → u ≡ goal
rest-stays t at s goal f h p z = let y : at < _ = (rest-turn t at s goal f h p).0 in absurd (omega arith)

-- behind the last line
pub rest_end : (t : List ℕ) (at : ℕ) (s goal : List ℕ) → Rest t at s goal → length t ≤ at → s ≡ goal
unfolding each stored_all_on
rest_end t at s goal f h = go f.rest f.left f.same
  where
    go : (rs : List (List ℕ)) → drop at t ≡ each text_of rs → stored_all_on s rs ≡ goal → s ≡ goal
    go [] l g = g
    go (r ∷ rs) l g =
        let n : length (drop at t) ≡ length (text_of r ++ each text_of rs) = ap (λ (x : List ℕ). length x) l in
        let k : length (drop at t) ≡ length t - at = length-drop at t in
        let m : length (text_of r ++ each text_of rs) ≡ length (text_of r) + length (each text_of rs) =
        length-append (text_of r) (each text_of rs) in
        let o : length (text_of r) ≡ 2 * length r + 1 = length-text r in
        absurd (omega arith)
