-- Laws of the definitions in Rows.
use Prim.Native.Nat.{ℕ, zero, suc, ◌+◌, ◌-◌, ◌*◌, ◌≤◌, ◌<◌}
use Rattle.std.specs.Prelude.{◌≡◌, get_or, set}
use Rattle.std.proofs.Math.Path.{refl, sym, ap}
use Rattle.std.proofs.Common.{◌∙◌, zero-add, add-zero}
use mathlib.Core.List.{List, [], ◌∷◌, ◌++◌, append_assoc, append-nil}
use Rattle.std.proofs.Math.Nat.{add_comm, mul-zero, mul-suc, mul-le-mul_left}
use native.Mathlib.Omega.{arith}
use Rattle.std.proofs.Math.ListN.{length, take, drop, length-drop, take-append-drop}
use Rattle.std.proofs.Math.Seq.{length-take-le, take_at, drop_at, drop-drop, drop-length, get_or-take, get_or-drop}
use Rattle.laws.specs.Put.{put}
use Rattle.laws.specs.PutLaws.{length-put, put-left, put_right, drop-after-put}
use Rattle.laws.specs.Rows.{row, rows, flat}

-- what comes after k rows of n elements
unfoldable pub past : {A : Type 0} → ℕ → ℕ → List A → List A
past n k t = drop (n * k) t

module _ {A : Type 0} where
  pub flat_append : (rs ss : List (List A)) → flat (rs ++ ss) ≡ flat rs ++ flat ss
  unfolding flat
  flat_append [] ss = refl
  flat_append (r ∷ rs) ss = rw (flat_append rs ss) (sym (append_assoc r (flat rs) (flat ss)))

  pub length-rows : (n k : ℕ) (t : List A) → length (rows n k t) ≡ k
  unfolding rows
  length-rows n zero t = refl
  length-rows n (suc k) t = ap suc (length-rows n k (drop n t))

  -- a table is its rows and what comes past them
  pub flat_rows : (n k : ℕ) (t : List A) → flat (rows n k t) ++ past n k t ≡ t
  unfolding rows flat past
  flat_rows n zero t = rw (mul-zero n)
  flat_rows n (suc k) t =
      let e : drop (n * suc k) t ≡ past n k (drop n t) =
      rw (mul-suc n k, add_comm (n * k) n) (sym (drop-drop (n * k) n t)) in
      append_assoc (take n t) (flat (rows n k (drop n t))) (drop (n * suc k) t)
      ∙ ap (λ (l : List A). take n t ++ (flat (rows n k (drop n t)) ++ l)) e
      ∙ ap (λ (l : List A). take n t ++ l) (flat_rows n k (drop n t))
      ∙ take-append-drop n t

  pub length-row : (n i k : ℕ) (t : List A) → i < k → n * k ≤ length t → length (row n i t) ≡ n
  unfolding row
  length-row n i k t h e = length-take-le n (drop (n * i) t) (go k h e)
    where
      go : (k : ℕ) → i < k → n * k ≤ length t → n ≤ length (drop (n * i) t)
      go k h e =
          let m : n * suc i ≤ n * k = mul-le-mul_left n h in
          let s : n * suc i ≡ n * i + n = mul-suc n i in
          simp length-drop (omega arith)

  -- row i of the table is its place in the list of rows
  pub row_at : (n k i : ℕ) (t : List A) → i < k → get_or (rows n k t) i [] ≡ row n i t
  unfolding rows row
  row_at n zero i t h = absurd (omega arith)
  row_at n (suc k) zero t h = rw (mul-zero n)
  row_at n (suc k) (suc i) t h =
      rw (row_at n k i (drop n t) (omega arith), drop-drop (n * i) n t, mul-suc n i, add_comm (n * i) n)

  -- a write inside row i changes row i alone
  pub rows-put : (n k i off : ℕ) (t ys : List A) → i < k → off + length ys ≤ n → n * k ≤ length t
      → rows n k (put t (n * i + off) ys) ≡ set (rows n k t) i (put (row n i t) off ys)
  unfolding rows row
  rows-put n zero i off t ys h b e = absurd (omega arith)
  rows-put n (suc k) zero off t ys h b e =
      let s : n * suc k ≡ n * k + n = mul-suc n k in
      let lt : length (take n t) ≡ n = length-take-le n t (omega arith) in
      let lp : length (put (take n t) off ys) ≡ n = length-put (take n t) off ys (omega arith) ∙ lt in
      let z : n * 0 + off ≡ off = rw (mul-zero n) (zero-add off) in
      let p : put t (n * 0 + off) ys ≡ put (take n t) off ys ++ drop n t =
      rw z (ap (λ (l : List A). put l off ys) (sym (take-append-drop n t))
      ∙ put-left (take n t) (drop n t) off ys (omega arith)) in
      rw (
        p,
        take_at (put (take n t) off ys) (drop n t) n lp,
        drop_at (put (take n t) off ys) (drop n t) n lp,
        mul-zero n,
      )
  rows-put n (suc k) (suc i) off t ys h b e =
      let s : n * suc k ≡ n * k + n = mul-suc n k in
      let u : n * suc i ≡ n * i + n = mul-suc n i in
      let lt : length (take n t) ≡ n = length-take-le n t (omega arith) in
      let z : n * suc i + off ≡ length (take n t) + (n * i + off) = omega arith in
      let p : put t (n * suc i + off) ys ≡ take n t ++ put (drop n t) (n * i + off) ys =
      rw z (ap (λ (l : List A). put l (length (take n t) + (n * i + off)) ys) (sym (take-append-drop n t))
      ∙ put_right (take n t) (drop n t) (n * i + off) ys) in
      let ih = rows-put n k i off (drop n t) ys (omega arith) b (simp length-drop (omega arith)) in
      let v : n + n * i ≡ n * suc i = omega arith in
      let w : drop (n * i) (drop n t) ≡ drop (n * suc i) t = drop-drop (n * i) n t ∙ ap (λ (j : ℕ). drop j t) v in
      rw (
        p,
        take_at (take n t) (put (drop n t) (n * i + off) ys) n lt,
        drop_at (take n t)
            (put (drop n t) (n * i + off) ys) n lt,
      )
      (rw (← w) (ap (λ (l : List (List A)). take n t ∷ l) ih))

  -- a list written over another of its length
  pub put_whole : (x r : List A) → length x ≡ length r → put x 0 r ≡ r
  unfolding put
  put_whole x r m = rw (zero-add (length r), ← m, drop-length x, append-nil r)

  -- a whole row written over row i
  pub rows-store : (n k i : ℕ) (t r : List A) → i < k → length r ≡ n → n * k ≤ length t
      → rows n k (put t (n * i) r) ≡ set (rows n k t) i r
  rows-store n k i t r h l e =
      let z : n * i ≡ n * i + 0 = sym (add-zero (n * i)) in
      let q : length (row n i t) ≡ n = length-row n i k t h e in
      ap (λ (j : ℕ). rows n k (put t j r)) z ∙ rows-put n k i 0 t r h (omega arith) e
      ∙ ap (λ (x : List A). set (rows n k t) i x) (put_whole (row n i t) r (q ∙ sym l))

  -- a write inside the table leaves what comes past it
  pub past-put : (n k at : ℕ) (t ys : List A) → at + length ys ≤ n * k → n * k ≤ length t
      → past n k (put t at ys) ≡ past n k t
  unfolding past
  past-put n k at t ys h e =
      let d : at + length ys + (n * k - (at + length ys)) ≡ n * k = omega arith in
      ap (λ (j : ℕ). drop j (put t at ys)) (sym d)
      ∙ sym (drop-drop (n * k - (at + length ys)) (at + length ys) (put t at ys))
      ∙ ap (λ (l : List A). drop (n * k - (at + length ys)) l) (drop-after-put t at ys (omega arith))
      ∙ drop-drop (n * k - (at + length ys)) (at + length ys) t
      ∙ ap (λ (j : ℕ). drop j t) d

  -- reading inside row i is reading in the table
  pub get_d-row : (n i off : ℕ) (t : List A) (d : A) → off < n → get_or (row n i t) off d ≡ get_or t (n * i + off) d
  unfolding row
  get_d-row n i off t d h = get_or-take n (drop (n * i) t) off d h ∙ get_or-drop (n * i) t off d

  -- the rows of a list of rows written one after another
  pub rows-flat : (n : ℕ) (rs : List (List A)) (t : List A) → ((i : ℕ) → i < length rs → length (get_or rs i []) ≡ n)
      → rows n (length rs) (flat rs ++ t) ≡ rs
  unfolding rows flat
  rows-flat n [] t h = refl
  rows-flat n (r ∷ rs) t h =
      let l : length r ≡ n = h 0 (omega arith) in
      let ih = rows-flat n rs t (λ i b. h (suc i) (omega arith)) in
      rw (append_assoc r (flat rs) t, take_at r (flat rs ++ t) n l, drop_at r (flat rs ++ t) n l, ih)
