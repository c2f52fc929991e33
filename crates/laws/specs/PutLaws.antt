-- Laws of the definitions in Put.
use Prim.Native.Nat.{ℕ, suc, ◌+◌, ◌-◌, ◌≤◌, ◌<◌}
use Rattle.std.specs.Prelude.{◌≡◌, Bool, true, false, leb, take, get_or, set}
use Rattle.std.proofs.Math.Path.{sym, ap}
use Rattle.std.proofs.Common.{◌∙◌, add-zero, add-one, arith, length-drop, take-append-drop, length-take-le, take-suc, get_or-drop, get_or-take}
use mathlib.Core.List.{List, [], ◌∷◌, ◌++◌, append_assoc, append-nil}
use Rattle.std.proofs.Math.Nat.{add_assoc, add-suc}
use borrow.Author.Tests.{le-leb}
use Rattle.std.proofs.Math.ListN.{length, drop, length-append, length-take}
use Rattle.std.proofs.Math.Seq.{take_at, drop_at, drop-drop, drop-cons, set_at, take-append_seam, drop-append-le, take-append-add, drop-append-add}
use Rattle.std.proofs.lemmas.List.{take-append-le}
use Rattle.laws.specs.Put.{put, put_if}

module _ {A : Type 0} where
  -- nothing put is nothing changed
  pub put-nil : (xs : List A) (at : ℕ) → put xs at [] ≡ xs
  unfolding put
  put-nil xs at = simp (add-zero, append-nil, take-append-drop)

  pub length-head : (xs : List A) (at : ℕ) (ys : List A) → at ≤ length xs → length (take at xs ++ ys) ≡ at + length ys
  length-head xs at ys h = simp (length-append, length-take-le)

  pub length-put : (xs : List A) (at : ℕ) (ys : List A) → at + length ys ≤ length xs
      → length (put xs at ys) ≡ length xs
  unfolding put
  length-put xs at ys h = simp (length-append, length-take, length-drop) (omega arith)

  -- two puts in a row are one put of the concatenation
  pub put-put : (xs : List A) (at : ℕ) (ys zs : List A) → at ≤ length xs
      → put (put xs at ys) (at + length ys) zs ≡ put xs at (ys ++ zs)
  unfolding put
  put-put xs at ys zs h =
      let n : length (take at xs ++ ys) ≡ at + length ys = length-head xs at ys h in
      let e : at + length ys + length zs ≡ at + length (ys ++ zs) = simp (length-append, add_assoc) in
      let d : drop (at + length ys + length zs) (put xs at ys) ≡ drop (at + length (ys ++ zs)) xs =
      sym (drop-drop (length zs) (at + length ys) (put xs at ys))
      ∙ ap (λ (l : List A). drop (length zs) l)
      (drop_at (take at xs ++ ys) (drop (at + length ys) xs) (at + length ys) n)
      ∙ drop-drop (length zs) (at + length ys) xs
      ∙ ap (λ (k : ℕ). drop k xs) e in
      rw (take_at (take at xs ++ ys) (drop (at + length ys) xs) (at + length ys) n, d, append_assoc (take at xs) ys zs)

  -- what was put is what stands there
  pub take_put : (xs : List A) (at : ℕ) (ys : List A) → at ≤ length xs → take (length ys) (drop at (put xs at ys)) ≡ ys
  unfolding put
  take_put xs at ys h =
      rw (
        append_assoc (take at xs) ys (drop (at + length ys) xs),
        drop_at (take at xs) (ys ++ drop (at + length ys) xs) at (length-take-le at xs h),
        take-append_seam,
      )

  -- what stands before and after a put is as it was
  pub take-before-put : (xs : List A) (at : ℕ) (ys : List A) → at ≤ length xs → take at (put xs at ys) ≡ take at xs
  unfolding put
  take-before-put xs at ys h =
      rw (
        append_assoc (take at xs) ys (drop (at + length ys) xs),
        take_at (take at xs) (ys ++ drop (at + length ys) xs) at (length-take-le at xs h),
      )

  pub drop-after-put : (xs : List A) (at : ℕ) (ys : List A) → at ≤ length xs
      → drop (at + length ys) (put xs at ys) ≡ drop (at + length ys) xs
  unfolding put
  drop-after-put xs at ys h =
      drop_at (take at xs ++ ys) (drop (at + length ys) xs) (at + length ys) (length-head xs at ys h)

  -- what a second put, right after a first, leaves: the law for calls in a row
  pub put_then : (xs : List A) (at : ℕ) (ys : List A) (i : ℕ) (zs : List A) {l m ws : List A}
      → at ≤ length xs → l ≡ put xs at ys → i ≡ at + length ys → m ≡ put l i zs → ys ++ zs ≡ ws → m ≡ put xs at ws
  put_then xs at ys i zs h p k q e = rw (q, k, p, put-put xs at ys zs h, e)

  pub put-if-true : {b : Bool} (xs : List A) (at : ℕ) (ys : List A) → b ≡ true → put xs at ys ≡ put_if b xs at ys
  unfolding put_if
  put-if-true xs at ys e = rw e

  pub put-if-false : {b : Bool} (xs : List A) (at : ℕ) (ys : List A) → b ≡ false → xs ≡ put_if b xs at ys
  unfolding put_if
  put-if-false xs at ys e = rw e

  -- a put that tells whether it was done, where there is room
  pub put_of : (xs : List A) (at : ℕ) (ys : List A) (k n : ℕ) {r : Bool} {m : List A}
      → r ≡ leb (at + k) n → at + k ≤ n → m ≡ put_if r xs at ys → m ≡ put xs at ys
  unfolding put_if
  put_of xs at ys k n e h q = rw (e, le-leb (at + k) n h) at q

  -- one element more, stored right after what was put: the law for a store in a loop that appends
  pub put-push : (xs : List A) (at : ℕ) (ys : List A) (b : A) {n : ℕ} {l : List A} → at + length ys < length xs
      → n ≡ at + length ys → l ≡ put xs at ys → set l n b ≡ put xs at (ys ++ (b ∷ []))
  unfolding put
  put-push xs at ys b {n} {l} h e q =
      let hd : length (take at xs ++ ys) ≡ at + length ys = length-head xs at ys (omega arith) in
      let m : length (ys ++ (b ∷ [])) ≡ suc (length ys) = simp length-append (add-one (length ys)) in
      rw (
        q,
        e,
        drop-cons xs (at + length ys) b h,
        set_at (take at xs ++ ys) (get_or xs (at + length ys) b) (drop (suc (at + length ys)) xs) b (at + length ys) hd,
        m,
        add-suc at (length ys),
      )
      (simp append_assoc)

  -- a single store is a put of one element
  pub set-put : (xs : List A) (at : ℕ) (b : A) → at < length xs → set xs at b ≡ put xs at (b ∷ [])
  set-put xs at b h = put-push xs at [] b (rw add-zero h) (sym (add-zero at)) (sym (put-nil xs at))

  -- a turn of a loop that copies
  pub put_copy : (xs : List A) (at : ℕ) (src : List A) (i : ℕ) (d : A) {n : ℕ} {l : List A} → at + i < length xs
      → i < length src
      → n ≡ at + i → l ≡ put xs at (take i src) → set l n (get_or src i d) ≡ put xs at (take (i + 1) src)
  put_copy xs at src i d h hs e q =
      let n : length (take i src) ≡ i = length-take-le i src (omega arith) in
      rw (add-one i, take-suc src i d hs) (put-push xs at (take i src) (get_or src i d) (omega arith) (omega arith) q)

  -- a put in the left or the right part of two lists joined
  pub put-left : (us vs : List A) (at : ℕ) (ys : List A) → at + length ys ≤ length us
      → put (us ++ vs) at ys ≡ put us at ys ++ vs
  unfolding put
  put-left us vs at ys h =
      rw (take-append-le at us vs (omega arith), drop-append-le (at + length ys) us vs h) (simp append_assoc)

  pub put_right : (us vs : List A) (at : ℕ) (ys : List A) → put (us ++ vs) (length us + at) ys ≡ us ++ put vs at ys
  unfolding put
  put_right us vs at ys =
      rw (take-append-add us vs at, add_assoc (length us) at (length ys), drop-append-add us vs (at + length ys))
      (simp append_assoc)

  -- reading beside a put
  pub get_d-put-before : (xs : List A) (at : ℕ) (ys : List A) (i : ℕ) (d : A) → i < at → at ≤ length xs
      → get_or (put xs at ys) i d ≡ get_or xs i d
  get_d-put-before xs at ys i d h k =
      sym (get_or-take at (put xs at ys) i d h) ∙ ap (λ (l : List A). get_or l i d) (take-before-put xs at ys k)
      ∙ get_or-take at xs i d h

  pub get_d-put-after : (xs : List A) (at : ℕ) (ys : List A) (i : ℕ) (d : A) → at + length ys ≤ i → at ≤ length xs
      → get_or (put xs at ys) i d ≡ get_or xs i d
  get_d-put-after xs at ys i d h k =
      let e : at + length ys + (i - (at + length ys)) ≡ i = omega arith in
      ap (λ (j : ℕ). get_or (put xs at ys) j d) (sym e)
      ∙ sym (get_or-drop (at + length ys) (put xs at ys) (i - (at + length ys)) d)
      ∙ ap (λ (l : List A). get_or l (i - (at + length ys)) d) (drop-after-put xs at ys k)
      ∙ get_or-drop (at + length ys) xs (i - (at + length ys)) d
      ∙ ap (λ (j : ℕ). get_or xs j d) e

  -- reading what was put
  pub get_d-put-in : (xs : List A) (at : ℕ) (ys : List A) (i : ℕ) (d : A) → i < length ys → at ≤ length xs
      → get_or (put xs at ys) (at + i) d ≡ get_or ys i d
  get_d-put-in xs at ys i d h k =
      sym (get_or-drop at (put xs at ys) i d)
      ∙ sym (get_or-take (length ys) (drop at (put xs at ys)) i d h)
      ∙ ap (λ (l : List A). get_or l i d) (take_put xs at ys k)
