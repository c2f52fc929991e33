-- Laws of the definitions in Says.
use Rattle.std.specs.Prelude.{ℕ, ◌+◌, ◌-◌, ◌≤◌, ◌<◌, min, ◌≡◌, Bool, true, false, List, [], ◌++◌, leb, length, take}
use Rattle.std.proofs.Common.{sym, ap, ◌∙◌, subst, append-nil, add-zero, add_assoc, arith, length-append, length-take, length-take-le, take_all}
use Rattle.std.proofs.lemmas.Bool.{lt-leb}
use Rattle.std.proofs.lemmas.List.{take-append-le}
use Rattle.std.proofs.Math.Seq.{take-append-add}
use Rattle.laws.specs.Put.{put, put_if}
use Rattle.laws.specs.PutLaws.{put-nil, put-put, put_of, put-if-false, length-put}
use Rattle.laws.specs.Tests.{pick}
use Rattle.laws.specs.TestsLaws.{pick_true, pick-false, cases-le}
use Rattle.words.specs.Says.{fitting, Says}

-- the words are another text that is the same
pub same : {out : List ℕ} {at : ℕ} {w v out' : List ℕ} {r : ℕ} → w ≡ v → Says out at w out' r → Says out at v out' r
same {out} {at} {w} {v} {out'} {r} e s = subst (λ (l : List ℕ). Says out at l out' r) e s

-- of two texts as much as there is room for
cut-two : (k : ℕ) (w v : List ℕ) → take k (w ++ v) ≡ take k w ++ take (k - length (take k w)) v
cut-two k w v =
    cases-le k (length w)
    (λ (h : k ≤ length w). let n : length (take k w) ≡ k = length-take-le k w h in
    let z : k - length (take k w) ≡ 0 = omega arith in
    take-append-le k w v h ∙ sym (append-nil (take k w)) ∙ ap (λ (j : ℕ). take k w ++ take j v) (sym z))
    (λ (h : length w < k). let a : take k w ≡ w = take_all k w (omega arith) in
    let e : length w + (k - length w) ≡ k = omega arith in
    ap (λ (j : ℕ). take j (w ++ v)) (sym e) ∙ take-append-add w v (k - length w)
    ∙ ap (λ (l : List ℕ). l ++ take (k - length l) v) (sym a))

-- a full output stays as it is, whatever is said
fit_none : (out : List ℕ) (at : ℕ) (w : List ℕ) → length out ≤ at → fitting out at w ≡ []
unfolding fitting
fit_none out at w h = let z : length out - at ≡ 0 = omega arith in ap (λ (j : ℕ). take j w) z

full : (out : List ℕ) (at : ℕ) (w : List ℕ) → length out ≤ at → Says out at w out at
full out at w h =
    let e = fit_none out at w h in
    record {
      text = sym (ap (put out at) e ∙ put-nil out at);
      end = sym (ap (λ (l : List ℕ). at + length l) e ∙ add-zero at);
    }

full-text : (out : List ℕ) (at : ℕ) (w : List ℕ) {out' : List ℕ} {r : ℕ} → length out ≤ at → Says out at w out' r
    → out' ≡ out
full-text out at w h s = s.text ∙ ap (put out at) (fit_none out at w h) ∙ put-nil out at

full-end : (out : List ℕ) (at : ℕ) (w : List ℕ) {out' : List ℕ} {r : ℕ} → length out ≤ at → Says out at w out' r
    → r ≡ at
full-end out at w h s = s.end ∙ ap (λ (l : List ℕ). at + length l) (fit_none out at w h) ∙ add-zero at

-- no words
pub nothing : (out : List ℕ) (at : ℕ) → Says out at [] out at
unfolding fitting
nothing out at =
    let e : take {A = ℕ} (length out - at) [] ≡ [] = take_all (length out - at) [] (omega arith) in
    record {
      text = sym (ap (put out at) e ∙ put-nil out at);
      end = sym (ap (λ (l : List ℕ). at + length l) e ∙ add-zero at);
    }

-- words, and others behind them, where there is room for some
joined : {out : List ℕ} {at : ℕ} {w out' : List ℕ} {r : ℕ} {v out'' : List ℕ} {q : ℕ} → at < length out
    → Says out at w out' r → Says out' r v out'' q
    → Says out at (w ++ v) out'' q
unfolding fitting
joined {out} {at} {w} {out'} {r} {v} {out''} {q} h s t =
    let k = length out - at in
    let m : length (take k w) ≤ k = simp length-take (omega arith) in
    let n : length out' ≡ length out = ap length s.text ∙ length-put out at (take k w) (omega arith) in
    let e = s.end in
    let d : length out' - r ≡ k - length (take k w) = omega arith in
    let x = take (k - length (take k w)) v in
    let f : take (length out' - r) v ≡ x = ap (λ (j : ℕ). take j v) d in
    let g : take k w ++ x ≡ take k (w ++ v) = sym (cut-two k w v) in
    record {
      text = t.text ∙ ap (put out' r) f ∙ ap (λ (j : ℕ). put out' j x) e
          ∙ ap (λ (l : List ℕ). put l (at + length (take k w)) x) s.text
          ∙ put-put out at (take k w) x (omega arith) ∙ ap (put out at) g;
      end = t.end ∙ ap (λ (l : List ℕ). r + length l) f ∙ ap (λ (j : ℕ). j + length x) e
          ∙ add_assoc at (length (take k w)) (length x)
          ∙ ap (λ (j : ℕ). at + j) (sym (length-append (take k w) x) ∙ ap length g);
    }

-- words, and others behind them
pub then : {out : List ℕ} {at : ℕ} {w out' : List ℕ} {r : ℕ} {v out'' : List ℕ} {q : ℕ} → Says out at w out' r
    → Says out' r v out'' q → Says out at (w ++ v) out'' q
then {out} {at} {w} {out'} {r} {v} {out''} {q} s t =
    cases-le (length out) at
    (λ (h : length out ≤ at).
    let a = full-text out at w h s in
    let b = full-end out at w h s in
    let n = ap length a in
    let c = full-text out' r v (omega arith) t in
    let d = full-end out' r v (omega arith) t in
    subst (λ (l : List ℕ). Says out at (w ++ v) l q) (sym (c ∙ a))
    (subst (λ (j : ℕ). Says out at (w ++ v) out j) (sym (d ∙ b)) (full out at (w ++ v) h)))
    (λ (h : at < length out). joined h s t)

-- one of two texts
pub taken : {out : List ℕ} {at : ℕ} (a b : List ℕ) {out' : List ℕ} {r : ℕ} {c : Bool} → c ≡ true
    → Says out at a out' r → Says out at (pick c a b) out' r
taken a b k s = same (sym (pick_true a b k)) s

pub left : {out : List ℕ} {at : ℕ} (a b : List ℕ) {out' : List ℕ} {r : ℕ} {c : Bool} → c ≡ false
    → Says out at b out' r → Says out at (pick c a b) out' r
left a b k s = same (sym (pick-false a b k)) s

-- nothing put, and a put that was refused
put-none : (out : List ℕ) (at : ℕ) (w : List ℕ) (b : Bool) → b ≡ false → w ≡ [] → put_if b out at w ≡ put out at w
put-none out at w b e z = sym (put-if-false out at w e) ∙ sym (put-nil out at) ∙ ap (put out at) (sym z)

-- copied, as many as there is room for; where the output ends before the index, none
pub copied : (out : List ℕ) (at : ℕ) (w : List ℕ) (n : ℕ) {out' : List ℕ} {b : Bool}
    → n ≡ min (length w) (length out - at)
    → b ≡ leb (at + length (take n w)) (length out) → out' ≡ put_if b out at (take n w) → Says out at w out' (at + n)
unfolding fitting
copied out at w n {out'} {b} k e p =
    let m : length (take n w) ≡ n = length-take-le n w (omega arith) in
    let f : take n w ≡ take (length out - at) w =
    cases-le (length w) (length out - at)
    (λ (x : length w ≤ length out - at). take_all n w (omega arith) ∙ sym (take_all (length out - at) w x))
    (λ (x : length out - at < length w). ap (λ (j : ℕ). take j w) (let z : n ≡ length out - at = omega arith in z)) in
    let o : out' ≡ put out at (take n w) =
    cases-le at (length out)
    (λ (h : at ≤ length out). put_of out at (take n w) (length (take n w)) (length out) e (omega arith) p)
    (λ (h : length out < at). p
    ∙ put-none out at (take n w) b (e ∙ lt-leb (at + length (take n w)) (length out) (omega arith))
    (let z : n ≡ 0 = omega arith in ap (λ (j : ℕ). take j w) z)) in
    record { text = o ∙ ap (put out at) f; end = ap (λ (j : ℕ). at + j) (sym m ∙ ap length f) }
