-- Laws of the definitions in Replies.
use Rattle.std.specs.Prelude.{ℕ, ◌+◌, ◌-◌, ◌≤◌, ◌≡◌, refl, Bool, true, List, [], ◌∷◌, ◌++◌, leb, length, take, drop, get_or, set}
use Rattle.std.proofs.Common.{sym, ap, ◌∙◌, append_assoc, arith, length-set, length-append, length-drop, length-take-le}
use Rattle.laws.specs.Tests.{pick}
use Rattle.laws.specs.Put.{put, put_if}
use Rattle.laws.specs.PutLaws.{put_then, put-push, length-put}
use Rattle.octets.specs.Little.{octets_of}
use Rattle.octets.specs.LittleLaws.{length-octets}
use Rattle.octets.specs.NumbersLaws.{at-is}
use Rattle.model.specs.Types.{Model}
use Rattle.model.specs.Commands.{table, answer_in, features}
use Rattle.statuses.specs.Statuses.{adds_by}
use Rattle.statuses.specs.SecondLaws.{adds-cases}
use Rattle.model.specs.Events.{complete}
use Rattle.model.specs.Sound.{sound_model}
use Rattle.model.specs.Block.{padded}
use Rattle.blocks.specs.Facts.{SoundModel}
use Rattle.blocks.specs.FactsLaws.{sound-facts}
use Rattle.blocks.specs.BlockLaws.{read_count, read-prefix}
use Rattle.commands.specs.StoredLaws.{put-made}
use Rattle.sessions.specs.Machine.{answer_room}
use Rattle.steps.specs.Stepped.{Within}
use Rattle.steps.specs.SteppedLaws.{within-put}
use Rattle.model.specs.Layout.{block_size, most_prefix, prefix_at, prefix_length_at}
use Rattle.commands.specs.Replies.{Replied, head_of, prefix_count, prefix_in, features_of}

-- so the octets past it are as they were
pub replied-within : (out : List ℕ) {wrote a : List ℕ} {n : ℕ} → answer_room ≤ length out → Replied out wrote n a
    → Within out wrote n
replied-within out {wrote} {a} h r = within-put out a r.octets r.count (omega (arith, r.most))

pub length-head_of : (opcode n : ℕ) → length (head_of opcode n) ≡ 5
unfolding head_of
length-head_of opcode n = let e = length-octets 2 opcode in omega arith

-- the table's numbers of return parameters
pub answer-features : {n : ℕ} → n ≡ answer_in table 0 → n ≡ 11
unfolding table answer_in pick
answer-features e = e

pub answer-cancel : answer_in table 4 ≡ 2
unfolding table answer_in pick
answer-cancel = refl

pub answer-enable : answer_in table 5 ≡ 2
unfolding table answer_in pick
answer-enable = refl

answer-first : answer_in table 0x03 ≡ 3
unfolding table answer_in pick
answer-first = refl

answer-second : answer_in table 0x0F ≡ 3
unfolding table answer_in pick
answer-second = refl

pub answer-add : (sub : ℕ) → adds_by sub ≡ true → answer_in table sub ≡ 3
answer-add sub e =
    adds-cases sub e (λ q. ap (answer_in table) q ∙ answer-first) (λ q. ap (answer_in table) q ∙ answer-second)

-- the head and the return parameters
pub complete-of : (opcode : ℕ) (ret : List ℕ) (n : ℕ) → n ≡ length ret → head_of opcode n ++ ret ≡ complete opcode ret
unfolding head_of complete
complete-of opcode ret n e = ap (λ (k : ℕ). 0x0E ∷ (3 + k) ∷ 0x01 ∷ (octets_of 2 opcode ++ ret)) e

pub length-complete : (opcode : ℕ) (ret : List ℕ) → length (complete opcode ret) ≡ 5 + length ret
unfolding complete
length-complete opcode ret =
    let e = length-append (octets_of 2 opcode) ret in let l = length-octets 2 opcode in omega arith

-- the head: three stores and the opcode
pub head-put : (out : List ℕ) (opcode n : ℕ) {w : List ℕ} {r : Bool} → 5 ≤ length out
    → (r ≡ leb (3 + 2) (length (set (set (set out 0 0x0E) 1 (3 + n)) 2 0x01)))
    × (w ≡ put_if r (set (set (set out 0 0x0E) 1 (3 + n)) 2 0x01) 3 (octets_of 2 opcode))
    → w ≡ put out 0 (head_of opcode n)
unfolding head_of put
head-put out opcode n {w} h e =
    let o : List ℕ = set (set (set out 0 0x0E) 1 (3 + n)) 2 0x01 in
    let l : length o ≡ length out = simp length-set in
    let p : o ≡ put out 0 (0x0E ∷ (3 + n) ∷ 0x01 ∷ []) = three out h in
    put_then out 0 (0x0E ∷ (3 + n) ∷ 0x01 ∷ []) 3 (octets_of 2 opcode) (omega arith) p refl
    (put-made o 3 (octets_of 2 opcode) 2 e (omega arith)) refl
  where
    three : (l : List ℕ) → 5 ≤ length l
        → set (set (set l 0 0x0E) 1 (3 + n)) 2 0x01 ≡ put l 0 (0x0E ∷ (3 + n) ∷ 0x01 ∷ [])
    three [] b = absurd (omega arith)
    three (x ∷ []) b = absurd (omega arith)
    three (x ∷ y ∷ []) b = absurd (omega arith)
    three (x ∷ y ∷ z ∷ l) b = refl

module _ (out : List ℕ) (opcode : ℕ) {o1 : List ℕ} (h : answer_room ≤ length out) where
  -- two return parameters, three
  pub reply-two : (a b : ℕ) → o1 ≡ put out 0 (head_of opcode 2)
      → Replied out (set (set o1 5 a) 6 b) 7 (complete opcode (a ∷ b ∷ []))
  reply-two a b e =
      let n : length (head_of opcode 2) ≡ 5 = length-head_of opcode 2 in
      let w : List ℕ = head_of opcode 2 ++ (a ∷ []) in
      let l : length w ≡ 6 = length-append (head_of opcode 2) (a ∷ []) ∙ omega arith in
      let p : set o1 5 a ≡ put out 0 w = put-push out 0 (head_of opcode 2) a {n = 5} (omega arith) (omega arith) e in
      let q : set (set o1 5 a) 6 b ≡ put out 0 (w ++ (b ∷ [])) =
      put-push out 0 w b {n = 6} (omega arith) (omega arith) p in
      record {
        octets = q ∙ ap (put out 0) (append_assoc (head_of opcode 2) (a ∷ []) (b ∷ [])
            ∙ complete-of opcode (a ∷ b ∷ []) 2 refl);
        count = sym (length-complete opcode (a ∷ b ∷ []));
        most = omega arith;
      }

  pub reply-three : (a b c : ℕ) → o1 ≡ put out 0 (head_of opcode 3)
      → Replied out (set (set (set o1 5 a) 6 b) 7 c) 8 (complete opcode (a ∷ b ∷ c ∷ []))
  reply-three a b c e =
      let n : length (head_of opcode 3) ≡ 5 = length-head_of opcode 3 in
      let w : List ℕ = head_of opcode 3 ++ (a ∷ []) in
      let v : List ℕ = w ++ (b ∷ []) in
      let l : length w ≡ 6 = length-append (head_of opcode 3) (a ∷ []) ∙ omega arith in
      let k : length v ≡ 7 = length-append w (b ∷ []) ∙ omega arith in
      let p : set o1 5 a ≡ put out 0 w = put-push out 0 (head_of opcode 3) a {n = 5} (omega arith) (omega arith) e in
      let q : set (set o1 5 a) 6 b ≡ put out 0 v = put-push out 0 w b {n = 6} (omega arith) (omega arith) p in
      let t : set (set (set o1 5 a) 6 b) 7 c ≡ put out 0 (v ++ (c ∷ [])) =
      put-push out 0 v c {n = 7} (omega arith) (omega arith) q in
      let z : v ++ (c ∷ []) ≡ head_of opcode 3 ++ (a ∷ b ∷ c ∷ []) =
      append_assoc w (b ∷ []) (c ∷ []) ∙ append_assoc (head_of opcode 3) (a ∷ []) (b ∷ c ∷ []) in
      record {
        octets = t ∙ ap (put out 0) (z ∙ complete-of opcode (a ∷ b ∷ c ∷ []) 3 refl);
        count = sym (length-complete opcode (a ∷ b ∷ c ∷ []));
        most = omega arith;
      }

-- the features written behind the head, then the prefix with its length
pub reply-features : (out : List ℕ) (opcode : ℕ) (s : List ℕ) {o1 o2 o4 : List ℕ} {r2 r4 : Bool} {n : ℕ}
    → answer_room ≤ length out → length s ≡ block_size → n ≡ prefix_count s → n ≤ most_prefix
    → o1 ≡ put out 0 (head_of opcode (11 + n))
    → (r2 ≡ leb (5 + 10) (length o1)) × (o2 ≡ put_if r2 o1 5 (0x00 ∷ 0x00 ∷ features))
    → (r4 ≡ leb (16 + length (take (8 + n - 8) (drop prefix_at s))) (length (set o2 15 n)))
    × (o4 ≡ put_if r4 (set o2 15 n) 16 (take (8 + n - 8) (drop prefix_at s)))
    → Replied out o4 (16 + n) (complete opcode (features_of (prefix_in s)))
unfolding features_of prefix_in features
reply-features out opcode s {o1} {o2} {o4} {r2} {r4} {n} h l c b e1 e2 e4 =
    let k : 8 + n - 8 ≡ n = omega arith in
    let d : length (drop prefix_at s) ≡ length s - 8 = length-drop 8 s in
    let p : List ℕ = take n (drop prefix_at s) in
    let j : take (8 + n - 8) (drop prefix_at s) ≡ p = ap (λ (i : ℕ). take i (drop prefix_at s)) k in
    let y : length p ≡ n = length-take-le n (drop prefix_at s) (omega arith) in
    let a0 : List ℕ = head_of opcode (11 + n) in
    let f : List ℕ = 0x00 ∷ 0x00 ∷ features in
    let a2 : List ℕ = a0 ++ f in
    let a3 : List ℕ = a2 ++ (n ∷ []) in
    let n0 : length a0 ≡ 5 = length-head_of opcode (11 + n) in
    let n2 : length a2 ≡ 15 = length-append a0 f ∙ omega arith in
    let n3 : length a3 ≡ 16 = length-append a2 (n ∷ []) ∙ omega arith in
    let l1 : length o1 ≡ length out = ap length e1 ∙ length-put out 0 a0 (omega arith) in
    let q2 : o2 ≡ put out 0 a2 =
    put_then out 0 a0 5 f (omega arith) e1 (omega arith) (put-made o1 5 f 10 e2 (omega arith)) refl in
    let l2 : length o2 ≡ length out = ap length q2 ∙ length-put out 0 a2 (omega arith) in
    let q3 : set o2 15 n ≡ put out 0 a3 = put-push out 0 a2 n {n = 15} (omega arith) (omega arith) q2 in
    let l3 : length (set o2 15 n) ≡ length out = length-set o2 15 n ∙ l2 in
    let w : length (take (8 + n - 8) (drop prefix_at s)) ≡ n = ap length j ∙ y in
    let q4 : o4 ≡ put out 0 (a3 ++ p) =
    put_then out 0 a3 16 p (omega arith) q3 (omega arith)
    (put-made (set o2 15 n) 16 (take (8 + n - 8) (drop prefix_at s)) (length (take (8 + n - 8) (drop prefix_at s))) e4
    (omega arith)
    ∙ ap (put (set o2 15 n) 16) j) refl in
    let z : a3 ++ p ≡ a0 ++ (f ++ (n ∷ p)) = append_assoc a2 (n ∷ []) p ∙ append_assoc a0 f (n ∷ p) in
    let g : f ++ (n ∷ p) ≡ 0x00 ∷ 0x00 ∷ (features ++ (length p ∷ p)) = ap (λ (i : ℕ). f ++ (i ∷ p)) (sym y) in
    let v : p ≡ take (prefix_count s) (drop prefix_at s) = ap (λ (i : ℕ). take i (drop prefix_at s)) c in
    let ret : List ℕ = 0x00 ∷ 0x00 ∷ (features ++ (length p ∷ p)) in
    let t : length ret ≡ 11 + n = omega arith in
    let done : Replied out o4 (16 + n) (complete opcode ret) =
    record {
      octets = q4 ∙ ap (put out 0) (z ∙ ap (λ (x : List ℕ). a0 ++ x) g ∙ complete-of opcode ret (11 + n) (sym t));
      count = let u = length-complete opcode ret in omega arith;
      most = omega arith;
    } in
    rw v at done

-- in the block of a state these are its prefix
pub prefix-read : (m : Model) → sound_model m ≡ true → prefix_in (padded m) ≡ m.prefix
unfolding prefix_in prefix_count
prefix-read m e =
    let f : SoundModel m = sound-facts m e in
    let n : get_or (padded m) prefix_length_at 0 ≡ length m.prefix = read_count m in
    ap (λ (k : ℕ). take k (drop prefix_at (padded m)))
    (sym (at-is (get_or (padded m) prefix_length_at 0) most_prefix (omega (arith, f.prefix-most))) ∙ n)
    ∙ read-prefix m
