-- Laws of the definitions in Edges.
use Rattle.std.specs.Prelude.{ℕ, ◌+◌, ◌*◌, ◌≡◌, refl, Bool, true, ◌&&◌, List, [], ◌∷◌, ◌++◌, map, eqb, length, drop, take}
use Rattle.std.proofs.Common.{sym, ap, ◌∙◌, arith, take_at, drop_at, eqb-true}
use Rattle.laws.specs.Tests.{sames}
use Rattle.laws.specs.TestsLaws.{sames-eq, eq-sames, and_left, and_right, and_both}
use Rattle.laws.specs.Loops.{every, each}
use Rattle.lines.specs.Hex.{text_of}
use Rattle.lines.specs.TextsLaws.{length-text}
use Rattle.sessions.specs.Machine.{Outcome, refused, done, octets, answer_room}
use Rattle.sessions.specs.Session.{Call, give, answer, state_after, walk, after, reply}
use Rattle.sessions.proofs.HistoryLaws.{walk-induction}
use Rattle.model.specs.Types.{Model, fresh}
use Rattle.model.specs.Sound.{sound_model, sound_settings, octets_up_to}
use Rattle.model.specs.Image.{head_row, records, image_text}
use Rattle.model.specs.Engine.{models}
use Rattle.model.specs.Rows.{Example, Reply, reply_of, same, imaged, answered, reached, right, session}
use Rattle.model.specs.Requests.{equal_added, equal_start, equal_low, equal_good, t06sizes, t06events, t06texts, t06straddle, t06off, t06window, t06start, t03sizes, t05full, t05two, t05first, t05kept, requests}
use Rattle.model.specs.Second.{t13options, t13keys, t13types, t13sampling, t13order, t13peer, t13others, t13unheard, t13directed, t13window, t13twice, t13off, t13none, t13kept, seconds}
use Rattle.model.specs.Edges.{p2good, p2low, p3, p4sixty, p4image, p4minus, p4plus, p5, p6, p7, p8, read_prefix, forms, p9, p10, edges}
use Rattle.model.proofs.EdgesLaws.{edges-hold}
use Rattle.model.specs.InFull.{told_right, in_full}
use Rattle.model.specs.Rows.{all_right}
use Rattle.steps.proofs.KeepsLaws.{fresh-sound}
use Rattle.steps.specs.ExecutedLaws.{prefix-stays}
use Rattle.blocks.specs.RowsLaws.{length-head_row}
use Rattle.editions.specs.Editions.{sound_gateway, image_on}
use Rattle.wholes.specs.Whole.{whole}
use Rattle.wholes.specs.Engine.{engine, begin}
use Rattle.failover.proofs.LaidLaws.{onto}
use Rattle.failover.proofs.ProofLaws.{laws}
use Rattle.failover.specs.Alone.{line_only}
use Rattle.failover.specs.Alone.{alone}
use Rattle.failover.proofs.AloneLaws.{alone-fresh, alone-sound, alone-answer, alone-after, alone-left, alone-image}
use Rattle.failover.proofs.BlocksLaws.{answer-blocks, given-blocks, encode-blocks, begin-blocks}
use Rattle.edges.specs.Edges.{lined, example_with_edition}

-- the same replies
reply-whole : (o : Outcome Model) → reply_of (onto whole (onto alone o)) ≡ reply_of o
unfolding reply_of onto
reply-whole (refused n) = refl
reply-whole (done m l) = refl

module _ (m : Model) (ok : sound_model m ≡ true) (f : List ℕ) where
  good : sound_gateway (alone m) ≡ true
  good = alone-sound m ok

  says : reply_of (answer engine answer_room (whole (alone m)) octets f) ≡ reply_of (answer models answer_room m octets f)
  says =
      ap reply_of (answer-blocks (alone m) good answer_room octets f
      ∙ ap (onto whole) (alone-answer m ok answer_room octets f))
      ∙ reply-whole (answer models answer_room m octets f)

  goes : state_after (whole (alone m)) (answer engine answer_room (whole (alone m)) octets f)
      ≡ whole (alone (state_after m (answer models answer_room m octets f)))
  goes = given-blocks (alone m) good answer_room octets f ∙ ap whole (alone-after m ok answer_room octets f)

answered-whole : (m : Model) → sound_model m ≡ true → (fs : List (List ℕ)) (rs : List Reply)
    → answered engine begin (whole (alone m)) fs rs ≡ answered models fresh m fs rs
unfolding answered
answered-whole m ok [] [] = refl
answered-whole m ok [] (r ∷ rs) = refl
answered-whole m ok (f ∷ fs) [] = refl
answered-whole m ok (f ∷ fs) (r ∷ rs) =
    ap (λ (x : Reply). same x r
    && answered engine begin (state_after (whole (alone m)) (answer engine answer_room (whole (alone m)) octets f))
    fs rs) (says m ok f)
    ∙ ap (λ (s : List ℕ). same (reply_of (answer models answer_room m octets f)) r && answered engine begin s fs rs)
    (goes m ok f)
    ∙ ap (λ (b : Bool). same (reply_of (answer models answer_room m octets f)) r && b)
    (answered-whole (state_after m (answer models answer_room m octets f)) (alone-left m ok answer_room octets f) fs rs)

fresh_prefix : (opcode : ℕ) (prefix : List ℕ) → (fresh opcode prefix).prefix ≡ prefix
unfolding fresh
fresh_prefix opcode prefix = refl

-- the state at the end of a row: sound, with the prefix that it began with
calls : List (List ℕ) → List Call
calls fs = map (give answer_room octets) fs

reached-walk : (m : Model) (fs : List (List ℕ)) → reached models fresh m fs ≡ walk models m (calls fs)
unfolding reached walk after reply calls
reached-walk m [] = refl
reached-walk m (f ∷ fs) = reached-walk (state_after m (answer models answer_room m octets f)) fs

prefix-there : (m : Model) (fs : List (List ℕ)) → (reached models fresh m fs).prefix ≡ m.prefix
prefix-there m fs =
    ap (λ (n : Model). n.prefix) (reached-walk m fs)
    ∙ walk-induction models laws (λ p s. s.prefix ≡ m.prefix) m refl
    (λ p s t x a e q. prefix-stays s t x.body a e.acts ∙ q) (calls fs)

image-whole : (m : Model) → sound_model m ≡ true → (fs : List (List ℕ))
    → engine.encode (reached engine begin (whole (alone m)) fs) ≡ image_on (alone (reached models fresh m fs))
unfolding reached
image-whole m ok [] = encode-blocks (alone m) (alone-sound m ok)
image-whole m ok (f ∷ fs) =
    ap (λ (s : List ℕ). engine.encode (reached engine begin s fs)) (goes m ok f)
    ∙ image-whole (state_after m (answer models answer_room m octets f)) (alone-left m ok answer_room octets f) fs

-- a row in range whose image, if it is compared, opens with a line as long as its A0 line is
unfoldable pub opens_full : List ℕ → List (List ℕ) → Bool
opens_full prefix [] = true
opens_full prefix (l ∷ ls) = eqb (length l) (9 + length prefix)

unfoldable pub in_range : Example → Bool
in_range r = sound_settings r.opcode r.prefix && opens_full r.prefix r.image

compared : (n : Model) (prefix l : List ℕ) (ls : List (List ℕ)) → n.prefix ≡ prefix
    → eqb (length l) (9 + length prefix) ≡ true
    → sames (image_text n) (each text_of (l ∷ ls)) ≡ true
    → sames (image_on (alone n)) (each text_of (l ∷ (line_only prefix ∷ ls))) ≡ true
unfolding image_text records each
compared n prefix l ls q o e =
    let h : List ℕ = text_of (0xA0 ∷ head_row n) in
    let r : List ℕ = each text_of (drop 1 (records n)) in
    let w : h ++ r ≡ text_of l ++ each text_of ls = sames-eq (h ++ r) (text_of l ++ each text_of ls) e in
    let a : length (text_of l) ≡ 2 * length l + 1 = length-text l in
    let b : length h ≡ 2 * length (0xA0 ∷ head_row n) + 1 = length-text (0xA0 ∷ head_row n) in
    let c : length (head_row n) ≡ 8 + length n.prefix = length-head_row n in
    let d : length n.prefix ≡ length prefix = ap length q in
    let k : length l ≡ 9 + length prefix = eqb-true (length l) (9 + length prefix) o in
    let m : length (text_of l) ≡ length h = omega arith in
    let x : h ≡ text_of l =
    sym (take_at h r (length h) refl) ∙ ap (take (length h)) w ∙ take_at (text_of l) (each text_of ls) (length h) m in
    let y : r ≡ each text_of ls =
    sym (drop_at h r (length h) refl) ∙ ap (drop (length h)) w ∙ drop_at (text_of l) (each text_of ls) (length h) m in
    eq-sames (image_on (alone n)) (text_of l ++ (text_of (line_only prefix) ++ each text_of ls))
    (alone-image n ∙ ap (λ (u : List ℕ). u ++ (text_of (line_only n.prefix) ++ r)) x
    ∙ ap (λ (u : List ℕ). text_of l ++ (text_of (line_only u) ++ r)) q
    ∙ ap (λ (u : List ℕ). text_of l ++ (text_of (line_only prefix) ++ u)) y)

imaged-so : (n : Model) (prefix : List ℕ) (ls : List (List ℕ)) → n.prefix ≡ prefix → opens_full prefix ls ≡ true
    → imaged ls (image_text n) ≡ true
    → imaged (lined prefix ls) (image_on (alone n)) ≡ true
unfolding imaged lined opens_full
imaged-so n prefix [] q o e = refl
imaged-so n prefix (l ∷ ls) q o e = compared n prefix l ls q o e

-- a row over records holds of the engine over blocks, with the line
right_so : (r : Example) → in_range r ≡ true → right models fresh r ≡ true
    → right engine begin (example_with_edition r) ≡ true
unfolding right in_range example_with_edition
right_so r g e =
    let ok : sound_settings r.opcode r.prefix ≡ true =
    and_left (sound_settings r.opcode r.prefix) (opens_full r.prefix r.image) g in
    let m : Model = fresh r.opcode r.prefix in
    let s : sound_model m ≡ true = fresh-sound r.opcode r.prefix ok in
    let a = and_left (answered models fresh m r.frames r.replies)
    (imaged r.image (image_text (reached models fresh m r.frames))) e in
    let b = and_right (answered models fresh m r.frames r.replies)
    (imaged r.image (image_text (reached models fresh m r.frames))) e in
    let i : begin r.opcode r.prefix ≡ whole (alone m) =
    begin-blocks r.opcode r.prefix ok ∙ ap whole (alone-fresh r.opcode r.prefix) in
    ap (λ (t : List ℕ). answered engine begin t r.frames r.replies
    && imaged (lined r.prefix r.image) (engine.encode (reached engine begin t r.frames))) i
    ∙ ap (λ (t : List ℕ). answered engine begin (whole (alone m)) r.frames r.replies
    && imaged (lined r.prefix r.image) t) (image-whole m s r.frames)
    ∙ and_both (answered-whole m s r.frames r.replies ∙ a)
    (imaged-so (reached models fresh m r.frames) r.prefix r.image
    (prefix-there m r.frames ∙ began r.opcode r.prefix)
    (and_right (sound_settings r.opcode r.prefix) (opens_full r.prefix r.image) g) b)
  where
    began : (opcode : ℕ) (prefix : List ℕ) → (fresh opcode prefix).prefix ≡ prefix
    began opcode prefix = fresh_prefix opcode prefix

pub rows-so : (rs : List Example) → every in_range rs ≡ true → every (right models fresh) rs ≡ true
    → every (right engine begin) (map example_with_edition rs) ≡ true
unfolding every
rows-so [] g e = refl
rows-so (r ∷ rs) g e =
    and_both (right_so r (and_left (in_range r) (every in_range rs) g)
    (and_left (right models fresh r) (every (right models fresh) rs) e))
    (rows-so rs (and_right (in_range r) (every in_range rs) g)
    (and_right (right models fresh r) (every (right models fresh) rs) e))

edges-in-range : every in_range edges ≡ true
unfolding every in_range opens_full edges session p2good p2low p3 p4sixty p4image p4minus p4plus p5 p6 p7 p8 read_prefix
    forms p9 p10 requests equal_added equal_start equal_low equal_good sound_settings octets_up_to
    t06sizes t06events t06texts t06straddle t06off t06window t06start t03sizes t05full t05two t05first t05kept
    seconds t13options t13keys t13types t13sampling t13order t13peer t13others t13unheard t13directed t13window
    t13twice t13off t13none t13kept
edges-in-range = refl

-- P2 to P10 and the rows of requests hold of the engine over blocks.
pub engine-edges : every (right engine begin) (map example_with_edition edges) ≡ true
unfolding all_right
engine-edges = rows-so edges edges-in-range
    (and_right (every (told_right models fresh) in_full) (every (right models fresh) edges) edges-hold)
