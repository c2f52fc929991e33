-- Laws of the definitions in Stepped.
use Rattle.std.specs.Prelude.{ℕ, ◌+◌, ◌-◌, ◌≤◌, ◌<◌, ◌≡◌, refl, Bool, true, false, ◌&&◌, eqb, leb, ltb, drop}
use Rattle.std.proofs.Common.{sym, ◌∙◌, arith, zero-add, eq-eqb, le-leb, lt-ltb, eqb-true, leb-true, drop-drop}
use Rattle.std.proofs.Math.Path.{ap}
use Rattle.std.proofs.lemmas.Bool.{false≢true}
use mathlib.Core.List.{List}
use Rattle.std.proofs.Math.ListN.{length}
use Rattle.laws.specs.TestsLaws.{and_both, and_left, and_right}
use Rattle.laws.specs.Put.{put}
use Rattle.laws.specs.PutLaws.{drop-after-put}
use Rattle.octets.specs.Little.{little}
use Rattle.sessions.specs.Machine.{answer_room, last_number}
use Rattle.model.specs.Types.{Model}
use Rattle.model.specs.Frames.{Typed}
use Rattle.model.specs.Sound.{sound_model}
use Rattle.model.specs.Block.{padded, ready}
use Rattle.model.specs.Layout.{block_size, position_at}
use Rattle.blocks.specs.BlockLaws.{padded-length, position-read}
use Rattle.steps.specs.Stepped.{Steps, Within, Taken}

-- octets past a part that was written are as they were, and so are those further on
pub rest_put : (out : List ℕ) (at : ℕ) (ys : List ℕ) {wrote : List ℕ} {k : ℕ} → at ≤ length out → wrote ≡ put out at ys
    → k ≡ at + length ys → drop k wrote ≡ drop k out
rest_put out at ys h q e = rw (e, q) (drop-after-put out at ys h)

pub rest-further : (xs ys : List ℕ) (a b : ℕ) → a ≤ b → drop a xs ≡ drop a ys → drop b xs ≡ drop b ys
rest-further xs ys a b h e =
    let k : a + (b - a) ≡ b = omega arith in
    ap (λ (i : ℕ). drop i xs) (sym k) ∙ sym (drop-drop (b - a) a xs) ∙ ap (drop (b - a)) e ∙ drop-drop (b - a) a ys
    ∙ ap (λ (i : ℕ). drop i ys) k

pub within-put : (out ys : List ℕ) {wrote : List ℕ} {n : ℕ} → wrote ≡ put out 0 ys → n ≡ length ys → n ≤ length out
    → Within out wrote n
within-put out ys q e h =
    record { count = h; rest = rest_put out 0 ys (omega arith) q (e ∙ sym (zero-add (length ys))) }

-- a frame that is not taken, and one that is
module _ (f : Typed) (form : Bool) (s out : List ℕ) where
  ready-sound : (m : Model) → sound_model m ≡ true → s ≡ padded m → m.position < last_number → answer_room ≤ length out
      → ready s out ≡ true
  unfolding ready
  ready-sound m z q p r =
      let l : length s ≡ block_size = ap (λ (x : List ℕ). length x) q ∙ padded-length m z in
      let j : little 4 s position_at ≡ m.position = rw q (position-read m z) in
      and_both (eq-eqb (length s) block_size l)
      (and_both (le-leb answer_room (length out) r) (lt-ltb (little 4 s position_at) last_number (omega arith)))

  pub taken_not : (ready s out && form) ≡ false → Taken f form s s out out 0
  taken_not e =
      record {
        stepped = λ m z q p r k. absurd (false≢true (sym e ∙ and_both (ready-sound m z q p r) k));
        unmoved = λ x. record { block = refl; octets = refl; count = refl };
        free = record { block = refl; output = refl; within = record { count = omega arith; rest = refl } };
      }

  pub taken-on : {after wrote : List ℕ} {n : ℕ} → (ready s out && form) ≡ true → Steps f s after out wrote n
      → length after ≡ length s → length wrote ≡ length out → Within out wrote n → Taken f form s after out wrote n
  taken-on e w a b x =
      record {
        stepped = λ m z q p r k. w m z q p;
        unmoved = λ y. absurd (false≢true (sym y ∙ e));
        free = record { block = a; output = b; within = x };
      }

-- the facts of a frame that may be taken
pub ready-facts : (s out : List ℕ) → ready s out ≡ true → (length s ≡ block_size) × (answer_room ≤ length out)
unfolding ready
ready-facts s out e =
    let a = eqb (length s) block_size in
    let b = leb answer_room (length out) in
    let c = ltb (little 4 s position_at) last_number in (
      eqb-true (length s) block_size (and_left a (b && c) e),
      leb-true answer_room (length out) (and_left b c (and_right a (b && c) e)),
    )
