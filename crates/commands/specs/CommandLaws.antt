-- What it takes to meet the contract of a vendor command on the lent block. Document 01, Commands. Assumes
-- nothing.
use Rattle.std.specs.Prelude.{ℕ, ◌+◌, ◌≤◌, ◌<◌, ◌≡◌, refl, Bool, true, false, ◌&&◌, List, [], ◌∷◌, leb, eqb, length}
use Rattle.std.proofs.Common.{sym, ap, ◌∙◌, arith, eq-eqb, ne_eqb, le-leb}
use Rattle.std.proofs.lemmas.Bool.{false≢true}
use Rattle.laws.specs.TestsLaws.{pick-false, and_both}
use Rattle.laws.specs.Put.{put, put_if}
use Rattle.laws.specs.PutLaws.{put_of}
use Rattle.octets.specs.Little.{little, octets_of}
use Rattle.octets.specs.Numbers.{number_at}
use Rattle.octets.specs.NumbersLaws.{number-of}
use Rattle.sessions.specs.Machine.{answer_room, last_number}
use Rattle.model.specs.Types.{Model, moved}
use Rattle.model.specs.Frames.{command}
use Rattle.model.specs.Commands.{sub_of, status, failure, commanded}
use Rattle.model.specs.Events.{complete}
use Rattle.model.specs.Step.{step_typed, answer_typed}
use Rattle.model.specs.Sound.{sound_model}
use Rattle.model.specs.Block.{padded, advanced}
use Rattle.blocks.specs.BlockLaws.{padded-length}
use Rattle.blocks.specs.UpdatesLaws.{advanced-moved}
use Rattle.steps.specs.ExecutedLaws.{commanded-same}
use Rattle.steps.specs.Stepped.{Steps}
use Rattle.statuses.specs.AnswersLaws.{octet-at}
use Rattle.commands.specs.Replies.{Replied}
use Rattle.statuses.specs.Statuses.{adds_by}
use Rattle.commands.specs.Ran.{Ran, Runs}
use Rattle.commands.specs.RanLaws.{adds-of, failure-other, ran-failed, opcode-at}
use Rattle.model.specs.Layout.{block_size, opcode_at, position_at}

-- the sub-opcode that was read
pub sub_is : (l : List ℕ) (n : ℕ) {k : ℕ} → k ≡ number_at 1 l 0 → k ≡ n → sub_of l ≡ n
unfolding sub_of
sub_is l n g e = sym (octet-at l 0 g) ∙ e

-- every other sub-opcode
pub other-failed : (m : Model) (s l out : List ℕ) {after wrote : List ℕ} {n o k : ℕ} → sound_model m ≡ true → s
    ≡ padded m
    → o ≡ number_at 2 s opcode_at → k ≡ number_at 1 l 0 → (k ≡ 0 → ⊥) → adds_by k ≡ false → (k ≡ 4 → ⊥) → (k ≡ 5 → ⊥)
    → after ≡ s
    → Replied out wrote n (complete o (1 ∷ k ∷ [])) → Ran m l after out wrote n
unfolding status
other-failed m s l out {after} {wrote} {n} {o} {k} e q p g a b c d w r =
    let u : sub_of l ≡ k = sub_is l k g refl in
    let t : status m l ≡ 1 =
    pick-false _ _ (ne_eqb (sub_of l) 0 (λ y. a (sym u ∙ y))) ∙ pick-false _ _ (adds-of l (sym u) b)
    ∙ pick-false _ _ (ne_eqb (sub_of l) 4 (λ y. c (sym u ∙ y))) ∙ pick-false _ _ (ne_eqb (sub_of l) 5 (λ y. d (sym u
    ∙ y))) in
    let f : failure (status m l) l ≡ 1 ∷ k ∷ [] = failure-other (status m l) l k u b ∙ ap (λ (x : ℕ). x ∷ k ∷ []) t in
    ran-failed m l out (λ (y : status m l ≡ 0). omega arith) f (w ∙ q) (rw (opcode-at m s e q p) at r)

-- the position moved
pub position-moved : (s : List ℕ) {t : List ℕ} → length s ≡ block_size → t ≡ advanced s
    → (m : Model) → s ≡ padded m → m.position < 4294967295 → t ≡ padded (moved m)
position-moved s l e m q h = e ∙ advanced-moved m s q (omega arith) (omega arith)

-- the whole: executed, then moved
pub answered : (l s out : List ℕ) {s1 s2 wrote : List ℕ} {n : ℕ} → Runs l s s1 out wrote n
    → ((m : Model) → s1 ≡ padded m → m.position < 4294967295 → s2 ≡ padded (moved m))
    → (o : ℕ) → Steps (command o l) s s2 out wrote n
unfolding step_typed answer_typed last_number
answered l s out f g o =
    λ m e q p.
    let x = f.0 m e q in
    let k : (commanded m l).position ≡ m.position = (commanded-same m l).position in
    record {
      block = g (commanded m l) x.block (omega arith);
      octets = x.reply.octets;
      count = x.reply.count;
    }
