-- A replay that takes no line, one that is held to a frame, and one that a turn ends.
use Rattle.std.specs.Prelude.{ℕ, ◌-◌, ◌≤◌, ◌≡◌, refl, List, [], length, take, drop, Option, None, Result, Ok, Err}
use Rattle.std.proofs.Common.{inr, sym, ap, ◌∙◌, arith}
use Rattle.std.proofs.Math.Option.{none}
use Rattle.laws.specs.Tests.{pick}
use Rattle.octets.specs.Numbers.{number_at}
use Rattle.lines.specs.Hex.{is_text}
use Rattle.lines.specs.FrameLaws.{frame-short}
use Rattle.refusals.specs.declared.Refusal.{Refusal}
use Rattle.sessions.specs.Machine.{Outcome, refused, done, octets, text}
use Rattle.sessions.specs.Session.{written}
use Rattle.model.specs.Frames.{read}
use Rattle.model.specs.Layout.{position_at}
use Rattle.engine.specs.Calls.{wrote_of}
use Rattle.engine.specs.Replays.{turn_of}
use Rattle.engine.specs.EndsLaws.{position-held}
use Rattle.engine.specs.Takes.{Holds, NextAt}
use Rattle.engine.specs.TextsLaws.{read_none}

-- no octets and no characters are no frame
no-octets : read octets [] ≡ none
unfolding read
no-octets = read_none [] (sym (frame-short [] (omega arith)))

no-text : none ≡ read text []
unfolding read is_text pick
no-text = refl

-- no line is taken
pub held_back : (t : List ℕ) (at : ℕ) (buf : List ℕ) → Holds t at buf (record { end = at; count = 0 })
held_back t at buf =
    let z : at - at ≡ 0 = omega arith in
    record {
      fits = omega arith;
      same = no-octets ∙ no-text ∙ ap (λ (n : ℕ). read text (take n (drop at t))) (sym z);
    }

-- a replay that is held to a frame takes none from that frame on
pub next-held : (s : List ℕ) (last : ℕ) (t : List ℕ) (at p : ℕ) (buf : List ℕ) → p ≡ number_at 4 s position_at
    → 4 ≤ length s → last ≤ p → NextAt s last t at buf None
next-held s last t at p buf is wide h = inr (position-held s last p is wide h)

-- a turn that ends a replay wrote nothing
ok-not : (k : ℕ) (v : Refusal) → ◌≡◌ {A = Result ℕ Refusal} (Ok k) (Err v) → ⊥
ok-not k v e = let z : ◌≡◌ {A = ℕ} 0 1 = cc in omega arith

pub count-none : (o : Outcome (List ℕ)) (v : Refusal) → turn_of (wrote_of o) ≡ Err v → 0 ≡ length (written o)
unfolding turn_of wrote_of written
count-none (refused n) v e = refl
count-none (done t l) v e = absurd (ok-not (length l) v e)
