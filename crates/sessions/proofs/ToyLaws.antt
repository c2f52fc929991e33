-- A small engine that keeps the laws, so that `failover` is not idle: a frame adds its body, a number, to a sum and
-- answers the sum; a frame that adds 0 is refused by 5. A cell of a list holds a whole number here, and in a line it is
-- shifted past LF.
-- Nothing of document 01's engine is in it.
use Rattle.std.specs.Prelude.{◌≡◌, refl, Bool, true, false, ℕ, zero, suc, ◌+◌, ◌-◌, ◌≤◌, leb}
use Rattle.std.proofs.Common.{ap, arith, leb-true, le-leb}
use Rattle.std.proofs.Math.Option.{Option, none, some}
use mathlib.Core.List.{List, [], ◌∷◌, flatten}
use Rattle.lines.specs.Hex.{lf}
use Rattle.sessions.specs.Machine.{Machine, Form, octets, text, Line, Outcome, refused, done}
use Rattle.sessions.specs.Machine.{Laws, answer_room, save_room, last_number}
use Rattle.sessions.specs.Session.{Call, give, save, refuse_if, state_after, entries, from_frame, judge, answer, image}
use Rattle.sessions.specs.Session.{reply, after, ran, walk, trace, executed, answers, lines_of, journal}
use Rattle.sessions.specs.Saved.{cut_from, cut, with_answer, resume, replay_lines, replay, frames}
use Rattle.sessions.specs.Saved.{SavedAfter, Failover}
use Rattle.sessions.specs.Past.{Steps}
use Rattle.sessions.proofs.ReplayLaws.{failover}

pub record State : Type 0 where
  pub at : ℕ
  pub sum : ℕ

abbrev pub kept : {A : Type 0} → Bool → A → Option A
kept true a = some a
kept false a = none

-- A cell's number: a line's is shifted by 11.
abbrev pub plain : Form → ℕ → ℕ
plain octets n = n
plain text n = n - 11

abbrev pub toy_read : Form → List ℕ → Option (Line ℕ)
toy_read w [] = none
toy_read w (n ∷ []) = none
toy_read w (n ∷ b ∷ r) = kept (leb (plain w n) last_number) (record { num = plain w n; body = plain w b })

abbrev pub toy_step : State → ℕ → State
toy_step s b = record { at = suc s.at; sum = s.sum + b }

abbrev pub toy_act : State → ℕ → Outcome State
toy_act s zero = refused 5
toy_act s (suc b) = done (toy_step s (suc b)) ((s.sum + suc b) ∷ [])

abbrev pub toy_decode : List ℕ → Option State
toy_decode [] = none
toy_decode (p ∷ []) = none
toy_decode (p ∷ q ∷ r) = kept (leb p last_number) (record { at = p; sum = q })

abbrev pub toy : Machine
toy =
    record {
      S = State;
      Body = ℕ;
      pos = λ s. s.at;
      sound = λ s. leb s.at last_number;
      read = toy_read;
      write = λ x. (x.num + 11) ∷ (x.body + 11) ∷ lf ∷ [];
      act = toy_act;
      encode = λ s. s.at ∷ s.sum ∷ [];
      decode = toy_decode;
    }

toy-step : (s t : State) (b : ℕ) (a : List ℕ) → toy_act s b ≡ done t a → t ≡ toy_step s b
toy-step s t zero a h = cc
toy-step s t (suc b) a h = cc

toy-fits : (w : Form) (r : List ℕ) (x : Line ℕ) → toy_read w r ≡ some x → x.num ≤ last_number
toy-fits w [] x h = let z : ◌≡◌ {A = ℕ} 0 1 = cc in absurd (omega arith)
toy-fits w (n ∷ []) x h = let z : ◌≡◌ {A = ℕ} 0 1 = cc in absurd (omega arith)
toy-fits w (n ∷ b ∷ r) x h = go (leb (plain w n) last_number) refl h
  where
    go :
        (t : Bool) → leb (plain w n) last_number ≡ t
        → kept t (record { num = plain w n; body = plain w b }) ≡ some x → x.num ≤ last_number
    go true p q =
        let e : record { num = plain w n; body = plain w b } ≡ x = cc in
        rw (← e) (leb-true (plain w n) last_number p)
    go false p q = let z : ◌≡◌ {A = ℕ} 0 1 = cc in absurd (omega arith)

toy-reads : (x : Line ℕ) → x.num ≤ last_number → toy_read text (toy.write x) ≡ some x
toy-reads x h =
    let n : x.num + 11 - 11 ≡ x.num = omega arith in
    let b : x.body + 11 - 11 ≡ x.body = omega arith in
    rw (n, b, le-leb x.num last_number h)

-- The laws hold of it.
pub toy-laws : Laws toy
toy-laws =
    record {
      advance = λ s t x a ex. ap (λ v. v.at) (toy-step s t x.body a ex.acts);
      keeps = λ s t x a ex. rw (toy-step s t x.body a ex.acts) (le-leb (suc s.at) last_number ex.room);
      restores = λ s h. rw h;
      fits = toy-fits;
      reads = λ w r x h. toy-reads x (toy-fits w r x h);
      one_line =
          λ w r x h.
          record {
            front = (x.num + 11) ∷ (x.body + 11) ∷ [];
            clear = (omega arith, (omega arith, tt));
            whole = refl;
          };
    }

pub toy-steps : Steps toy
toy-steps = record { step = toy_step; acts = λ s t x a ex. toy-step s t x.body a ex.acts }

abbrev pub toy_fresh : State
toy_fresh = record { at = 0; sum = 0 }

pub toy-failover :
    (calls : List Call) (k : ℕ) (img : List ℕ) (at : State)
    → SavedAfter toy toy_fresh calls k img at → Failover toy toy_fresh calls k img at
unfolding last_number
toy-failover = failover toy toy-laws toy_fresh refl refl

-- A session with a frame as octets, the same again (1), one given too little room (3), two saves in a row, a gap (2), a
-- frame as its line, and one that adds 0 (5).
abbrev pub toy_calls : List Call
toy_calls =
    give 2880 octets (1 ∷ 5 ∷ [])
    ∷ give 2880 octets (1 ∷ 5 ∷ [])
    ∷ give 2879 octets (2 ∷ 7 ∷ [])
    ∷ save 13162
    ∷ save 13162
    ∷ give 2880 octets (3 ∷ 7 ∷ [])
    ∷ give 2880 text (13 ∷ 18 ∷ 10 ∷ [])
    ∷ give 2880 octets (3 ∷ 0 ∷ [])
    ∷ []

abbrev pub toy_saved : State
toy_saved = record { at = 1; sum = 5 }

-- Its second save is of frame 1 ..
pub toy-saved : SavedAfter toy toy_fresh toy_calls 1 (1 ∷ 5 ∷ []) toy_saved
unfolding frames executed trace walk ran after reply answer judge image refuse_if state_after entries
    last_number
toy-saved =
    record {
      before =
          give 2880 octets (1 ∷ 5 ∷ [])
          ∷ give 2880 octets (1 ∷ 5 ∷ [])
          ∷ give 2879 octets (2 ∷ 7 ∷ [])
          ∷ save 13162
          ∷ [];
      lent = 13162;
      later =
          give 2880 octets (3 ∷ 7 ∷ [])
          ∷ give 2880 text (13 ∷ 18 ∷ 10 ∷ [])
          ∷ give 2880 octets (3 ∷ 0 ∷ [])
          ∷ [];
      split = refl;
      count = refl;
      state = refl;
      saved = refl;
    }

-- .. and replay of the journal from frame 1, in which frame 1 is seen, computes to the answer of frame 2 alone.
pub toy-replayed :
    replay toy (λ i. 2880) toy_saved (journal toy toy_fresh toy_calls 1)
    ≡ record { state = record { at = 2; sum = 12 }; answers = (12 ∷ []) ∷ []; stop = none }
unfolding replay replay_lines resume with_answer cut cut_from journal lines_of flatten from_frame
    executed trace ran after reply answer judge image refuse_if state_after entries
    last_number
toy-replayed = refl
