-- Editions given again in time: none that is awaited is passed. Document 02, T-12. Assumes nothing.
use Rattle.std.specs.Prelude.{ℕ, suc, ◌≤◌, ◌<◌, ◌≡◌, refl, Bool, true, List, [], ◌∷◌, ◌++◌, map, length, drop}
use Rattle.std.proofs.Common.{sym, ap, ◌∙◌, subst, arith}
use Rattle.sessions.specs.Machine.{Outcome, refused, done}
use Rattle.sessions.specs.Session.{state_after}
use Rattle.sessions.proofs.WovenLaws.{heads, not-empty}
use Rattle.model.specs.Block.{model_of as held_in}
use Rattle.editions.specs.Editions.{Edition}
use Rattle.editions.specs.Engine.{Addition}
use Rattle.wholes.specs.Engine.{engine, add_whole}
use Rattle.failover.proofs.AwaitsLaws.{Below, replay-forward, below_less}
use Rattle.turns.specs.BlocksLaws.{laws as block_laws}
use Rattle.delivery.specs.Added.{growing_blocks}
use Rattle.delivery.specs.Firmware.{StandbyMove, replays, adds, MovesWhile, given_in, NotLate}

-- the editions of additions
unfoldable pub editions_of : List Addition → List Edition
editions_of al = map (λ (a : Addition). a.edition) al

pub below-above : (n : ℕ) (al : List Addition) → NotLate n (editions_of al) → Below n al
unfolding editions_of
below-above n [] h = tt
below-above n (a ∷ al) h = let k : n < a.edition.from = h.0 in (omega arith, below-above n al h.1)

-- two equal lists without their first elements
pub rests : (e d : Edition) (es ds : List Edition) → e ∷ es ≡ d ∷ ds → es ≡ ds
rests e d es ds h = ap rest h
  where
    rest : List Edition → List Edition
    rest [] = []
    rest (x ∷ l) = l

-- an addition leaves the position, whatever the block
added-place : (s : List ℕ) (a : Addition)
    → (held_in (state_after s (add_whole s a.edition))).position ≡ (held_in s).position
unfolding state_after
added-place s a = go (add_whole s a.edition) refl
  where
    go : (o : Outcome (List ℕ)) → add_whole s a.edition ≡ o → (held_in (state_after s o)).position ≡ (held_in s).position
    go (refused n) e = refl
    go (done t w) e = growing_blocks.stays s t a w e

-- Editions given in time, and none late at the end: at the beginning all are above the position.
pub in-time : (goes : ℕ → Bool) (s t : List ℕ) (xs : List StandbyMove) (u v : List ℕ) (al : List Addition)
    (due : List Edition) → MovesWhile goes s t xs u v
    → editions_of al ≡ given_in xs ++ due → NotLate (held_in u).position due → Below (held_in s).position al
unfolding given_in editions_of
in-time goes s t [] u v al due k e h =
    below-above (held_in s).position al
    (subst (λ (es : List Edition). NotLate (held_in s).position es) (sym e)
    (subst (λ (b : List ℕ). NotLate (held_in b).position due) (sym k.0) h))
in-time goes s t (replays x ∷ xs) u v al due k e h =
    below_less (held_in s).position (held_in x.block).position al
    (subst (λ (b : List ℕ). (held_in s).position ≤ (held_in b).position) (sym k.1.state)
    (replay-forward engine block_laws goes (length x.out) s x.shown))
    (in-time goes x.block (drop x.taken t) xs u v al due k.2 e h)
in-time goes s t (adds d b r ∷ xs) u v [] due k e h = absurd (not-empty _ _ (sym e))
in-time goes s t (adds d b r ∷ xs) u v (a ∷ al) due k e h =
    let i : a.edition ≡ d = heads _ _ _ _ e in
    let n : (held_in s).position < a.edition.from =
    subst (λ (c : Edition). (held_in s).position < c.from) (sym i) k.0 in
    let m : (held_in b).position ≡ (held_in s).position =
    ap (λ (c : List ℕ). (held_in c).position) (k.1.1 ∙ ap (λ (c : Edition). state_after s (add_whole s c)) (sym i))
    ∙ added-place s a in
    (omega arith, subst (λ (c : ℕ). Below c al) m (in-time goes b t xs u v al due k.2 (rests _ _ _ _ e) h))

-- .. and so are their editions
above-below : (n : ℕ) (al : List Addition) → Below n al → NotLate n (editions_of al)
unfolding editions_of
above-below n [] h = tt
above-below n (a ∷ al) h = let k : suc n ≤ a.edition.from = h.0 in (omega arith, above-below n al h.1)

pub not_late : (s t : List ℕ) (xs : List StandbyMove) (u v : List ℕ) (al : List Addition) (due : List Edition)
    → MovesWhile (λ p. true) s t xs u v
    → editions_of al ≡ given_in xs ++ due → NotLate (held_in u).position due
    → NotLate (held_in s).position (given_in xs ++ due)
not_late s t xs u v al due k e h =
    subst (λ (es : List Edition). NotLate (held_in s).position es) e
    (above-below (held_in s).position al (in-time (λ p. true) s t xs u v al due k e h))
