-- What was seen of a session is the session of the definitions: its block at the end, its executed frames, its
-- journal and its images. Document 01, Sessions and failover. Assumes nothing.
use Prim.Native.Nat.{ℕ, zero, suc}
use Rattle.std.specs.Prelude.{◌≡◌, Bool, not, ltb, length, take, drop}
use Rattle.std.proofs.Math.Path.{refl, ap}
use Rattle.std.proofs.Common.{sym, ◌∙◌, arith}
use Rattle.std.proofs.Math.Bool.{true, false}
use Rattle.std.proofs.lemmas.Bool.{false≢true}
use Rattle.std.proofs.Math.Option.{Option, none, some}
use mathlib.Core.List.{List, [], ◌∷◌, ◌++◌, map, flatten, reverse, reverse_aux}
use Rattle.laws.specs.Tests.{pick}
use Rattle.laws.specs.Rows.{flat}
use Rattle.refusals.specs.Numbers.{number}
use Rattle.rule.specs.Radio.{Frame}
use Rattle.sessions.specs.Machine.{Form, text, Line, Outcome, refused, done, answer_room, save_room}
use Rattle.sessions.specs.Session.{give, save, Entry, entries, refuse_if, written, judge, answer, image, reply, ran, state_after, from_frame, lines_of}
use Rattle.sessions.specs.Additions.{Act, call, adds, reply_to, after_act, walk_on, ran_by, trace_on, accepted_one, added_by, added_on, journal_on}
use Rattle.sessions.proofs.GivenLaws.{fronted}
use Rattle.sessions.proofs.RunsLaws.{Run}
use Rattle.model.specs.Frames.{Body, read, write}
use Rattle.model.specs.Block.{model_of}
use Rattle.wholes.specs.Whole.{sound_whole}
use Rattle.wholes.specs.Engine.{engine, add_whole}
use Rattle.model.proofs.Radio.{radio, core}
use Rattle.engine.specs.Calls.{case_of, case_from, cases}
use Rattle.bournejade.specs.NumberedLaws.{is_number, known, known-answer, known-add}
use Rattle.bournejade.specs.Gives.{number_of, Gave}
use Rattle.failover.specs.Grows.{growing}
use Rattle.failover.specs.Claim.{past_on}
use Rattle.failover.proofs.Proved.{laws}
use Rattle.failover.specs.ReadLaws.{reads}
use Rattle.replays.proofs.AheadLaws.{said_by}
use Rattle.delivery.specs.Given.{line_given}
use Rattle.delivery.specs.GivenLaws.{line-given}
use Rattle.delivery.specs.Firmware.{Step, gave, saved, added, block_after, Kept, Seen, Heard, heard, heard_in, accepted, accepted_in, kept_from, answers_of, frame_read, frames_kept}
use Rattle.delivery.specs.Added.{growing_blocks}
use Rattle.delivery.proofs.TimelyLaws.{editions_of}
use Rattle.delivery.proofs.ShownLaws.{front}
use Rattle.editions.specs.Editions.{Edition, Gateway, fresh_on, image_on}
use Rattle.editions.specs.Engine.{gateways, Addition}
use Rattle.wholes.specs.Whole.{held_whole}

-- the call of the definitions that it is
unfoldable pub act_of : Step → Act engine growing_blocks
act_of (gave w raw out t left n r) = call (give (length out) w raw)
act_of (saved out left n r) = call (save (length out))
act_of (added a t r) = adds a

-- a call's block is that of the definitions
step_after : (s : List ℕ) (x : Step) → Kept s x → block_after s x ≡ after_act engine growing_blocks s (act_of x)
unfolding block_after act_of after_act reply_to reply
step_after s (gave w raw out t left n r) k = k.state
step_after s (saved out left n r) k = k.state
step_after s (added a t r) k = k.1

-- an executed frame as it is kept
unfoldable pub heard_of : Entry Body → Heard
heard_of e = record { line = write e.line; answer = e.wrote }

-- .. and so is what is kept of it
module _ (s : List ℕ) (w : Form) (raw out t left : List ℕ) (n r : ℕ) where
  silent : (k : ℕ) → is_number k ≡ true → r ≡ k → heard (gave w raw out t left n r) ≡ []
  unfolding heard is_number case_of case_from cases number pick
  silent k e q = go r q
    where
      go : (x : ℕ) → x ≡ k → heard (gave w raw out t left n x) ≡ []
      go zero u = absurd (false≢true (ap is_number u ∙ e))
      go (suc x) u = refl

  spoken : (x : Line Body) → read w raw ≡ some x → (o : Outcome (List ℕ)) → known o ≡ true → Gave o s out t left n r
      → heard (gave w raw out t left n r) ≡ map heard_of (entries (some x) o)
  unfolding known entries number_of written heard heard_of
  spoken x i (refused k) e g = silent k e g.number
  spoken x i (done u l) e g = go r g.number
    where
      go : (y : ℕ) → y ≡ 0 → heard (gave w raw out t left n y) ≡ record { line = write x; answer = l } ∷ []
      go zero q =
          ap (λ (a : List ℕ). record { line = line_given w raw; answer = a } ∷ [])
          (front out l left n g.count g.output)
          ∙ ap (λ (a : List ℕ). record { line = a; answer = l } ∷ []) (sym (line-given w raw x i))
      go (suc y) q = cc

  unread : (a b : Bool) → Gave (refuse_if a 7 (refuse_if b 3 (refused 4))) s out t left n r
      → heard (gave w raw out t left n r) ≡ []
  unfolding refuse_if number_of is_number case_of case_from cases number pick
  unread true b g = silent 7 refl g.number
  unread false true g = silent 3 refl g.number
  unread false false g = silent 4 refl g.number

  step-gave : Gave (answer engine (length out) s w raw) s out t left n r
      → heard (gave w raw out t left n r) ≡ map heard_of (entries (read w raw) (answer engine (length out) s w raw))
  unfolding answer judge entries
  step-gave g = go (read w raw) refl (known-answer (length out) s w raw) g
    where
      go : (f : Option (Line Body)) → read w raw ≡ f
          → known (refuse_if (not (sound_whole s)) 7 (refuse_if (ltb (length out) answer_room) 3 (judge engine s f))) ≡
          true
          → Gave (refuse_if (not (sound_whole s)) 7 (refuse_if (ltb (length out) answer_room) 3 (judge engine s f))) s out
          t left n r
          → heard (gave w raw out t left n r)
          ≡ map heard_of (entries f
          (refuse_if (not (sound_whole s)) 7 (refuse_if (ltb (length out) answer_room) 3 (judge engine s f))))
      go none i e h = unread (not (sound_whole s)) (ltb (length out) answer_room) h
      go (some x) i e h = spoken x i _ e h

step-heard : (s : List ℕ) (x : Step) → Kept s x → heard x ≡ map heard_of (ran_by engine growing_blocks s (act_of x))
unfolding act_of ran_by ran heard
step-heard s (gave w raw out t left n r) k = step-gave s w raw out t left n r k
step-heard s (saved out left n r) k = refl
step-heard s (added a t r) k = refl

-- .. and which additions were accepted
module _ (s : List ℕ) (a : Addition) (t : List ℕ) (r : ℕ) where
  turned_down : (k : ℕ) → is_number k ≡ true → r ≡ k → accepted (added a t r) ≡ []
  unfolding accepted is_number case_of case_from cases number pick
  turned_down k e q = go r q
    where
      go : (x : ℕ) → x ≡ k → accepted (added a t x) ≡ []
      go zero u = absurd (false≢true (ap is_number u ∙ e))
      go (suc x) u = refl

  step_added : (o : Outcome (List ℕ)) → known o ≡ true → r ≡ number_of o
      → accepted (added a t r) ≡ editions_of (accepted_one engine growing_blocks a o)
  unfolding known number_of accepted_one editions_of accepted
  step_added (refused k) e q = turned_down k e q
  step_added (done u l) e q = go r q
    where
      go : (y : ℕ) → y ≡ 0 → accepted (added a t y) ≡ a.edition ∷ []
      go zero i = refl
      go (suc y) i = absurd (let z : suc y ≡ 0 = i in omega arith)

step-accepted : (s : List ℕ) (x : Step) → Kept s x → accepted x ≡ editions_of (added_by engine growing_blocks s (act_of x))
unfolding act_of added_by accepted editions_of
step-accepted s (gave w raw out t left n r) k = refl
step-accepted s (saved out left n r) k = refl
step-accepted s (added a t r) k = step_added s a t r (add_whole s a.edition) (known-add s a.edition) k.0

pub map-join : (es fs : List (Entry Body)) → map heard_of (es ++ fs) ≡ map heard_of es ++ map heard_of fs
map-join [] fs = refl
map-join (e ∷ es) fs = ap (λ (l : List Heard). heard_of e ∷ l) (map-join es fs)

editions-join : (al bl : List Addition) → editions_of (al ++ bl) ≡ editions_of al ++ editions_of bl
unfolding editions_of
editions-join [] bl = refl
editions-join (a ∷ al) bl = ap (λ (l : List Edition). a.edition ∷ l) (editions-join al bl)

-- what was seen of a session is the session of the definitions: its block at the end, its executed frames, the
-- editions accepted
pub seen-walk : (s u : List ℕ) (xs : List Step) → Seen s xs u → u ≡ walk_on engine growing_blocks s (map act_of xs)
unfolding walk_on
seen-walk s u [] e = sym e
seen-walk s u (x ∷ xs) k =
    seen-walk (block_after s x) u xs k.1
    ∙ ap (λ (t : List ℕ). walk_on engine growing_blocks t (map act_of xs)) (step_after s x k.0)

pub seen-heard : (s u : List ℕ) (xs : List Step) → Seen s xs u
    → heard_in xs ≡ map heard_of (trace_on engine growing_blocks s (map act_of xs))
unfolding trace_on heard_in
seen-heard s u [] e = refl
seen-heard s u (x ∷ xs) k =
    let c : Act engine growing_blocks = act_of x in
    let t : List ℕ = after_act engine growing_blocks s c in
    ap (λ (l : List Heard). l ++ heard_in xs) (step-heard s x k.0)
    ∙ ap (λ (l : List Heard). map heard_of (ran_by engine growing_blocks s c) ++ l)
    (seen-heard (block_after s x) u xs k.1
    ∙ ap (λ (b : List ℕ). map heard_of (trace_on engine growing_blocks b (map act_of xs))) (step_after s x k.0))
    ∙ sym (map-join (ran_by engine growing_blocks s c) (trace_on engine growing_blocks t (map act_of xs)))

pub seen-added : (s u : List ℕ) (xs : List Step) → Seen s xs u
    → accepted_in xs ≡ editions_of (added_on engine growing_blocks s (map act_of xs))
unfolding added_on accepted_in editions_of
seen-added s u [] e = refl
seen-added s u (x ∷ xs) k =
    let c : Act engine growing_blocks = act_of x in
    let t : List ℕ = after_act engine growing_blocks s c in
    ap (λ (l : List Edition). l ++ accepted_in xs) (step-accepted s x k.0)
    ∙ ap (λ (l : List Edition). editions_of (added_by engine growing_blocks s c) ++ l)
    (seen-added (block_after s x) u xs k.1
    ∙ ap (λ (b : List ℕ). editions_of (added_on engine growing_blocks b (map act_of xs))) (step_after s x k.0))
    ∙ sym (editions-join (added_by engine growing_blocks s c) (added_on engine growing_blocks t (map act_of xs)))

-- lines, answers and their number
pub heard-answers : (es : List (Entry Body))
    → map (λ (h : Heard). h.answer) (map heard_of es) ≡ map (λ (e : Entry Body). e.wrote) es
unfolding heard_of
heard-answers [] = refl
heard-answers (e ∷ es) = ap (λ (l : List (List ℕ)). e.wrote ∷ l) (heard-answers es)

heard-lines : (es : List (Entry Body))
    → map (λ (h : Heard). h.line) (map heard_of es) ≡ map write (map (λ (e : Entry Body). e.line) es)
unfolding heard_of
heard-lines [] = refl
heard-lines (e ∷ es) = ap (λ (l : List (List ℕ)). write e.line ∷ l) (heard-lines es)

map-drop : (i : ℕ) (xs : List (Line Body)) → map write (drop i xs) ≡ drop i (map write xs)
map-drop zero xs = refl
map-drop (suc i) [] = refl
map-drop (suc i) (x ∷ xs) = map-drop i xs

map-since : (j : ℕ) (xs : List (Line Body)) → map write (from_frame j xs) ≡ from_frame j (map write xs)
unfolding from_frame
map-since zero xs = refl
map-since (suc i) xs = map-drop i xs

pub kept-journal : (m : Gateway) (cs : List (Act gateways growing)) (j : ℕ)
    → kept_from j (map heard_of (trace_on gateways growing m cs)) ≡ journal_on gateways growing m cs j
unfolding kept_from journal_on lines_of
kept-journal m cs j =
    ap (λ (l : List (List ℕ)). flatten (from_frame j l)) (heard-lines (trace_on gateways growing m cs))
    ∙ ap flatten (sym (map-since j (map (λ (e : Entry Body). e.line) (trace_on gateways growing m cs))))

pub kept-answers : (es : List (Entry Body)) → answers_of (map heard_of es) ≡ said_by es
unfolding answers_of
kept-answers es = ap flat (heard-answers es)

-- the frames kept are the past frames
frames-read : (s u : Gateway) (es : List (Entry Body)) → Run gateways s es u
    → map (λ (h : Heard). frame_read (read text h.line)) (map heard_of es)
    ≡ map core (map (λ x. x.body) (map (λ e. e.line) es))
unfolding heard_of frame_read
frames-read s u [] r = refl
frames-read s u (e ∷ es) r =
    let x = r.1 in
    ap (λ (o : Option (Line Body)). frame_read o
    ∷ map (λ (h : Heard). frame_read (read text h.line)) (map heard_of es))
    (reads x.form x.raw e.line x.given)
    ∙ ap (λ (l : List (Frame radio)). core e.line.body ∷ l) (frames-read r.0 u es r.2)

map-reverse : (xs r : List Body) → map core (reverse_aux xs r) ≡ reverse_aux (map core xs) (map core r)
map-reverse [] r = refl
map-reverse (x ∷ xs) r = map-reverse xs (x ∷ r)

pub kept-past : (opcode : ℕ) (prefix : List ℕ) (cs : List (Act gateways growing))
    → frames_kept (map heard_of (trace_on gateways growing (fresh_on opcode prefix) cs)) ≡ past_on opcode prefix cs
unfolding frames_kept past_on
kept-past opcode prefix cs =
    let m : Gateway = fresh_on opcode prefix in
    let es : List (Entry Body) = trace_on gateways growing m cs in
    let f = fronted gateways laws growing m cs in
    ap (λ (l : List (Frame radio)). reverse l) (frames-read f.begins (walk_on gateways growing m cs) es f.run)
    ∙ sym (map-reverse (map (λ x. x.body) (map (λ e. e.line) es)) [])

-- a save that returned 0: the octets told are the image
pub image-told : (s out left : List ℕ) (n : ℕ) → Gave (image engine (length out) s) s out s left n 0
    → take n left ≡ image_on (held_whole s)
unfolding image refuse_if number_of written
image-told s out left n g = go (not (sound_whole s)) (ltb (length out) save_room) g
  where
    go : (a b : Bool) → Gave (refuse_if a 7 (refuse_if b 3 (done s (image_on (held_whole s))))) s out s left n 0
        → take n left ≡ image_on (held_whole s)
    go true b h = absurd (let z : ◌≡◌ {A = ℕ} 0 7 = h.number in omega arith)
    go false true h = absurd (let z : ◌≡◌ {A = ℕ} 0 3 = h.number in omega arith)
    go false false h = front out (image_on (held_whole s)) left n h.count h.output
