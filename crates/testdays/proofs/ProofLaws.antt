-- Any number of failovers as firmware sees it: `test-day`, for every begin that returned 0 and every run of calls and
-- failovers that kept their contracts. Document 02, T-14. Assumes nothing.
use Prim.Native.Nat.{ℕ, zero, suc, ◌+◌, ◌≤◌}
use Rattle.std.specs.Prelude.{◌≡◌, ◌⊎◌, Bool, take, drop}
use Rattle.std.proofs.Math.Path.{refl, sym, ap, subst}
use Rattle.std.proofs.Common.{◌∙◌, inl, inr, arith, drop_at}
use Rattle.std.proofs.Math.Bool.{true, false}
use Rattle.std.proofs.Math.Option.{Option}
use mathlib.Core.List.{List, [], ◌∷◌, ◌++◌, map, append_assoc, append-nil}
use Rattle.std.proofs.Math.ListN.{length}
use Rattle.laws.specs.Tests.{pick}
use Rattle.rule.specs.Base.{In}
use Rattle.rule.specs.BaseLaws.{in-append}
use Rattle.sessions.specs.Machine.{Line}
use Rattle.sessions.specs.Session.{Entry, image}
use Rattle.sessions.proofs.RunsLaws.{Run}
use Rattle.sessions.specs.Additions.{Act, walk_on, trace_on, added_on, answers_on}
use Rattle.sessions.proofs.GivenLaws.{fronted}
use Rattle.model.specs.Frames.{Body}
use Rattle.model.specs.Sound.{sound_settings}
use Rattle.model.proofs.Radio.{radio, core}
use Rattle.editions.specs.Editions.{Edition, Gateway, prefix_for, is_image_on, sound_gateway, fresh_on}
use Rattle.editions.specs.Engine.{gateways}
use Rattle.wholes.specs.Whole.{whole}
use Rattle.wholes.specs.Engine.{engine, begin, block_in}
use Rattle.bournejade.specs.Gives.{Gave}
use Rattle.failover.specs.ReadLaws.{reads}
use Rattle.failover.specs.Grows.{growing}
use Rattle.failover.proofs.Proved.{laws, fresh-gateway}
use Rattle.failover.proofs.BlocksLaws.{begin-blocks}
use Rattle.chains.specs.Chain.{Image}
use Rattle.chains.specs.Told.{Told, Tells}
use Rattle.chains.specs.Hear as hear
use Rattle.chains.specs.Failovers.{known, told_in}
use Rattle.chains.proofs.ProofLaws.{session-tells}
use Rattle.delivery.specs.Firmware.{Step, gave, saved, added, block_after, Kept, Seen, Heard, heard, heard_in, accepted, accepted_in, kept_from, answers_of, StandbyMove, Moves, given_in, TakenOver}
use Rattle.delivery.specs.Added.{growing_blocks, on_records, trace-on-blocks, added-on-blocks}
use Rattle.delivery.proofs.TimelyLaws.{editions_of}
use Rattle.delivery.proofs.SeenLaws.{act_of, heard_of, seen-heard, seen-added}
use Rattle.delivery.proofs.LinkedLaws.{taken-over}
use Rattle.testdays.specs.Days.{Action, calls, failover, Now, begun, saved_by, called, took_over, day_ends, steps_of, FailsOver, Saw, Gives, AllGive, told_one, told_of, TestDay}

-- calls one after another, in two parts
seen_more : (s m u : List ℕ) (xs ys : List Step) → Seen s xs m → Seen m ys u → Seen s (xs ++ ys) u
seen_more s m u [] ys h k = subst (λ (t : List ℕ). Seen t ys u) (sym h) k
seen_more s m u (x ∷ xs) ys h k = (h.0, seen_more (block_after s x) m u xs ys h.1 k)

seen_one : (s : List ℕ) (x : Step) → Kept s x → Seen s (x ∷ []) (block_after s x)
seen_one s x k = (k, refl)

heard-more : (xs ys : List Step) → heard_in (xs ++ ys) ≡ heard_in xs ++ heard_in ys
unfolding heard_in
heard-more [] ys = refl
heard-more (x ∷ xs) ys =
    ap (λ (l : List Heard). heard x ++ l) (heard-more xs ys) ∙ sym (append_assoc (heard x) (heard_in xs) (heard_in ys))

accepted-more : (xs ys : List Step) → accepted_in (xs ++ ys) ≡ accepted_in xs ++ accepted_in ys
unfolding accepted_in
accepted-more [] ys = refl
accepted-more (x ∷ xs) ys =
    ap (λ (l : List Edition). accepted x ++ l) (accepted-more xs ys)
    ∙ sym (append_assoc (accepted x) (accepted_in xs) (accepted_in ys))

heard-one : (x : Step) → heard_in (x ∷ []) ≡ heard x
unfolding heard_in
heard-one x = append-nil (heard x)

accepted-one : (x : Step) → accepted_in (x ∷ []) ≡ accepted x
unfolding accepted_in
accepted-one x = append-nil (accepted x)

module _ (opcode : ℕ) (prefix fresh : List ℕ) (number : ℕ) (e : number ≡ pick (sound_settings opcode prefix) 0 9)
    (f : fresh ≡ begin opcode prefix)
    (z : number ≡ 0) where
  -- an image that firmware kept is one of the session: what came before its save, and what after, up to the block on
  -- duty
  record Of (ss : List Step) (block : List ℕ) (x : Image) : Type 0 where
    before : List Step
    later : List Step
    at : List ℕ
    out : List ℕ
    left : List ℕ
    count : ℕ
    split : ss ≡ before ++ (saved out left count zero ∷ later)
    seen : Seen fresh before at
    gives : Gave (image engine (length out) at) at out at left count 0
    then : Seen at later block
    octets : x.octets ≡ take count left
    after : x.after ≡ length (heard_in before)
    added : x.added ≡ length (accepted_in before)

  -- what was kept, and accepted, before and after it
  module _ (ss : List Step) (block : List ℕ) (x : Image) (o : Of ss block x) where
    parts : heard_in ss ≡ heard_in o.before ++ heard_in o.later
    unfolding heard_in heard
    parts = ap heard_in o.split ∙ heard-more o.before (saved o.out o.left o.count zero ∷ o.later)

    editions : accepted_in ss ≡ accepted_in o.before ++ accepted_in o.later
    unfolding accepted_in accepted
    editions = ap accepted_in o.split
        ∙ accepted-more o.before (saved o.out o.left o.count zero ∷ o.later)

    later-heard : drop x.after (heard_in ss) ≡ heard_in o.later
    later-heard = rw (parts) (drop_at (heard_in o.before) (heard_in o.later) x.after (sym o.after))

    later-accepted : drop x.added (accepted_in ss) ≡ accepted_in o.later
    later-accepted =
        rw (editions) (drop_at (accepted_in o.before) (accepted_in o.later) x.added (sym o.added))

    over : TakenOver (heard_in o.before) (heard_in o.later) (accepted_in o.later) o.at block
        (take o.count o.left)
    over = taken-over opcode prefix fresh number e f z o.before o.later o.out o.left o.at block
        o.count o.seen o.gives o.then

  of-more : (ss : List Step) (block : List ℕ) (x : Image) (y : Step) → Kept block y → Of ss block x
      → Of (ss ++ (y ∷ [])) (block_after block y) x
  of-more ss block x y k o =
      record {
        before = o.before;
        later = o.later ++ (y ∷ []);
        at = o.at;
        out = o.out;
        left = o.left;
        count = o.count;
        split = ap (λ (l : List Step). l ++ (y ∷ [])) o.split
            ∙ append_assoc o.before (saved o.out o.left o.count zero ∷ o.later) (y ∷ []);
        seen = o.seen;
        gives = o.gives;
        then = seen_more o.at block (block_after block y) o.later (y ∷ []) o.then (seen_one block y k);
        octets = o.octets;
        after = o.after;
        added = o.added;
      }

  -- firmware stands where the session of its calls stands
  record Stands (ss : List Step) (n : Now) : Type 0 where
    seen : Seen fresh ss n.block
    kept : n.kept ≡ heard_in ss
    editions : n.editions ≡ accepted_in ss
    images : (x : Image) → In x n.images → Of ss n.block x

  begun-stands : Stands [] (begun fresh)
  unfolding begun heard_in accepted_in
  begun-stands = record { seen = refl; kept = refl; editions = refl; images = λ x i. absurd i }

  -- a save
  saved-image : (ss : List Step) (n : Now) (y : Step) → Stands ss n → Kept n.block y → (x : Image)
      → In x (saved_by n y)
      → Of (ss ++ (y ∷ [])) (block_after n.block y) x
  unfolding saved_by block_after
  saved-image ss n (gave w raw out t left k r) v c x i = absurd i
  saved-image ss n (added a t r) v c x i = absurd i
  saved-image ss n (saved out left k (suc r)) v c x i = absurd i
  saved-image ss n (saved out left k zero) v c x (inr i) = absurd i
  saved-image ss n (saved out left k zero) v c x (inl i) =
      record {
        before = ss;
        later = [];
        at = n.block;
        out = out;
        left = left;
        count = k;
        split = refl;
        seen = v.seen;
        gives = c;
        then = refl;
        octets = ap (λ (y : Image). y.octets) i;
        after = ap (λ (y : Image). y.after) i ∙ ap length v.kept;
        added = ap (λ (y : Image). y.added) i ∙ ap length v.editions;
      }

  -- a call
  called-stands : (ss : List Step) (n : Now) (y : Step) → Stands ss n → Kept n.block y
      → Stands (ss ++ (y ∷ [])) (called n y)
  unfolding called
  called-stands ss n y v k =
      record {
        seen = seen_more fresh n.block (block_after n.block y) ss (y ∷ []) v.seen (seen_one n.block y k);
        kept = ap (λ (l : List Heard). l ++ heard y) v.kept
            ∙ sym (heard-more ss (y ∷ []) ∙ ap (λ (l : List Heard). heard_in ss ++ l) (heard-one y));
        editions = ap (λ (l : List Edition). l ++ accepted y) v.editions
            ∙ sym (accepted-more ss (y ∷ []) ∙ ap (λ (l : List Edition). accepted_in ss ++ l) (accepted-one y));
        images = λ x i. go x (in-append x n.images (saved_by n y) i);
      }
    where
      go : (x : Image) → In x n.images ⊎ In x (saved_by n y) → Of (ss ++ (y ∷ [])) (block_after n.block y) x
      go x (inl i) = of-more ss n.block x y k (v.images x i)
      go x (inr i) = saved-image ss n y v k x i

  -- a failover: what it gives
  gives : (ss : List Step) (n : Now) (x : Image) (j : ℕ) (c : List ℕ) (r : ℕ) (xs : List StandbyMove) (b rest : List ℕ)
      → Stands ss n
      → FailsOver n x j c r xs b rest → Gives n x r xs b
  gives ss n x j c r xs b rest v g =
      let o : Of ss n.block x = v.images x g.saved in
      let img : List ℕ = take o.count o.left in
      let t = over ss n.block x o in
      let w : (r ≡ 0) × (c ≡ o.at) =
      t.restored c r (subst (λ (i : List ℕ). r ≡ pick (is_image_on i) 0 10) o.octets g.number)
      (subst (λ (i : List ℕ). c ≡ block_in (is_image_on i) i) o.octets g.restored) in
      let p : Moves o.at (kept_from j (heard_in o.before ++ heard_in o.later)) xs b rest =
      subst (λ (s : List ℕ). Moves s (kept_from j (heard_in o.before ++ heard_in o.later)) xs b rest) w.1
      (subst (λ (l : List Heard). Moves c (kept_from j l) xs b rest) (v.kept ∙ parts ss n.block x o) g.moves) in
      let more : accepted_in o.later ≡ given_in xs ++ [] =
      sym (append-nil (given_in xs) ∙ g.again ∙ ap (drop x.added) v.editions
      ∙ later-accepted ss n.block x o) in
      let y = t.in_turns j g.least (subst (λ (k : ℕ). j ≤ k + 1) o.after g.most) xs b rest [] p
      (record { order = more; not_late = tt }) in
      let q = y.1 g.all refl in
      record {
        number = w.0;
        go = y.0;
        block = q.0;
        wrote = q.1 ∙ ap answers_of (sym (ap (drop x.after) v.kept ∙ later-heard ss n.block x o));
      }

  failed-stands : (ss : List Step) (n : Now) (b : List ℕ) → b ≡ n.block → Stands ss n → Stands ss (took_over n b)
  unfolding took_over
  failed-stands ss n b q v =
      record {
        seen = subst (λ (s : List ℕ). Seen fresh ss s) (sym q) v.seen;
        kept = v.kept;
        editions = v.editions;
        images = λ x i. subst (λ (s : List ℕ). Of ss s x) (sym q) (v.images x i);
      }

  -- all deeds
  all-stand : (ss : List Step) (n : Now) (ds : List Action) → Stands ss n → Saw n ds
      → Stands (ss ++ steps_of ds) (day_ends n ds) × AllGive n ds
  unfolding steps_of day_ends
  all-stand ss n [] v s = (subst (λ (l : List Step). Stands l n) (sym (append-nil ss)) v, tt)
  all-stand ss n (calls y ∷ ds) v s =
      let r = all-stand (ss ++ (y ∷ [])) (called n y) ds (called-stands ss n y v s.0) s.1 in (
        subst (λ (l : List Step). Stands l (day_ends (called n y) ds)) (append_assoc ss (y ∷ []) (steps_of ds))
            r.0,
        r.1,
      )
  all-stand ss n (failover x j c r xs b rest ∷ ds) v s =
      let g : Gives n x r xs b = gives ss n x j c r xs b rest v s.0 in
      let q = all-stand ss (took_over n b) ds (failed-stands ss n b g.block v) s.1 in
      (q.0, (g, q.1))

  -- what is read from the lines kept is what the definitions tell
  told-kept : (ks : List Edition) (s u : Gateway) (es : List (Entry Body)) (told : Told radio) → Run gateways s es u
      → told_of ks (map heard_of es) told ≡ told_in ks (map (λ y. y.line) es) (map (λ y. y.wrote) es) told
  unfolding told_of told_one told_in heard_of
  told-kept ks s u [] told r = refl
  told-kept ks s u (y ∷ es) told r =
      let x = r.1 in
      ap (λ (o : Option (Line Body)). told_of ks (map heard_of es) (told_one ks o y.wrote told))
      (reads x.form x.raw y.line x.given)
      ∙ told-kept ks r.0 u es ((
        core y.line.body,
        hear.events_read (prefix_for y.line.num ks)
            y.wrote,
      ) ∷ told)
      r.2

  in-range : (b : Bool) → pick {A = ℕ} b 0 9 ≡ 0 → b ≡ true
  unfolding pick
  in-range true q = refl
  in-range false q = absurd (omega arith)

  -- the answers of a session tell what the history rule says
  session-kept : (ss : List Step) (u : List ℕ) → Seen fresh ss u
      → Tells radio (told_of (record { from = 0; prefix = prefix } ∷ accepted_in ss) (heard_in ss) [])
  unfolding known editions_of answers_on
  session-kept ss u h =
      let ok : sound_settings opcode prefix ≡ true = in-range (sound_settings opcode prefix) (sym e ∙ z) in
      let m : Gateway = fresh_on opcode prefix in
      let good : sound_gateway m ≡ true = fresh-gateway opcode prefix ok in
      let at : fresh ≡ whole m = f ∙ begin-blocks opcode prefix ok in
      let cs : List (Act gateways growing) = map on_records (map act_of ss) in
      let t : heard_in ss ≡ map heard_of (trace_on gateways growing m cs) =
      seen-heard fresh u ss h ∙ ap (λ (s : List ℕ). map heard_of (trace_on engine growing_blocks s (map act_of ss))) at
      ∙ ap (map heard_of) (trace-on-blocks m good (map act_of ss)) in
      let a : accepted_in ss ≡ editions_of (added_on gateways growing m cs) =
      seen-added fresh u ss h ∙ ap (λ (s : List ℕ). editions_of (added_on engine growing_blocks s (map act_of ss))) at
      ∙ ap editions_of (added-on-blocks m good (map act_of ss)) in
      let r = fronted gateways laws growing m cs in
      let ks : List Edition = record { from = 0; prefix = prefix } ∷ editions_of (added_on gateways growing m cs) in
      let k : told_of ks (map heard_of (trace_on gateways growing m cs)) []
      ≡ told_in ks (map (λ y. y.line) (trace_on gateways growing m cs))
      (map (λ y. y.wrote) (trace_on gateways growing m cs)) [] =
      told-kept ks r.begins (walk_on gateways growing m cs) (trace_on gateways growing m cs) [] r.run in
      rw (a, t, k) (session-tells opcode prefix cs)

  -- Any number of failovers, as firmware sees it.
  pub test-day : (ds : List Action) → Saw (begun fresh) ds → TestDay prefix fresh ds
  test-day ds s =
      let v = all-stand [] (begun fresh) ds begun-stands s in
      record {
        unbroken = v.0.seen;
        kept = v.0.kept;
        gives = v.1;
        events = rw (v.0.kept, v.0.editions)
            (session-kept (steps_of ds) (day_ends (begun fresh) ds).block v.0.seen);
      }
