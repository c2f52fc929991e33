-- A command among the kept frames: its parameters, what it leaves as it was, the filter that it sets. Document 01,
-- Commands, by history. Assumes nothing.
use Rattle.std.specs.Prelude.{◌≡◌, ℕ, ◌+◌, ◌-◌, ◌<◌, ◌≤◌, Bool, true, false, not, List, [], ◌∷◌, length, drop, ◌≢◌, slice_index}
use Rattle.std.proofs.Math.Path.{refl, sym}
use Rattle.std.proofs.Common.{ap, ◌∙◌, arith, length-drop}
use Rattle.std.proofs.Math.Option.{none}
use borrow.Author.Tests.{eq-eqb, ne_eqb, le-leb, lt-leb, le-ltb, lt-ltb}
use Rattle.laws.specs.Tests.{pick}
use Rattle.laws.specs.TestsLaws.{and-not-left, cases_eq, cases-le}
use Rattle.rule.specs.Base.{All}
use Rattle.octets.specs.Little.{little}
use Rattle.model.specs.Frames.{Typed, command}
use Rattle.model.specs.Commands.{adds_monitor, params_in, sub_of, table}
use Rattle.model.specs.Layout.{most_monitors}
use Rattle.model.specs.Monitors.{invalid}
use Rattle.statuses.specs.Statuses.{adds_by, enable_of}
use Rattle.pasts.specs.ListsLaws.{keep_all}
use Rattle.pasts.specs.Pair
use Rattle.pasts.specs.Pair.{cancels}
use Rattle.pasts.specs.Past
use Rattle.pasts.specs.Past.{enable_in, enables, filter_after, monitor_after, offered, offers}
use Rattle.pasts.proofs.WatchingLaws.{watch-command}
use Rattle.twin.specs.declared.watch.Seen.{Seen}
use Rattle.twin.specs.Table.{Commands, kind_at, past_at, payload_at}
use Rattle.twin.specs.Hears.{Formed}
use Rattle.twin.specs.HearsLaws.{command-long}
use Rattle.twin.specs.SilentLaws.{typed-command}
use Rattle.twin.specs.Numbered.{Added}
use Rattle.twin.specs.Seen.{Agrees, Frames, Held, Marked, enabled_by, list_of, named_by, starts_of, with_filter}
use Rattle.twin.specs.PassedLaws.{marks-more, past_more}

-- the parameters as the code takes them
module _ (t : List ℕ) (i : ℕ) where
  pub back : i + 1 - 1 ≡ i
  back = omega arith

  pub command-at : Frames t (i + 1) → kind_at t i ≡ 1 → Commands t (i + 1 - 1)
  command-at f k = let g : Formed t i =
      f.formed i (omega arith) in rw back (record { stands = g.stands; form = g.command k })

  pub params-some : (l : List ℕ) → Frames t (i + 1) → kind_at t i ≡ 1 → l ≡ drop 3 (payload_at t (i + 1 - 1))
      → 0 < length l
  params-some l f k e =
      let n : 4 ≤ length (payload_at t (i + 1 - 1)) = command-long t (i + 1 - 1) (command-at f k) in
      let m : length (drop 3 (payload_at t (i + 1 - 1))) ≡ length (payload_at t (i + 1 - 1)) - 3 =
      length-drop 3 (payload_at t (i + 1 - 1)) in
      rw e (omega arith)

pub adds-asked : (l : List ℕ) (b : Bool) {r : Bool} → r ≡ adds_by (slice_index l 0) → r ≡ b → adds_monitor l ≡ b
unfolding adds_monitor adds_by sub_of
adds-asked l b e q = sym e ∙ q

-- frame i is a command of some parameters, behind what is kept
pub record Takes (t : List ℕ) (i : ℕ) (s : Seen) (l : List ℕ) : Type 0 where
  pub frames : Frames t (i + 1)
  pub kind : kind_at t i ≡ 1
  pub agrees : Agrees t i s
  pub params : l ≡ drop 3 (payload_at t i)

pub takes : (t : List ℕ) (i : ℕ) (s : Seen) (l : List ℕ) → Frames t (i + 1) → kind_at t i ≡ 1 → Agrees t i s
    → l ≡ drop 3 (payload_at t (i + 1 - 1))
    → Takes t i s l
takes t i s l f k a e =
    record { frames = f; kind = k; agrees = a; params = e ∙ ap (λ (j : ℕ). drop 3 (payload_at t j)) (back t i) }

module _ (t : List ℕ) (i : ℕ) (s : Seen) (l : List ℕ) (v : Takes t i s l) where
  abbrev pub Q : List Typed
  Q = past_at t i

  abbrev pub O : ℕ
  O = little 2 (payload_at t i) 0

  abbrev pub C : Typed
  C = command O l

  pub form : Formed t i
  form = v.frames.formed i (omega arith)

  past_is : past_at t (i + 1) ≡ C ∷ Q
  past_is = past_more t i
      ∙ ap (λ (u : Typed). u ∷ Q) (typed-command t i form v.kind ∙ ap (command O) (sym v.params))

  -- the monitors and the filter a command later
  pub later : (u : Seen) → Held u → All (Marked t i) (list_of u)
      → ((h : ℕ) → 1 ≤ slice_index u.live h → Added t (slice_index u.live h))
      → ((h : ℕ) → h < most_monitors → named_by t (slice_index u.live h) ≡ monitor_after (C ∷ Q) h)
      → u.filter ≡ filter_after (C ∷ Q)
      → starts_of t u ≡ Past.watch (C ∷ Q) → Agrees t (i + 1) u
  later u held marks adds names filter watch =
      record {
        shows = record {
          held = held;
          marks = marks-more t i (list_of u) marks;
          adds = adds;
          live = λ h b. rw past_is (names h b);
          filter = rw past_is filter;
        };
        watch = rw past_is watch;
      }

  pub filter-stays : enables C ≡ false → s.filter ≡ filter_after (C ∷ Q)
  unfolding filter_after pick
  filter-stays e = v.agrees.shows.filter ∙ sym (rw e)

  -- a command that cancels nothing
  module _ (calm : (h : ℕ) → cancels h C ≡ false) where
    pub watch-stays : starts_of t s ≡ Past.watch (C ∷ Q)
    watch-stays =
        v.agrees.watch
        ∙ sym (watch-command Q O l
        ∙ keep_all (λ u. not (cancels u.handle C)) (Past.watch Q) (all_stay (Past.watch Q)))
      where
        all_stay : (w : List Pair.Start) → All (λ u. not (cancels u.handle C) ≡ true) w
        all_stay [] = tt
        all_stay (u ∷ w) = (ap not (calm u.handle), all_stay w)

    name-stays : offers C ≡ none → (h : ℕ) → h < most_monitors → named_by t (slice_index s.live h) ≡ monitor_after (C ∷ Q) h
    unfolding monitor_after offered pick
    name-stays e h b = v.agrees.shows.live h b ∙ sym (rw (calm h, e))

    -- and offers none
    pub filtered : (u : Seen) → u ≡ with_filter s u.filter → offers C ≡ none → u.filter ≡ filter_after (C ∷ Q)
        → Agrees t (i + 1) u
    unfolding with_filter list_of starts_of
    filtered u e n x =
        let a = v.agrees.shows in
        let same : Agrees t (i + 1) (with_filter s u.filter) =
        later (with_filter s u.filter) (record { size = a.held.size; names = a.held.names; few = a.held.few })
        a.marks a.adds (name-stays n) x watch-stays in
        rw e same

    pub nothing : offers C ≡ none → enables C ≡ false → Agrees t (i + 1) s
    unfolding with_filter
    nothing e g = filtered s refl e (filter-stays g)

  pub no-cancel : (sub_of l ≢ 4) → (h : ℕ) → cancels h C ≡ false
  unfolding cancels
  no-cancel n h = and-not-left _ _ (ne_eqb (sub_of l) 4 n)

  pub no-enable : (sub_of l ≢ 5) → enables C ≡ false
  unfolding enables
  no-enable n = and-not-left _ _ (ne_eqb (sub_of l) 5 n)

  pub no-offer : adds_monitor l ≡ false → offers C ≡ none
  unfolding offers pick
  no-offer e = rw e

  -- another sub-opcode
  pub other-agrees : adds_monitor l ≡ false → (sub_of l ≢ 5) → (sub_of l ≢ 4) → Agrees t (i + 1) s
  other-agrees e n m = nothing (no-cancel m) (no-offer e) (no-enable n)

  -- 05: the status is 0, or the filter stays
  enable-off : sub_of l ≡ 5 → (enable_of s.filter l ≢ 0) → s.filter ≡ filter_after (C ∷ Q)
  unfolding enable_of filter_after enables enable_in table params_in pick
  enable-off q n =
      cases_eq (length l) 2
      (λ z. cases-le (slice_index l 1) 1
      (λ m. cases_eq (slice_index l 1) s.filter
      (λ x. rw (q, z, le-leb (slice_index l 1) 1 m) (sym x))
      (λ x. absurd (n (rw (z, le-ltb 1 (slice_index l 1) m, ne_eqb (slice_index l 1) s.filter x)))))
      (λ m. v.agrees.shows.filter ∙ sym (rw (q, z, lt-leb (slice_index l 1) 1 m))))
      (λ z. v.agrees.shows.filter ∙ sym (rw (q, ne_eqb (length l) 2 z)))

  enable-on : sub_of l ≡ 5 → enable_of s.filter l ≡ 0 → slice_index l 1 ≡ filter_after (C ∷ Q)
  unfolding enable_of filter_after enables enable_in table params_in pick
  enable-on q n =
      cases_eq (length l) 2
      (λ z. cases-le (slice_index l 1) 1
      (λ m. rw (q, z, le-leb (slice_index l 1) 1 m))
      (λ m. let k : invalid ≡ 0 = sym (rw (z, lt-ltb 1 (slice_index l 1) m)) ∙ n in absurd (omega arith)))
      (λ z. let k : invalid ≡ 0 = sym (rw (ne_eqb (length l) 2 z)) ∙ n in absurd (omega arith))

  pub enable-agrees : {r : Seen} → adds_monitor l ≡ false → sub_of l ≡ 5 → r ≡ enabled_by l s → Agrees t (i + 1) r
  unfolding enabled_by pick with_filter
  enable-agrees {r} e q z =
      let calm : (h : ℕ) → cancels h C ≡ false = no-cancel (λ x. omega arith) in
      rw z (cases_eq (enable_of s.filter l) 0
      (λ x. rw (eq-eqb (enable_of s.filter l) 0 x)
      (filtered calm (with_filter s (slice_index l 1)) refl (no-offer e) (enable-on q x)))
      (λ x. rw (ne_eqb (enable_of s.filter l) 0 x) (filtered calm s refl (no-offer e) (enable-off q x))))
