-- Laws of the definitions in Cut.
use Rattle.std.specs.Prelude.{ℕ, zero, suc, ◌≡◌, Bool, false, cond, eqb}
use Rattle.std.proofs.Math.Path.{refl, sym, ap}
use Rattle.std.proofs.Common.{◌∙◌, subst, arith}
use Rattle.std.proofs.Math.Bool.{true}
use Rattle.std.proofs.lemmas.Bool.{false≢true}
use mathlib.Core.List.{List, [], ◌∷◌, ◌++◌, map, append_assoc}
use Rattle.std.proofs.Math.Option.{Option, none, some}
use Rattle.laws.specs.TestsLaws.{and_left, and_right}
use Rattle.totals.specs.declared.Row.{Row}
use Rattle.totals.specs.Two.{every_two, map_two}
use Rattle.totals.specs.Table.{table_rows, row_fits, row_sum}
use Rattle.totals.specs.Join.{join_of}
use Rattle.sessions.specs.Machine.{Machine, text, Outcome, refused, done}
use Rattle.sessions.specs.Session.{Entry, entries, answer}
use Rattle.sessions.specs.Saved.{Replayed, resume, with_answer, replay_lines}
use Rattle.model.specs.Types.{Model}
use Rattle.model.specs.Frames.{Body}
use Rattle.blocks.specs.FactsLaws.{sound-facts}
use Rattle.failover.specs.Demand3.{replay_adds as adds_entries, ran_in}
use Rattle.cuts.specs.JoinsLaws.{join-fits}
use Rattle.months.specs.Month.{month}
use Rattle.months.proofs.MonthLaws.{length-month, month-cut}
use Rattle.months.specs.Counted.{Tallied}
use Rattle.months.specs.Counting.{no_rows}
use Rattle.months.proofs.Claims.{empty-tables}
use Rattle.cuts.specs.BoundsLaws.{AllIn, none_in, fits_in_lem}
use Rattle.cuts.specs.JournalLaws.{Goes, with, frames_in, counts_all, reaches}
use Rattle.cuts.specs.Cut.{later, CutLaw, counts_lines}

-- a journal that ran through
unfoldable pub through : {A : Type 0} → Option A → Bool
through none = true
through (some n) = false

module _ (M : Machine) where
  -- the first part of lines that ran through did so too, and the second goes on from the state that it reached
  pub record Parted (lent : ℕ → ℕ) (s : M.S) (ls ms : List (List ℕ)) : Type 0 where
    pub first : (replay_lines M lent s ls).stop ≡ none
    pub whole : (replay_lines M lent s (ls ++ ms)).state
        ≡ (replay_lines M (later ls lent) (replay_lines M lent s ls).state ms).state
    pub second : (replay_lines M (later ls lent) (replay_lines M lent s ls).state ms).stop ≡ none
    pub frames : ran_in M lent s (ls ++ ms) ≡ ran_in M lent s ls
        ++ ran_in M (later ls lent) (replay_lines M lent s ls).state ms

  pub parted : (lent : ℕ → ℕ) (s : M.S) (ls ms : List (List ℕ)) → (replay_lines M lent s (ls ++ ms)).stop ≡ none
      → Parted lent s ls ms
  unfolding replay_lines ran_in later resume with_answer adds_entries through
  parted lent s [] ms e = record { first = refl; whole = refl; second = e; frames = refl }
  parted lent s (l ∷ ls) ms e =
      let g = go (λ t. parted (λ i. lent (suc i)) t ls ms) (answer M (lent zero) s text l) e in
      record { first = g.0; whole = g.1; second = g.2; frames = g.3 }
    where
      more : M.S → List (List ℕ) → Replayed M.S
      more t ks = replay_lines M (λ i. lent (suc i)) t ks

      run : M.S → List (List ℕ) → List (Entry M.Body)
      run t ks = ran_in M (λ i. lent (suc i)) t ks

      Ih : Type 0
      Ih = (t : M.S) → (more t (ls ++ ms)).stop ≡ none → Parted (λ i. lent (suc i)) t ls ms

      rest : M.S → Replayed M.S
      rest t = replay_lines M (later ls (λ i. lent (suc i))) t ms

      Goal : Replayed M.S → Replayed M.S → List (Entry M.Body) → List (Entry M.Body) → Type 0
      Goal w a ws xs =
          (a.stop ≡ none) × (w.state ≡ (rest a.state).state) × ((rest a.state).stop ≡ none)
          × (ws ≡ xs ++ ran_in M (later ls (λ i. lent (suc i))) a.state ms)

      ended : Ih → (n : ℕ) (b : Bool)
          → (cond b (more s (ls ++ ms)) (record { state = s; answers = []; stop = some n })).stop ≡ none
          → Goal (cond b (more s (ls ++ ms)) (record { state = s; answers = []; stop = some n }))
          (cond b (more s ls) (record { state = s; answers = []; stop = some n })) (cond b (run s (ls ++ ms)) [])
          (cond b (run s ls) [])
      ended ih n true q = let p = ih s q in (p.first, p.whole, p.second, p.frames)
      ended ih n false q = absurd (false≢true (ap through q))

      go : Ih → (o : Outcome M.S) → (resume s o (λ t. more t (ls ++ ms))).stop ≡ none
          → Goal (resume s o (λ t. more t (ls ++ ms))) (resume s o (λ t. more t ls))
          (adds_entries s (M.read text l) o (λ t. run t (ls ++ ms))) (adds_entries s (M.read text l) o (λ t. run t ls))
      go ih (refused n) q = ended ih n (eqb n 1) q
      go ih (done t a) q =
          let p = ih t q in (
            p.first,
            p.whole,
            p.second,
            ap (λ (x : List (Entry M.Body)). entries (M.read text l) (done t a) ++ x) p.frames
                ∙ sym (append_assoc (entries (M.read text l) (done t a)) (run t ls)
                (ran_in M (later ls (λ i. lent (suc i))) (more t ls).state ms)),
          )

-- rows that fit are joined by their sums
pub joins-fit : (a b : List Row) → every_two row_fits a b ≡ true → map_two join_of a b ≡ map_two row_sum a b
unfolding every_two map_two
joins-fit [] b e = refl
joins-fit (x ∷ a) [] e = refl
joins-fit (x ∷ a) (y ∷ b) e =
    ap (λ (r : Row). r ∷ map_two join_of a b)
    (sym (join-fits x y (and_left (row_fits x y) (every_two row_fits a b) e) refl))
    ∙ ap (λ (l : List Row). row_sum x y ∷ l) (joins-fit a b (and_right (row_fits x y) (every_two row_fits a b) e))

map-append : {A B : Type 0} (f : A → B) (l k : List A) → map f (l ++ k) ≡ map f l ++ map f k
map-append f [] k = refl
map-append {B} f (x ∷ l) k = ap {B = List B} (λ r. f x ∷ r) (map-append f l k)

module _ (M : Machine) (core : M.S → Model) (body : M.Body → Body) where
  -- T-10: for every sound state, every list of lines and every cut of it, what is lent each line
  pub cut-law : Goes M core → (lent : ℕ → ℕ) (s : M.S) (ls ms : List (List ℕ)) → M.sound s ≡ true
      → ((counts_lines M core body) lent s (ls ++ ms)).stop ≡ none → (CutLaw M core body) lent s ls ms
  unfolding with frames_in
  cut-law G lent s ls ms e q =
      let W = counts_all M core body G lent s no_rows (ls ++ ms) e (none_in (core s).position table_rows) refl in
      let A = counts_all M core body G lent s no_rows ls e (none_in (core s).position table_rows) refl in
      let P = parted M lent s ls ms (sym (ap (λ (r : Replayed (Tallied M.S)). r.stop) W) ∙ q) in
      let Ra = reaches M core body G lent s no_rows ls e (none_in (core s).position table_rows) refl in
      let t : M.S = (replay_lines M lent s ls).state in
      let u : M.S = (replay_lines M (later ls lent) t ms).state in
      let B = counts_all M core body G (later ls lent) t no_rows ms Ra.good (none_in (core t).position table_rows)
      refl in
      let RB = reaches M core body G (later ls lent) t no_rows ms Ra.good (none_in (core t).position table_rows)
      refl in
      let F : M.S → Replayed (Tallied M.S) = λ x. (counts_lines M core body) (later ls lent) x ms in
      let BB = ap F (ap (λ (r : Replayed (Tallied M.S)). r.state.state) A) ∙ B in
      let fa : List M.Body = frames_in M core body lent s ls in
      let fb : List M.Body = frames_in M core body (later ls lent) t ms in
      let all : List M.Body = frames_in M core body lent s (ls ++ ms) in
      let ma : List Row = month M core body s fa in
      let mb : List Row = month M core body t fb in
      let fw : all ≡ fa ++ fb =
      ap (λ (es : List (Entry M.Body)). map (λ e. e.line.body) es) P.frames
      ∙ map-append (λ e. e.line.body) (ran_in M lent s ls) (ran_in M (later ls lent) t ms) in
      let v : map_two row_sum no_rows ma ≡ ma = empty-tables ma table_rows (length-month M core body s fa) in
      let w : map_two row_sum no_rows mb ≡ mb = empty-tables mb table_rows (length-month M core body t fb) in
      let x : map_two row_sum no_rows (month M core body s all) ≡ map_two row_sum ma mb =
      empty-tables (month M core body s all) table_rows (length-month M core body s all)
      ∙ ap (month M core body s) fw ∙ month-cut M core body s fa fb
      ∙ ap (λ (y : M.S). map_two row_sum ma (month M core body y fb)) (sym Ra.state) in
      let ra : ((counts_lines M core body) lent s ls).state.rows ≡ ma =
      ap (λ (r : Replayed (Tallied M.S)). r.state.rows) A ∙ v in
      let rb = ap (λ (r : Replayed (Tallied M.S)). r.state.rows) BB ∙ w in
      let f : every_two row_fits ma mb ≡ true =
      fits_in_lem (core t).position (core u).position ma mb
      (omega (arith, (sound-facts (core t) (G.good t Ra.good)).position-most))
      (omega (arith, (sound-facts (core u) (G.good u RB.good)).position-most))
      (subst (AllIn (core t).position) v Ra.within) (subst (AllIn (core u).position) w RB.within) in
      record {
        first-ran = ap (λ (r : Replayed (Tallied M.S)). r.stop) A ∙ P.first;
        second-ran = ap (λ (r : Replayed (Tallied M.S)). r.stop) BB ∙ P.second;
        state = ap (λ (r : Replayed (Tallied M.S)). r.state.state) W ∙ P.whole
            ∙ sym (ap (λ (r : Replayed (Tallied M.S)). r.state.state) BB);
        fits = ap (λ (l : List Row). every_two row_fits l
            (F ((counts_lines M core body) lent s ls).state.state).state.rows)
            ra ∙ ap (every_two row_fits ma) rb ∙ f;
        rows = ap (λ (r : Replayed (Tallied M.S)). r.state.rows) W ∙ x ∙ sym (joins-fit ma mb f)
            ∙ sym (ap (λ (l : List Row). map_two join_of l
            (F ((counts_lines M core body) lent s ls).state.state).state.rows) ra ∙ ap (map_two join_of ma) rb);
      }
