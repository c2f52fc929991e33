-- Laws of the definitions in Sections.
use Rattle.std.specs.Prelude.{◌≡◌, ℕ, suc, ◌+◌, ◌-◌, ◌<◌, ◌≤◌, Bool, true, false, List, [], ◌∷◌, length, take, drop, slice_index, refl}
use Rattle.std.proofs.Common.{sym, ap, ◌∙◌, zero-add, arith, drop_of_length-le, drop-cons}
use Rattle.std.proofs.lemmas.Bool.{false≢true}
use Rattle.laws.specs.Tests.{pick}
use Rattle.advert.specs.Parts.{parts, PartAt}
use Rattle.advert.specs.PartsLaws.{parts-nil}
use Rattle.advert.specs.Sections.{sections, is_type, contents_of, contents, walk_cost, Lookup}

pub contents-nil : (t u : ℕ) → contents t u [] ≡ []
unfolding contents contents_of sections
contents-nil t u = rw (parts-nil 1)

pub contents-end : (t u : ℕ) (xs : List ℕ) (i : ℕ) → length xs ≤ i → contents t u (drop i xs) ≡ []
contents-end t u xs i h = rw (drop_of_length-le xs {i = i} h) (contents-nil t u)

pub walk_end : (t u : ℕ) (cost : List ℕ → ℕ) (hit : List ℕ → Bool) (after : ℕ) (xs : List ℕ) (i : ℕ) → length xs ≤ i
    → walk_cost t u cost hit after (sections (drop i xs)) ≡ after
unfolding walk_cost sections
walk_end t u cost hit after xs i h = rw (drop_of_length-le xs {i = i} h, parts-nil 1)

module _ (t u : ℕ) (xs : List ℕ) (i e : ℕ) (p : PartAt 1 xs i e) where
  -- no structure at an index: nothing more is found
  pub contents-none : e ≡ i → contents t u (drop i xs) ≡ []
  unfolding contents contents_of sections
  contents-none h = rw (p.none h)

  -- a structure is its AD type and its content
  section-at : i < e → parts 1 (drop i xs) ≡ (slice_index xs (i + 1) ∷ take (e - (i + 2)) (drop (i + 2) xs)) ∷ parts 1
      (drop e xs)
  section-at h =
      let r : i + 1 < e = p.room h in
      let f : e ≤ length xs = p.high in
      let d : e - (i + 1) ≡ suc (e - (i + 2)) = omega arith in
      let s : suc (i + 1) ≡ i + 2 = omega arith in
      let m : take (e - (i + 1)) (drop (i + 1) xs) ≡ slice_index xs (i + 1) ∷ take (e - (i + 2)) (drop (i + 2) xs) =
      rw (d, drop-cons xs (i + 1) 0 (omega arith), s) in
      p.more h ∙ ap (λ (l : List ℕ). l ∷ parts 1 (drop e xs)) m

  -- a structure of another AD type is passed over
  pub contents-skip : i < e → is_type t u (slice_index xs (i + 1)) ≡ false
      → contents t u (drop i xs) ≡ contents t u (drop e xs)
  unfolding contents contents_of sections pick
  contents-skip h b = rw (section-at h, b)

  -- a structure of that AD type is found
  pub contents-hit : i < e → is_type t u (slice_index xs (i + 1)) ≡ true
      → contents t u (drop i xs) ≡ take (e - (i + 2)) (drop (i + 2) xs) ∷ contents t u (drop e xs)
  unfolding contents contents_of sections pick
  contents-hit h b = rw (section-at h, b)

  -- the same of what they cost
  module _ (cost : List ℕ → ℕ) (hit : List ℕ → Bool) (after : ℕ) where
    walk_none : e ≡ i → walk_cost t u cost hit after (sections (drop i xs)) ≡ after
    unfolding walk_cost sections
    walk_none h = rw (p.none h)

    walk-skip : i < e → is_type t u (slice_index xs (i + 1)) ≡ false
        → walk_cost t u cost hit after (sections (drop i xs)) ≡ suc (walk_cost t u cost hit after (sections (drop e xs)))
    unfolding walk_cost sections pick
    walk-skip h b = rw (section-at h, b)

    walk-hit : i < e → is_type t u (slice_index xs (i + 1)) ≡ true
        → walk_cost t u cost hit after (sections (drop i xs))
        ≡ suc (cost (take (e - (i + 2)) (drop (i + 2) xs)) + pick (hit (take (e - (i + 2)) (drop (i + 2) xs))) 0
        (walk_cost t u cost hit after (sections (drop e xs))))
    unfolding walk_cost sections pick
    walk-hit h b = rw (section-at h, b)

-- the turns of the lookup's loop, with i the index reached
pub record Passed (t u : ℕ) (xs : List ℕ) (at i seen : ℕ) : Type 0 where
  pub left : contents t u (drop at xs) ≡ contents t u (drop i xs)
  pub costs : (cost : List ℕ → ℕ) (hit : List ℕ → Bool) (after : ℕ)
      → walk_cost t u cost hit after (sections (drop at xs)) ≡ seen + walk_cost t u cost hit after (sections (drop i xs))

pub passed_none : (t u : ℕ) (xs : List ℕ) (at : ℕ) → Passed t u xs at at 0
passed_none t u xs at = record { left = refl; costs = λ c h k. sym (zero-add _) }

module _ (t u : ℕ) (xs : List ℕ) (at i seen : ℕ) (q : Passed t u xs at i seen) where
  pub passed-skip : (e : ℕ) → PartAt 1 xs i e → i < e → is_type t u (slice_index xs (i + 1)) ≡ false
      → Passed t u xs at e (seen + 1)
  passed-skip e p b y =
      record {
        left = q.left ∙ contents-skip t u xs i e p b y;
        costs = λ c h k. let z = q.costs c h k in let w = walk-skip t u xs i e p c h k b y in omega arith;
      }

  -- how it ends
  none_left : (l : ℕ) → seen + at ≤ length xs → contents t u (drop i xs) ≡ []
      → ((c : List ℕ → ℕ) (h : List ℕ → Bool) (k : ℕ) → walk_cost t u c h k (sections (drop i xs)) ≡ k)
      → Lookup t u xs at false seen l l
  none_left l f e w = record {
    none = λ _. q.left ∙ e;
    low = λ z. absurd (false≢true z);
    order = λ z. absurd (false≢true z);
    high = λ z. absurd (false≢true z);
    more = λ z. absurd (false≢true z);
    few = λ _. f;
    pass = λ _ c h k. q.costs c h k ∙ ap (λ (j : ℕ). seen + j) (w c h k);
    meet = λ z. absurd (false≢true z);
  }

  pub lookup-end : (l : ℕ) → seen + at ≤ length xs → length xs ≤ i → Lookup t u xs at false seen l l
  lookup-end l f h = none_left l f (contents-end t u xs i h) (λ c y k. walk_end t u c y k xs i h)

  pub lookup-none : (l e : ℕ) → seen + at ≤ length xs → PartAt 1 xs i e → e ≡ i → Lookup t u xs at false seen l l
  lookup-none l e f p z = none_left l f (contents-none t u xs i e p z) (λ c y k. walk_none t u xs i e p c y k z)

  pub lookup-hit : (e : ℕ) → seen + at ≤ i → PartAt 1 xs i e → i < e → is_type t u (slice_index xs (i + 1)) ≡ true
      → Lookup t u xs at true (seen + 1) (i + 2) e
  lookup-hit e f p b y = record {
    none = λ z. absurd (false≢true (sym z));
    low = λ _. omega arith;
    order = λ _. omega (arith, p.room b);
    high = λ _. p.high;
    more = λ _. q.left ∙ contents-hit t u xs i e p b y;
    few = λ z. absurd (false≢true (sym z));
    pass = λ z. absurd (false≢true (sym z));
    meet = λ _ c h k. let z = q.costs c h k in let w = walk-hit t u xs i e p c h k b y in omega arith;
  }

-- no more AD types are looked at than the text has octets
pub seen-short : {t u : ℕ} {xs : List ℕ} {at : ℕ} {found : Bool} {seen from to : ℕ}
    → Lookup t u xs at found seen from to → seen ≤ length xs
seen-short {xs = xs} {found = found} {seen = seen} p =
    go found refl (λ e. omega (arith, p.low e, p.order e, p.high e)) (λ e. omega (arith, p.few e))
  where
    go : (b : Bool) → found ≡ b → (found ≡ true → seen ≤ length xs) → (found ≡ false → seen ≤ length xs)
        → seen ≤ length xs
    go true e f g = f e
    go false e f g = g e
