-- What an upgraded image holds: the very state that the earlier one was saved of, field for field.
use Rattle.std.specs.Prelude.{ℕ, ◌+◌, ◌≡◌, refl, true, List, [], ◌∷◌, ◌++◌, map, length, take, drop}
use Rattle.std.proofs.Common.{sym, ap, ◌∙◌, arith}
use Rattle.std.proofs.Math.Option.{Option, none, some}
use Rattle.laws.specs.Tests.{pick}
use Rattle.laws.specs.Loops.{each}
use Rattle.octets.specs.Little.{octets_of}
use Rattle.lines.specs.Hex.{text_of}
use Rattle.rule.specs.Base.{All}
use Rattle.model.specs.Types.{Model, Monitor, Pair}
use Rattle.model.specs.Sound.{sound_model}
use Rattle.model.specs.Layout.{prefix_length_at}
use Rattle.model.specs.Image.{head_row, monitor_text, monitor_row, name_of, extra_text, pair_row, end_row, records}
use Rattle.editions.specs.Editions.{Gateway, Edition, edition_row, records_on, image_on, read_on}
use Rattle.editions.proofs.ImagesLaws.{restores}
use Rattle.failover.specs.Alone.{only, alone}
use Rattle.failover.proofs.AloneLaws.{alone-sound}
use Rattle.upgrades.specs.Formats.{filled, old_pair, new_pair, earlier, fill_line, renewed}

-- a monitor's line stays
stays-monitor : (x : ℕ × Monitor) → fill_line (monitor_text x) ≡ monitor_text x
unfolding fill_line monitor_text name_of pick
stays-monitor x = go x.1.extra
  where
    go : (o : Option (List ℕ)) → fill_line (name_of o ∷ (monitor_row x ++ extra_text o)) ≡ name_of o
        ∷ (monitor_row x ++ extra_text o)
    go none = refl
    go (some l) = refl

stays-monitors : (xs : List (ℕ × Monitor)) → map fill_line (map monitor_text xs) ≡ map monitor_text xs
stays-monitors [] = refl
stays-monitors (x ∷ xs) =
    ap (λ (l : List ℕ). l ∷ map fill_line (map monitor_text xs)) (stays-monitor x)
    ∙ ap (λ (l : List (List ℕ)). monitor_text x ∷ l) (stays-monitors xs)

-- an A3 line stays
stays-pairs : (qs : List Pair) → map fill_line (map new_pair qs) ≡ map new_pair qs
unfolding fill_line new_pair pick
stays-pairs [] = refl
stays-pairs (q ∷ qs) = ap (λ (l : List (List ℕ)). new_pair q ∷ l) (stays-pairs qs)

-- an A2 line becomes the A3 line of the pair, where what is kept is what is filled in
fills-pair : (q : Pair) → length q.address ≡ 6 → q.kept ≡ filled → fill_line (old_pair q) ≡ new_pair q
unfolding fill_line old_pair new_pair pair_row pick octets_of
fills-pair q h e = go q.address h
  where
    go : (a : List ℕ) → length a ≡ 6
        → fill_line (0xA2 ∷ q.handle ∷ q.address_type
        ∷ (a ++ (octets_of 2 q.since_good ++ (q.ticks ∷ (octets_of 4 q.packets ++ (octets_of 8 q.sum
        ++ (q.event ∷ length q.adv ∷ q.adv)))))))
        ≡ 0xA3 ∷ q.handle ∷ q.address_type
        ∷ (a ++ (octets_of 2 q.since_good ++ (q.ticks ∷ (octets_of 4 q.packets ++ (octets_of 8 q.sum
        ++ (q.kept ∷ q.event ∷ length q.adv ∷ q.adv))))))
    go (a ∷ b ∷ c ∷ d ∷ f ∷ g ∷ []) l = rw e
    go [] l = absurd (omega arith)
    go (a ∷ []) l = absurd (omega arith)
    go (a ∷ b ∷ []) l = absurd (omega arith)
    go (a ∷ b ∷ c ∷ []) l = absurd (omega arith)
    go (a ∷ b ∷ c ∷ d ∷ []) l = absurd (omega arith)
    go (a ∷ b ∷ c ∷ d ∷ f ∷ []) l = absurd (omega arith)
    go (a ∷ b ∷ c ∷ d ∷ f ∷ g ∷ h ∷ r) l = absurd (omega arith)

-- what format 1 asks of a pair: an address of six octets, as every sound pair has, and that the filled octet is what
-- it keeps
pub record Fills (q : Pair) : Type 0 where
  pub six : length q.address ≡ 6
  pub kept : q.kept ≡ filled

fills-pairs : (qs : List Pair) → All Fills qs → map fill_line (map old_pair qs) ≡ map new_pair qs
fills-pairs [] a = refl
fills-pairs (q ∷ qs) a =
    ap (λ (l : List ℕ). l ∷ map fill_line (map old_pair qs)) (fills-pair q a.0.six a.0.kept)
    ∙ ap (λ (l : List (List ℕ)). new_pair q ∷ l) (fills-pairs qs a.1)

map-append : (f : List ℕ → List ℕ) (xs ys : List (List ℕ)) → map f (xs ++ ys) ≡ map f xs ++ map f ys
map-append f [] ys = refl
map-append f (x ∷ xs) ys = ap (λ (l : List (List ℕ)). f x ∷ l) (map-append f xs ys)

-- the one edition's line
edition-line : (m : Model) → 0xA4 ∷ 0 ∷ 0 ∷ 0 ∷ 0 ∷ drop (1 + prefix_length_at) (0xA0 ∷ head_row m) ≡ 0xA4
    ∷ edition_row (record { from = 0; prefix = m.prefix })
unfolding head_row edition_row octets_of
edition-line m = refl

-- the lines behind the head
lines-behind : (line : Pair → List ℕ) (m : Model) → map fill_line (map line m.pairs) ≡ map new_pair m.pairs
    → map fill_line (map monitor_text m.mons ++ (map line m.pairs ++ ((0xAF ∷ end_row m) ∷ [])))
    ≡ map monitor_text m.mons ++ (map new_pair m.pairs ++ ((0xAF ∷ end_row m) ∷ []))
unfolding fill_line pick
lines-behind line m e =
    map-append fill_line (map monitor_text m.mons) (map line m.pairs ++ ((0xAF ∷ end_row m) ∷ []))
    ∙ ap (λ (l : List (List ℕ)). l ++ map fill_line (map line m.pairs ++ ((0xAF ∷ end_row m) ∷ [])))
    (stays-monitors m.mons)
    ∙ ap (λ (l : List (List ℕ)). map monitor_text m.mons ++ l)
    (map-append fill_line (map line m.pairs) ((0xAF ∷ end_row m) ∷ [])
    ∙ ap (λ (l : List (List ℕ)). l ++ ((0xAF ∷ end_row m) ∷ [])) e)

renewed-lines : (line : Pair → List ℕ) (m : Model) → map fill_line (map line m.pairs) ≡ map new_pair m.pairs
    → renewed (earlier line m) ≡ records_on (alone m)
unfolding renewed earlier records_on alone only records new_pair
renewed-lines line m e =
    ap (λ (l : List ℕ). (0xA0 ∷ head_row m)
    ∷ (l ∷ map fill_line (map monitor_text m.mons ++ (map line m.pairs ++ ((0xAF ∷ end_row m) ∷ [])))))
    (edition-line m)
    ∙ ap (λ (l : List (List ℕ)). (0xA0 ∷ head_row m)
    ∷ ((0xA4 ∷ edition_row (record { from = 0; prefix = m.prefix })) ∷ l)) (lines-behind line m e)

-- THE CLAIMS. An image of format 2 or 3, upgraded, is today's image of the same state with its prefix as the one
-- edition, and restores to it.
pub from-three : (m : Model) → each text_of (renewed (earlier new_pair m)) ≡ image_on (alone m)
unfolding image_on
from-three m = ap (each text_of) (renewed-lines new_pair m (stays-pairs m.pairs))

pub three-kept : (m : Model) → sound_model m ≡ true
    → read_on (each text_of (renewed (earlier new_pair m))) ≡ some (alone m)
three-kept m h = ap read_on (from-three m) ∙ restores (alone m) (alone-sound m h)

-- An image of format 1, upgraded, is today's image of the state whose pairs keep the filled RSSI, all other fields as
-- the A2 lines say them.
pub from_one : (m : Model) → All Fills m.pairs → each text_of (renewed (earlier old_pair m)) ≡ image_on (alone m)
unfolding image_on
from_one m a = ap (each text_of) (renewed-lines old_pair m (fills-pairs m.pairs a))

pub one_kept : (m : Model) → All Fills m.pairs → sound_model m ≡ true
    → read_on (each text_of (renewed (earlier old_pair m))) ≡ some (alone m)
one_kept m a h = ap read_on (from_one m a) ∙ restores (alone m) (alone-sound m h)
