-- Laws of the definitions in Tables.
use Rattle.std.specs.Prelude.{ℕ, zero, suc, ◌+◌, ◌≡◌, refl, Bool, true, false, ◌&&◌, List, [], ◌∷◌, ◌++◌, length}
use Rattle.std.proofs.Common.{sym, ap, ◌∙◌, arith, add-one, length-append}
use Rattle.laws.specs.Loops.{up_to}
use Rattle.totals.specs.declared.Row.{Row}
use Rattle.totals.specs.Two.{every_two, map_two}
use Rattle.totals.specs.Table.{row_sum}
use Rattle.totals.proofs.JoinLaws.{sum-assoc}
use Rattle.months.specs.Tables.{table_of}

pub length-table : (f : ℕ → Row) (n : ℕ) → length (table_of f n) ≡ n
unfolding table_of up_to
length-table f zero = refl
length-table f (suc n) = length-append (table_of f n) (f n ∷ []) ∙ ap (λ (k : ℕ). k + 1) (length-table f n) ∙ add-one n

-- two tables that stand for the same
pub table_same : (f g : ℕ → Row) → ((h : ℕ) → f h ≡ g h) → (n : ℕ) → table_of f n ≡ table_of g n
unfolding table_of up_to
table_same f g e zero = refl
table_same f g e (suc n) =
    ap (λ (l : List Row). l ++ (f n ∷ [])) (table_same f g e n) ∙ ap (λ (r : Row). table_of g n ++ (r ∷ [])) (e n)

-- row by row over lists in two parts
pub map-two-append : {A : Type 0} (f : A → A → A) (a b c d : List A) → length a ≡ length b
    → map_two f (a ++ c) (b ++ d) ≡ map_two f a b ++ map_two f c d
unfolding map_two
map-two-append f [] [] c d e = refl
map-two-append f [] (y ∷ b) c d e = absurd (omega arith)
map-two-append f (x ∷ a) [] c d e = absurd (omega arith)
map-two-append f (x ∷ a) (y ∷ b) c d e = ap (λ l. f x y ∷ l) (map-two-append f a b c d (omega arith))

pub every-two-append : {A : Type 0} (f : A → A → Bool) (a b c d : List A) → length a ≡ length b
    → every_two f (a ++ c) (b ++ d) ≡ (every_two f a b && every_two f c d)
unfolding every_two
every-two-append f [] [] c d e = refl
every-two-append f [] (y ∷ b) c d e = absurd (omega arith)
every-two-append f (x ∷ a) [] c d e = absurd (omega arith)
every-two-append f (x ∷ a) (y ∷ b) c d e =
    ap (λ (t : Bool). f x y && t) (every-two-append f a b c d (omega arith))
    ∙ and_assoc (f x y) (every_two f a b) (every_two f c d)
  where
    and_assoc : (p q r : Bool) → (p && (q && r)) ≡ ((p && q) && r)
    and_assoc true q r = refl
    and_assoc false q r = refl

-- row by row over tables
pub table-two : (k : Row → Row → Row) (f g : ℕ → Row) (n : ℕ)
    → map_two k (table_of f n) (table_of g n) ≡ table_of (λ h. k (f h) (g h)) n
unfolding table_of up_to map_two
table-two k f g zero = refl
table-two k f g (suc n) =
    map-two-append k (table_of f n) (table_of g n) (f n ∷ []) (g n ∷ []) (length-table f n ∙ sym (length-table g n))
    ∙ ap (λ (l : List Row). l ++ (k (f n) (g n) ∷ [])) (table-two k f g n)

-- sums of tables are associative
pub tables-assoc : (a b c : List Row) → map_two row_sum (map_two row_sum a b) c ≡ map_two row_sum a (map_two row_sum b c)
unfolding map_two
tables-assoc [] b c = refl
tables-assoc (x ∷ a) [] c = refl
tables-assoc (x ∷ a) (y ∷ b) [] = refl
tables-assoc (x ∷ a) (y ∷ b) (z ∷ c) =
    ap (λ (r : Row). r ∷ map_two row_sum (map_two row_sum a b) c) (sum-assoc x y z)
    ∙ ap (λ (l : List Row). row_sum x (row_sum y z) ∷ l) (tables-assoc a b c)
