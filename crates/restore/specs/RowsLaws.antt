-- Laws of the definitions in Rows.
use Rattle.std.specs.Prelude.{ℕ, ◌+◌, ◌-◌, ◌≤◌, ◌≡◌, List, ◌++◌, length, replicate}
use Rattle.std.proofs.Common.{sym, ap, ◌∙◌, arith}
use Rattle.std.proofs.lemmas.List.{length-replicate, replicate-append-replicate}
use Rattle.laws.specs.Put.{put}
use Rattle.laws.specs.PutLaws.{put-left}
use Rattle.laws.specs.RowsLaws.{put_whole}
use Rattle.model.specs.Block.{pad_to}

-- a row put over zeros has zeros behind it
pub put-zeros : (n : ℕ) (r : List ℕ) → length r ≤ n → put (replicate n 0) 0 r ≡ pad_to n r
unfolding pad_to
put-zeros n r h =
    let z : List ℕ = replicate (length r) 0 in
    let k : length z ≡ length r = length-replicate {A = ℕ} (length r) 0 in
    let e : length r + (n - length r) ≡ n = omega arith in
    ap (λ (j : ℕ). put (replicate j 0) 0 r) (sym e)
    ∙ ap (λ (l : List ℕ). put l 0 r) (sym (replicate-append-replicate (length r) (n - length r) 0))
    ∙ put-left z (replicate (n - length r) 0) 0 r (omega arith)
    ∙ ap (λ (l : List ℕ). l ++ replicate (n - length r) 0) (put_whole z r k)
