use Rattle.std.proofs.Common.{◌≡◌, ℕ, ◌+◌, List, [], ◌∷◌, length, ap, ◌∙◌, arith}
use Rattle.model.specs.Layout.{count_at}
use Rattle.laws.specs.Put.{put}
use Rattle.laws.specs.PutLaws.{set-put}
use Rattle.packets.proofs.starts.push_row.Goals as goal

pub returns : goal.returns
returns c = let a = c.args in
    let k : length c.start_row.new.s ≡ length
    a.s.now = c.start_row.auto.s in
    set-put c.start_row.new.s count_at (a.n + 1) (omega arith)
    ∙ ap (λ (l : List ℕ). put l count_at ((a.n + 1) ∷ [])) c.start_row.ensures
