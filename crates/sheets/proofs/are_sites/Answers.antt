use Rattle.std.proofs.Common.{ℕ, ap, ◌∙◌, arith}
use Rattle.sheets.specs.Sites.{are_sites}
use Rattle.sheets.specs.SitesLaws.{mark-before, half-pair, with-mark, no-mark}
use Rattle.sheets.proofs.are_sites.Goals as goal

pub returns-then-end-first : goal.returns-then-end-first
returns-then-end-first c = let a = c.args in
    mark-before a.first c.unwrap_or-end.result a.words (omega arith)
    ∙ ap (λ (m : ℕ). are_sites a.first m a.words) c.unwrap_or-end.ensures

pub returns-then-end-first-ne0 : goal.returns-then-end-first-ne0
returns-then-end-first-ne0 c = let a = c.args in
    half-pair a.first c.unwrap_or-end.result a.words (omega arith) c.if-end-first-ne0.true
    ∙ ap (λ (m : ℕ). are_sites a.first m a.words) c.unwrap_or-end.ensures

pub returns-then-end-words : goal.returns-then-end-words
returns-then-end-words c = let a = c.args in
    with-mark a.first c.unwrap_or-end.result a.words (omega arith) c.if-end-first-ne0.false (omega arith)
    ∙ ap (λ (m : ℕ). are_sites a.first m a.words) c.unwrap_or-end.ensures

pub returns : goal.returns
returns c = let a = c.args in
    no-mark a.first c.unwrap_or-end.result a.words (omega arith) c.if-end-first-ne0.false (omega arith)
    ∙ ap (λ (m : ℕ). are_sites a.first m a.words) c.unwrap_or-end.ensures
