-- `word_notes::with_excerpt` meets its contract.
use mathlib.Core.Path.{ap, ◌∙◌}
use mathlib.Core.List.{List, ◌++◌}
use Prim.Native.Nat.{ℕ}
use Rattle.text_line.specs.Line.{text_of, cut}
use Rattle.word_notes.proofs.NoteLaws.{excerpt_is}
use Rattle.word_notes.proofs.with_excerpt.Goals as goal

pub returns : goal.returns
returns c =
    let args = c.args in
    c.text.ensures
    ∙ ap (λ (u : List ℕ). cut (text_of args.line ++ u))
    (excerpt_is args.words.now args.place _ _ _ c.min-last.ensures c.min-start.ensures c.min.ensures)
