-- `encoder_bit_budget::budget_under` meets its contract.
use mathlib.Core.Path.{sym, ap, ◌∙◌}
use Prim.Native.Nat.{◌≤◌}
use Rattle.std.proofs.lemmas.Result.{err_from_is_err_and}
use Rattle.header.specs.Header.{size_of}
use Rattle.encoder_bit_budget.specs.declared.BitAllocError.TheVariants.{ZeroSampleRate}
use Rattle.encoder_bit_budget.proofs.BudgetLaws.{present, missing, sized, not_sized, few_bytes, no_sample_rate, all_asked, refused, accepted, under}
use borrow.Author.Rules.{rules}
use Rattle.encoder_bit_budget.proofs.budget_under.Goals as goal
use Rattle.encoder_bit_budget.proofs.budget_under.Goals.{After-of_header-layout}

pub returns-in_err-bytes : goal.returns-in_err-bytes
returns-in_err-bytes c =
    let asked = c.requires in
    let p = err_from_is_err_and c.from_residual.result c.from_residual.ensures.1 in
    let m = missing _ _ _ c.in_err-bytes.ensures.value in
    rw (p.1, p.2, m.1)
    (refused _ ZeroSampleRate
    (no_sample_rate _ asked.rate _ asked.named (not_sized _ (ap size_of (sym m.0) ∙ c.frame_size_bytes.ensures.whole))))

-- the bytes are those of a frame at a rate on the ladder
few : (c : After-of_header-layout) → c.in_ok-bytes.bytes ≤ 55_296_001
few c =
    let z = sized _ _ (ap size_of (sym (present _ _ _ c.in_ok-bytes.ensures.value)) ∙ c.frame_size_bytes.ensures.whole) in
    few_bytes _ _ c.requires.rate z.many

pub overflow_cast-bytes : goal.overflow_cast-bytes
overflow_cast-bytes c = let few = few (goal.at.overflow_cast-bytes c).After-of_header-layout in search rules

pub overflow_mul-bytes : goal.overflow_mul-bytes
overflow_mul-bytes c = let few = few (goal.at.overflow_mul-bytes c).After-of_header-layout in search rules

pub returns : goal.returns
returns c =
    let asked = c.requires in
    let z = sized _ _ (ap size_of (sym (present _ _ _ c.in_ok-bytes.ensures.value)) ∙ c.frame_size_bytes.ensures.whole) in
    accepted _ _ _ asked.named (all_asked _ asked.rate _ asked.named z.rated)
    (under _ _ _ _ _ z.many c.of_header-layout.ensures c.budget_with.ensures)
