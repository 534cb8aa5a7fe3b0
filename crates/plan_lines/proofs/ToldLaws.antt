-- The line of an allocation's refusal: its parts, and that a line holds it.
use Rattle.std.proofs.Common.{◌≡◌, refl, ap, ◌∙◌, ℕ, ◌++◌, ◌≤◌, length}
use Rattle.header.specs.declared.FrameHeader.{FrameHeader}
use Rattle.encoder_bit_budget.specs.declared.BitAllocError.{BitAllocError}
use Rattle.encoder_bit_budget.specs.declared.BitAllocError.TheVariants.{RateOffLadder, NoBitallocTable, ZeroSampleRate, InsufficientFrameSize}
use Rattle.encoder_bit_budget.specs.Budget.{error_number}
use Rattle.plan_text.specs.Quoted.{text}
use Rattle.text_line.specs.Number.{number_text}
use Rattle.plan_lines.specs.Refusal.{reason_text, refusal_line}
use Rattle.plan_lines.specs.Held.{told}
use Rattle.plan_lines.proofs.Lengths.{refusal_length}

-- the number and the sentence
pub line_told : (h : FrameHeader) (e : BitAllocError) (n : ℕ) → n ≡ error_number e
    → text "refused " ++ number_text n ++ text ": " ++ told (reason_text h) e ≡ told (refusal_line h) e
unfolding refusal_line
line_told h e n q = ap (λ (n : ℕ). text "refused " ++ number_text n ++ text ": " ++ told (reason_text h) e) q ∙ go e
  where
    go : (e : BitAllocError) → text "refused " ++ number_text (error_number e) ++ text ": " ++ told (reason_text h) e ≡ told (refusal_line h) e
    go RateOffLadder = refl
    go NoBitallocTable = refl
    go ZeroSampleRate = refl
    go (InsufficientFrameSize cb fixed banc) = refl

pub told_length : (h : FrameHeader) (e : BitAllocError) → length (told (refusal_line h) e) ≤ 256
told_length h RateOffLadder = refusal_length h 16 0 0 0
told_length h NoBitallocTable = refusal_length h 1 0 0 0
told_length h ZeroSampleRate = refusal_length h 2 0 0 0
told_length h (InsufficientFrameSize cb fixed banc) = refusal_length h 4 cb fixed banc
