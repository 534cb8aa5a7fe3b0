-- `quantization::class_of_quantization` meets its contract. The loop's invariant: no class that was passed has the steps.
use Rattle.std.proofs.Common.{arith}
use Rattle.quantization.proofs.ClassLaws.{class_found, class_missing}
use Rattle.quantization.proofs.class_of_quantization.Goals as goal
use Rattle.quantization.proofs.class_of_quantization.Invariants.{blank}

pub returns-then-class-nb_steps : goal.returns-then-class-nb_steps
returns-then-class-nb_steps c =
    class_found _ _ _ blank c.quant_classes-class-items.ensures c.loop-class-test.true c.loop-class.invariant c.if-class-nb_steps.true

pub returns : goal.returns
returns c = class_missing _ _ blank c.quant_classes-class-items.ensures (λ k l. c.loop-class.invariant k (omega arith))
