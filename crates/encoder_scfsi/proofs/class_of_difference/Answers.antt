-- `encoder_scfsi::class_of_difference` meets its contract: the difference of two bytes fits 16 bits and is read back from them.
use mathlib.Core.Path.{ap, ◌∙◌}
use Rattle.encoder_scfsi.specs.Class.{difference_class}
use Rattle.encoder_scfsi.proofs.ClassLaws.{bytes_fit, bytes_read}
use Rattle.encoder_scfsi.proofs.class_of_difference.Goals as goal

pub overflow_sub-scf : goal.overflow_sub-scf
overflow_sub-scf c = bytes_fit c.args.scf c.args.next c.ranges.scf.fits c.ranges.next.fits

pub returns : goal.returns
returns c =
    c.classify_difference.ensures ∙ ap difference_class (bytes_read c.args.scf c.args.next c.ranges.scf.fits c.ranges.next.fits)
