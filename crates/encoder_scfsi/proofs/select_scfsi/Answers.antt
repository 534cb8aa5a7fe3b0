-- `encoder_scfsi::select_scfsi` meets its contract: what its calls ensure puts the definition's selection together.
use Rattle.encoder_scfsi.proofs.SelectLaws.{selected}
use Rattle.encoder_scfsi.proofs.select_scfsi.Goals as goal

pub returns : goal.returns
returns c =
    selected _ _ _ _ _ _ _ _ _ _ c.class_of_difference-class1.ensures c.class_of_difference-class2.ensures
    c.row_of-row.ensures c.named.ensures c.named-2.ensures c.named-3.ensures c.of_code-scfsi.ensures
