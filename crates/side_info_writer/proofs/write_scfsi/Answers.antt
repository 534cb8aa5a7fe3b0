-- `side_info_writer::write_scfsi` meets its contract. The loop's invariant: what is written and what the slots to come send make the whole.
use native.Mathlib.Omega.{arith}
use lib.Dec.{lit≤}
use Rattle.audio_data.specs.Scfsi.{code_of}
use Rattle.bit_string.proofs.BitLaws.{length_bits}
use Rattle.side_info.specs.SideInfo.{scfsi_in, scfsi_bits}
use Rattle.side_info_writer.proofs.PartLaws.{part_fits, part_written, parts_written}
use Rattle.side_info_writer.proofs.write_scfsi.Goals as goal

pub put-requires : goal.put-requires
put-requires c =
    let r = c.args.info.now in
    let fits = part_fits c.as_slice-slot-items.result.now (scfsi_bits r) _ _ _ c.loop-slot.invariant 0 _ c.loop-slot-test.true c.from.ensures 1392
    (rw c.as_slice-slot-items.ensures c.requires) in
    (lit≤ tt, omega (arith, c.code.ensures.small, c.from-in-loop-slot.ensures), omega (arith, fits, length_bits 2 (code_of (scfsi_in r c.from.result))))

pub loop-slot-preserved : goal.loop-slot-preserved
loop-slot-preserved c =
    rw (c.put.ensures, c.from-in-loop-slot.ensures, c.code.ensures.whole)
    (part_written c.as_slice-slot-items.result.now (scfsi_bits c.args.info.now) _ _ _ c.loop-slot.invariant 0 _ c.loop-slot-test.true c.from.ensures)

pub returns : goal.returns
returns c = rw (← c.as_slice-slot-items.ensures) (parts_written c.as_slice-slot-items.result.now (scfsi_bits c.args.info.now) _ _ _ c.loop-slot.invariant c.loop-slot-test.false)
