-- `side_info_writer::write_scalefactors` meets its contract. The loop's invariant: what is written and what the slots to come send make the whole.
use mathlib.Core.Path.{ap, ◌∙◌}
use mathlib.Core.List.{flat_map, ◌++◌}
use Prim.Native.Nat.{ℕ}
use native.Mathlib.Omega.{arith}
use lib.ListN.{length}
use Rattle.audio_data.specs.Scfsi.{Three, sent}
use Rattle.bit_string.specs.Bits.{bits_of}
use Rattle.side_info.specs.SideInfo.{scfsi_in, tabled, scalefactor_bits, scalefactor_asked}
use Rattle.side_info_writer.specs.OnTheWay.{EachTabled}
use Rattle.side_info_writer.proofs.PartLaws.{part_fits, part_written, parts_written}
use Rattle.side_info_writer.proofs.write_scalefactors.Goals as goal

pub put_sent-requires : goal.put_sent-requires
put_sent-requires c =
    let r = c.args.info.now in
    let slot = c.from-slot.ensures in
    let each : EachTabled c.as_slice-slot-items.result.now r = rw c.as_slice-slot-items.ensures c.requires.0 in
    let fits = part_fits c.as_slice-slot-items.result.now (scalefactor_bits r) _ _ _ c.loop-slot.invariant 0 _ c.loop-slot-test.true slot 1392
    (rw c.as_slice-slot-items.ensures c.requires.1) in
    let long = ap (λ (t : Three). length (flat_map (bits_of 6) (sent (scfsi_in r c.from-slot.result) t))) c.granules.ensures in (
      ap tabled c.granules.ensures ∙ ap (λ (s : ℕ). (scalefactor_asked r s).yes) slot ∙ each.yes _ c.loop-slot-test.true,
      omega (arith, fits, long),
    )

pub loop-slot-preserved : goal.loop-slot-preserved
loop-slot-preserved c =
    let r = c.args.info.now in
    rw (c.put_sent.ensures ∙ ap (λ (t : Three). c.loop-slot.writer ++ flat_map (bits_of 6) (sent (scfsi_in r c.from-slot.result) t)) c.granules.ensures)
    (part_written c.as_slice-slot-items.result.now (scalefactor_bits r) _ _ _ c.loop-slot.invariant 0 _ c.loop-slot-test.true c.from-slot.ensures)

pub returns : goal.returns
returns c =
    rw (← c.as_slice-slot-items.ensures)
    (parts_written c.as_slice-slot-items.result.now (scalefactor_bits c.args.info.now) _ _ _ c.loop-slot.invariant c.loop-slot-test.false)
